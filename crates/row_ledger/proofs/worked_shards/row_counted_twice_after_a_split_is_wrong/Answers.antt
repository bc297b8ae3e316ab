use Rattle.std.proofs.{Common.{◌≡◌, ◌∙◌, ℕ, zero, suc, List, [], ◌∷◌, false, IsTrue, length, get_or, refl, ap, sym, subst, arith}, lemmas.Bool.{true≢false, false≢true}, lemmas.List.length-map, lemmas.List.Elements.All-map, lemmas.Map.Keys.apart_from_distinct}
use Rattle.std.specs.Prelude.{nat_eq, All, Contains}
use Rattle.dim_hierarchy.specs.{Filter.matches, Tree.{is_under, way_up}, declared.row.Row.Row}
use Rattle.measure_agg.specs.Aggregate.{Aggregate}
use Rattle.row_ledger.specs.{Bounds.numbers, Worked.{site, row, twice}, WorkedShards.{other, for_berlin}}
use Rattle.row_ledger.proofs.Answering.{IsAllowed-right}
use Rattle.row_ledger.proofs.worked_shards.row_counted_twice_after_a_split_is_wrong.Goals as goal

-- of the two rows that were begun the one at berlin has number 2
number : (r : Row) → Contains (other ∷ row ∷ []) r → IsTrue (matches site.hierarchy for_berlin r.at) → r.no ≡ 2
unfolding is_under way_up
number r (zero, within, here) matching = absurd (false≢true (subst (λ (r : Row). IsTrue (matches site.hierarchy for_berlin r.at)) (sym here) matching))
number r (suc zero, within, here) matching = sym (ap (λ (r : Row). r.no) here)
number r (suc (suc k), within, here) matching = absurd (omega arith)

-- two rows of one number aren't apart
pub returns : goal.returns
returns c right =
    let allowed = IsAllowed-right site _ _ 6 twice right.each.0 (record { server = 0; filter = for_berlin }) refl in
    let ns : List ℕ = numbers allowed.rows in
    let same : All (λ n. n ≡ 2) ns = All-map (λ n. n ≡ 2) (λ (r : Row). r.no) allowed.rows
    (λ k d low. number (get_or allowed.rows k d) (allowed.usable k d low) (allowed.matching k d low)) in
    let two : 2 ≡ length ns = ap (λ (a : Aggregate). a.count) allowed.total ∙ sym (length-map allowed.rows (λ (r : Row). r.no)) in
    let apart : nat_eq (get_or ns 0 0) (get_or ns 1 0) ≡ false = apart_from_distinct nat_eq ns 0 1 0 allowed.once (omega arith) (omega arith) in
    true≢false (rw (same 0 0 (omega arith), same 1 0 (omega arith)) at apart)
