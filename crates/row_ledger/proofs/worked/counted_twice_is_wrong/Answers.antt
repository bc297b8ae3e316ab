use Rattle.std.proofs.{Common.{◌≡◌, ◌∙◌, ℕ, List, [], ◌∷◌, false, length, get_or, refl, ap, sym, arith}, lemmas.Bool.{true≢false}, lemmas.List.length-map, lemmas.List.Elements.{All-contains, All-from_recursion, All-map, All-weaker}, lemmas.Map.Keys.apart_from_distinct}
use Rattle.std.specs.Prelude.{nat_eq, All, Contains}
use Rattle.dim_hierarchy.specs.declared.row.Row.{Row}
use Rattle.measure_agg.specs.Aggregate.{Aggregate}
use Rattle.row_ledger.specs.{Bounds.numbers, Worked.row}
use Rattle.row_ledger.proofs.worked.counted_twice_is_wrong.Goals as goal

-- the row that was begun has number 2
number : (r : Row) → Contains (row ∷ []) r → r.no ≡ 2
number r has = All-contains (λ (r : Row). r.no ≡ 2) (row ∷ []) r (All-from_recursion (λ (r : Row). r.no ≡ 2) (row ∷ []) (refl, tt)) has

-- two rows of one number aren't apart
pub returns : goal.returns
returns c right =
    let allowed = right.each.0.allowed in
    let ns : List ℕ = numbers allowed.rows in
    let same : All (λ n. n ≡ 2) ns = All-map (λ n. n ≡ 2) (λ (r : Row). r.no) allowed.rows
    (All-weaker (Contains (row ∷ [])) (λ r. r.no ≡ 2) number allowed.rows allowed.usable) in
    let two : 2 ≡ length ns = ap (λ (a : Aggregate). a.count) allowed.total ∙ sym (length-map allowed.rows (λ (r : Row). r.no)) in
    let apart : nat_eq (get_or ns 0 0) (get_or ns 1 0) ≡ false = apart_from_distinct nat_eq ns 0 1 0 allowed.once (omega arith) (omega arith) in
    true≢false (rw (same 0 0 (omega arith), same 1 0 (omega arith)) at apart)
