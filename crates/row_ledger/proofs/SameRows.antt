-- Two lists of the same rows, each once, have one aggregate.
use Rattle.std.proofs.{Common.{◌≡◌, ℕ, zero, suc, List, [], ◌∷◌, Bool, true, false, not, refl, sym, ap, subst, arith, ◌==◌, ◌∙◌}, lemmas.Bool.eq-eqb, lemmas.Bool.Decides.nat_tests, lemmas.List.Elements.{All-contains, filter_passes}}
use Rattle.std.specs.{List.{IsDistinct, AllByRecursion}, Prelude.{nat_eq, Contains, filter}}
use Rattle.dim_hierarchy.specs.declared.row.Row.{Row}
use Rattle.measure_agg.specs.{Aggregate.{Aggregate, agg}, Joining.join}
use Rattle.measure_agg.proofs.AggLaws.{join_associative, join_commutative, agg-append}
use Rattle.row_ledger.specs.Bounds.{numbers}
use Rattle.list_words.proofs.Elements.{Contains-nil, Contains-filter, Contains-filtered}
use Rattle.row_ledger.proofs.Answering.{IsDistinct-filter}

abbrev pub is_other : ℕ → Row → Bool
is_other n r = not (r.no == n)

abbrev pub Differs : ℕ → List Row → Type 0
Differs n rows = AllByRecursion (λ y. nat_eq n y ≡ false) (numbers rows)

differs_at : (n : ℕ) (rows : List Row) (x : Row) → Differs n rows → Contains rows x → nat_eq n x.no ≡ false
differs_at n [] x d c = absurd (Contains-nil x c)
differs_at n (r ∷ rows) x d (zero, b, e) = subst (λ (r : Row). nat_eq n r.no ≡ false) e d.0
differs_at n (r ∷ rows) x d (suc k, b, e) = differs_at n rows x d.1 (k, omega arith, e)

all_other : (n : ℕ) (rows : List Row) → Differs n rows → filter (is_other n) rows ≡ rows
all_other n [] d = refl
all_other n (r ∷ rows) d =
    let here : (r.no == n) ≡ false = let f : nat_eq n r.no ≡ false = d.0 in grind (arith, nat_tests) in
    rw (here, all_other n rows d.1) refl

-- an aggregate with one row more

abbrev with_row : Row → Aggregate → Aggregate
with_row r a = join (agg (r ∷ [])) a

agg-with_row : (r : Row) (rows : List Row) → agg (r ∷ rows) ≡ with_row r (agg rows)
agg-with_row r rows = agg-append (r ∷ []) rows

with_row-swap : (r x : Row) (a : Aggregate) → with_row r (with_row x a) ≡ with_row x (with_row r a)
with_row-swap r x a =
    sym (join_associative (agg (r ∷ [])) (agg (x ∷ [])) a)
    ∙ ap (λ both. join both a) (join_commutative (agg (r ∷ [])) (agg (x ∷ [])))
    ∙ join_associative (agg (x ∷ [])) (agg (r ∷ [])) a

-- a row taken out of a list in which it stands once
agg-without : (rows : List Row) (x : Row) → IsDistinct nat_eq (numbers rows) → Contains rows x → agg rows ≡ with_row x (agg (filter (is_other x.no) rows))
unfolding IsDistinct
agg-without [] x d c = absurd (Contains-nil x c)
agg-without (r ∷ rows) x d (zero, b, e) =
    let same : r ≡ x = e in
    let here : (x.no == x.no) ≡ true = eq-eqb x.no x.no refl in
    let d' : Differs x.no rows = subst (λ (y : Row). Differs y.no rows) same d.0 in
    rw (same, here, all_other x.no rows d') (agg-with_row x rows)
agg-without (r ∷ rows) x d (suc k, b, e) =
    let inside : Contains rows x = (k, omega arith, e) in
    let apart : (r.no == x.no) ≡ false = differs_at r.no rows x d.0 inside in
    rw apart (agg-with_row r rows ∙ ap (with_row r) (agg-without rows x d.1 inside) ∙ with_row-swap r x (agg (filter (is_other x.no) rows)) ∙ ap (with_row x) (sym (agg-with_row r (filter (is_other x.no) rows))))

pub agg-same : (xs ys : List Row)
    → IsDistinct nat_eq (numbers xs) → IsDistinct nat_eq (numbers ys)
    → ((r : Row) → Contains xs r → Contains ys r) → ((r : Row) → Contains ys r → Contains xs r) → agg xs ≡ agg ys
unfolding IsDistinct
agg-same [] [] d e f g = refl
agg-same [] (y ∷ ys) d e f g = absurd (Contains-nil y (g y (0, omega arith, refl)))
agg-same (x ∷ xs) ys d e f g =
    let inside : Contains ys x = f x (0, omega arith, refl) in
    let rest : agg xs ≡ agg (filter (is_other x.no) ys) =
    agg-same xs (filter (is_other x.no) ys) d.1 (IsDistinct-filter (is_other x.no) ys e) (into d.0) (out) in
    agg-with_row x xs ∙ ap (with_row x) rest ∙ sym (agg-without ys x e inside)
  where
    into : Differs x.no xs → (r : Row) → Contains xs r → Contains (filter (is_other x.no) ys) r
    into d r (k, b, q) =
        let here : (x.no == r.no) ≡ false = differs_at x.no xs r d (k, b, q) in
        Contains-filter (is_other x.no) ys r (f r (suc k, omega arith, q)) (grind (arith, nat_tests))

    out : (r : Row) → Contains (filter (is_other x.no) ys) r → Contains xs r
    out r c = behind (g r (Contains-filtered (is_other x.no) ys r c)) (All-contains (λ (r : Row). is_other x.no r ≡ true) _ r (filter_passes (is_other x.no) ys) c)
      where
        behind : Contains (x ∷ xs) r → is_other x.no r ≡ true → Contains xs r
        behind (zero, b, q) t =
            let u : not (x.no == x.no) ≡ true = subst (λ (r : Row). is_other x.no r ≡ true) (sym q) t in
            let v : (x.no == x.no) ≡ true = eq-eqb x.no x.no refl in
            absurd (grind (arith, nat_tests))
        behind (suc k, b, q) t = (k, omega arith, q)
