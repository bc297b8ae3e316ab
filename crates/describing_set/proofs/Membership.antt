-- Membership in six places, read without a count.
use Rattle.std.proofs.{Common.{ℕ, zero, suc, ◌≡◌, ◌≢◌, ◌-◌, ◌<◌, List, [], ◌∷◌, ◌++◌, length, take, Bool, true, false, eqb, refl, sym, ap, ◌∙◌, arith, get_or, inl, inr}, lemmas.Bool.eqb-true, lemmas.List.get_or_default}
use Rattle.std.specs.{List.list_any, Prelude.{◌||◌, replicate}}
use Rattle.dim_hierarchy.specs.Tree.{Tree, IsConcept, IsTree}
use Rattle.describing_set.specs.{Ascending.with_id, Places.{no_concept, AreFew}, Sorted.{In, Ascends}}
use Rattle.describing_set.proofs.Sorted.{with_id-here, with_id-after, Below-In}

-- no concept of a tree has the number of none
pub concept_is_one : (t : Tree) → IsTree t → (id : ℕ) → IsConcept t id → id ≢ no_concept
concept_is_one t w id c e = let few = w.few in let level = c.level in absurd (omega (arith, few, level, e))

not_no_concept : (id : ℕ) → id ≢ no_concept → eqb no_concept id ≡ false
not_no_concept id ne = elim (eqb no_concept id) as (λ b. b ≡ eqb no_concept id → b ≡ false) [
  | true ↦ λ h. absurd (ne (sym (eqb-true no_concept id (sym h))))
  | false ↦ λ h. refl
] refl

none_unused : (k id : ℕ) → id ≢ no_concept → list_any (λ x. eqb x id) (replicate k no_concept) ≡ false
none_unused zero id ne = refl
none_unused (suc k) id ne = ap (λ b. b || list_any (λ x. eqb x id) (replicate k no_concept)) (not_no_concept id ne) ∙ none_unused k id ne

any-filled : (used : List ℕ) (k id : ℕ) → id ≢ no_concept → list_any (λ x. eqb x id) (used ++ replicate k no_concept) ≡ list_any (λ x. eqb x id) used
any-filled [] k id ne = none_unused k id ne
any-filled (x ∷ xs) k id ne = ap (λ b. eqb x id || b) (any-filled xs k id ne)

-- the used places have what all six have
pub any-take : (n : ℕ) (xs : List ℕ) (id : ℕ) → AreFew n xs → id ≢ no_concept → list_any (λ x. eqb x id) (take n xs) ≡ list_any (λ x. eqb x id) xs
any-take n xs id f ne =
    sym (any-filled (take n xs) (6 - length (take n xs)) id ne) ∙ ap (list_any (λ x. eqb x id)) f.unused

or_false : (b : Bool) → (b || false) ≡ b
or_false true = refl
or_false false = refl

-- what a compare of one place says
pub read : (xs : List ℕ) (k r id : ℕ) (b : Bool) → k < length xs → b ≡ eqb (get_or xs k r) id → b ≡ eqb (get_or xs k 0) id
read xs k r id b lt h = h ∙ ap (λ y. eqb y id) (get_or_default xs k r 0 lt)

-- six compares
pub any-six : (xs : List ℕ) (id : ℕ) → length xs ≡ 6
    → list_any (λ x. eqb x id) xs
    ≡ (eqb (get_or xs 0 0) id || (eqb (get_or xs 1 0) id || (eqb (get_or xs 2 0) id || (eqb (get_or xs 3 0) id || (eqb (get_or xs 4 0) id || eqb (get_or xs 5 0) id)))))
any-six (a ∷ b ∷ c ∷ d ∷ e ∷ f ∷ []) id l = ap (λ z. eqb a id || (eqb b id || (eqb c id || (eqb d id || (eqb e id || z))))) (or_false (eqb f id))
any-six [] id l = absurd (omega arith)
any-six (a ∷ []) id l = absurd (omega arith)
any-six (a ∷ b ∷ []) id l = absurd (omega arith)
any-six (a ∷ b ∷ c ∷ []) id l = absurd (omega arith)
any-six (a ∷ b ∷ c ∷ d ∷ []) id l = absurd (omega arith)
any-six (a ∷ b ∷ c ∷ d ∷ e ∷ []) id l = absurd (omega arith)
any-six (a ∷ b ∷ c ∷ d ∷ e ∷ f ∷ g ∷ xs) id l = absurd (omega arith)

-- a number of ascending ones is no number more
pub with_id-member : (x : ℕ) (ys : List ℕ) → Ascends ys → In x ys → with_id x ys ≡ ys
with_id-member x [] a i = absurd i
with_id-member x (y ∷ ys) a i = elim i [
  | inl q ↦ with_id-here x y ys q
  | inr r ↦ with_id-after x y ys (Below-In y x ys a.0 r) ∙ ap (λ l. y ∷ l) (with_id-member x ys a.1 r)
]
