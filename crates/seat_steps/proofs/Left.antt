-- Lists of values with numbers, and what is left of them without one number.
use Rattle.std.proofs.Common.{◌≡◌, ◌≢◌, ◌∙◌, ℕ, ◌<◌, ◌≤◌, List, [], ◌∷◌, ◌++◌, length, inl, inr, refl, sym, arith, eq-eqb, ne_eqb}
use mathlib.Core.Logic.{dite}
use mathlib.Core.Option.{some, some-ne-none}
use native.Mathlib.Decide.{ℕ_discrete}
use Rattle.turn_table.specs.{Numbered.{numbers_of, value_of, without}}
use Rattle.turn_table.proofs.Numbered.{find_append_first, find_append_second, find_else, find_here, some_or_none}

-- Of two lists with the same numbers, what is left without one has the same numbers.

pub numbers-without : {A B : Type 0} (ps : List (ℕ × A)) (qs : List (ℕ × B)) (k : ℕ) → numbers_of ps ≡ numbers_of qs → numbers_of (without ps k) ≡ numbers_of (without qs k)
numbers-without [] [] k e = refl
numbers-without [] (q ∷ qs) k e = absurd (cc)
numbers-without (p ∷ ps) [] k e = absurd (cc)
numbers-without (p ∷ ps) (q ∷ qs) k e =
    let heads : p.0 ≡ q.0 = cc in
    let tails : numbers_of ps ≡ numbers_of qs = cc in
    dite (ℕ_discrete p.0 k)
    (λ (same : p.0 ≡ k). rw (eq-eqb p.0 k same, eq-eqb q.0 k (sym heads ∙ same)) (numbers-without ps qs k tails))
    (λ (ne : p.0 ≢ k). rw (ne_eqb p.0 k ne, ne_eqb q.0 k (λ s. ne (heads ∙ s))) (λ i. heads i ∷ numbers-without ps qs k tails i))

pub no-numbers : {A : Type 0} (ps : List (ℕ × A)) → numbers_of ps ≡ [] → ps ≡ []
no-numbers [] e = refl
no-numbers (p ∷ ps) e = absurd (cc)

length-without : {A : Type 0} (ps : List (ℕ × A)) (k : ℕ) → length (without ps k) ≤ length ps
length-without [] k = omega arith
length-without (p ∷ ps) k = let rest = length-without ps k in
    dite (ℕ_discrete p.0 k)
    (λ (same : p.0 ≡ k). rw (eq-eqb p.0 k same) (omega arith))
    (λ (ne : p.0 ≢ k). rw (ne_eqb p.0 k ne) (omega arith))

-- there are fewer without a number that is there
pub less-without : {A : Type 0} (ps : List (ℕ × A)) (k : ℕ) (x : A) → value_of ps k ≡ some x → length (without ps k) < length ps
less-without [] k x e = absurd (some-ne-none x (sym e))
less-without (p ∷ ps) k x e = dite (ℕ_discrete p.0 k)
    (λ (same : p.0 ≡ k). rw (eq-eqb p.0 k same) (let rest = length-without ps k in omega arith))
    (λ (ne : p.0 ≢ k). rw (ne_eqb p.0 k ne) (let rest = less-without ps k x (sym (find_else ps p.0 k p.1 ne) ∙ e) in omega arith))

-- what stands in a list is found by its number, or another with that number is
pub found-within : {A : Type 0} (xs ys : List (ℕ × A)) (p : ℕ × A) → (x : A) × (value_of (xs ++ p ∷ ys) p.0 ≡ some x)
found-within xs ys p = elim (some_or_none (value_of xs p.0)) [
  | inl t ↦ (t.0, find_append_first xs (p ∷ ys) p.0 t.0 t.1)
  | inr n ↦ (p.1, find_append_second xs (p ∷ ys) p.0 n ∙ find_here ys p.0 p.1)
]

-- a list without items
pub nothing : {A : Type 0} (xs : List A) → length xs ≡ 0 → xs ≡ []
nothing [] e = refl
nothing (x ∷ xs) e = absurd (omega (arith, e))
