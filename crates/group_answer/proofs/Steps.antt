-- Steps that the functions share.
use Rattle.std.proofs.{Common.{ℕ, ◌≡◌, ◌+◌, ◌<◌, Option, Result, Ok, Err, List, [], ◌∷◌, ◌++◌, Bool, true, false, not, length, take, inl, inr, refl, sym, ap, ◌∙◌, subst, append_assoc, arith}, lemmas.List.take_more, lemmas.Option.slice_get_cases}
use Rattle.std.specs.Prelude.{IfSome, OnOk, slice_get}

-- what follows of success
pub on-ok : {A E P Q : Type 0} → (r : Result A E) → (P → Q) → OnOk r P → OnOk r Q
on-ok (Ok x) f p = f p
on-ok (Err e) f p = p

pub not-back : (b : Bool) → false ≡ not b → b ≡ true
not-back true e = refl
not-back false e = e

-- the next one of a list is put behind those before it
pub one-behind : {A : Type 0} (xs was old now : List A) (k : ℕ) → k < length xs → IfSome (slice_get xs k) (λ x. now ≡ old ++ x ∷ []) → old ≡ was ++ take k xs → now ≡ was ++ take (k + 1) xs
one-behind {A} xs was old now k lt some is = elim (slice_get_cases xs k).1 [
  | inl there ↦ (let (x, within, at, same) = there in
      let grown : now ≡ old ++ x ∷ [] = subst (λ (o : Option A). IfSome o (λ r. now ≡ old ++ r ∷ [])) at some in
      grown ∙ ap (λ (ys : List A). ys ++ x ∷ []) is ∙ append_assoc was (take k xs) (x ∷ []) ∙ ap (λ (ys : List A). was ++ ys) (ap (λ (z : A). take k xs ++ z ∷ []) (sym same) ∙ sym (take_more xs k x within)))
  | inr past ↦ (let le = past.0 in absurd (omega (arith, lt, le)))
]
