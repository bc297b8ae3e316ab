-- Lists of rows and blocks, as the calls that make trees go through them.
use Rattle.std.proofs.{Common.{◌≡◌, ℕ, ◌+◌, ◌<◌, List, [], ◌∷◌, ◌++◌, All, get_or, length, map, take, refl, sym, ap, ◌∙◌, subst}, lemmas.List.{map-append, reverse-append, take_more}, lemmas.List.Elements.{All-append, All-cons, All-nil}}
use Rattle.std.specs.Prelude.{reverse}

-- what holds of the first ones and of the next one
pub all-more : {A : Type 0} (P : A → Type 0) (xs : List A) (k : ℕ) (x : A) → k < length xs → x ≡ get_or xs k x → All P (take k xs) → P x → All P (take (k + 1) xs)
all-more P xs k x lt is all here = subst (All P) (sym (take_more xs k x lt ∙ ap (λ z. take k xs ++ z ∷ []) (sym is))) (All-append P (take k xs) (x ∷ []) all (All-cons P x [] here (All-nil P)))

pub map-turned : {A B : Type 0} (f : A → B) (xs : List A) → map f (reverse xs) ≡ reverse (map f xs)
map-turned f [] = refl
map-turned f (x ∷ xs) =
    ap (map f) (reverse-append (x ∷ []) xs) ∙ map-append f (reverse xs) (x ∷ []) ∙ ap (λ ys. ys ++ f x ∷ []) (map-turned f xs) ∙ sym (reverse-append (f x ∷ []) (map f xs))
