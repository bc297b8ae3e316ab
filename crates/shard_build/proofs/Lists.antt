-- Lists place by place, and parts of lists one after the other
use Rattle.std.proofs.{Common.{◌≡◌, ℕ, zero, suc, ◌+◌, ◌-◌, ◌<◌, ◌≤◌, List, [], ◌∷◌, ◌++◌, length, take, drop, get_or, sym, ap, ◌∙◌, refl, subst, arith}, lemmas.List.{take-append-drop, take-take, drop-take, drop-drop, drop-append-le, take-append-le, drop_more, length-drop}, lemmas.List.Elements.{All-take, All-drop, All-head}}
use Rattle.std.specs.{List.AllZip, Prelude.All}

pub zip-append : {A B : Type 0} (R : A → B → Type 0) (xs us : List A) (ys vs : List B) → AllZip R xs ys → AllZip R us vs → AllZip R (xs ++ us) (ys ++ vs)
zip-append R [] us [] vs h k = k
zip-append R [] us (y ∷ ys) vs h k = absurd h
zip-append R (x ∷ xs) us [] vs h k = absurd h
zip-append R (x ∷ xs) us (y ∷ ys) vs h k = (h.0, zip-append R xs us ys vs h.1 k)

pub zip-length : {A B : Type 0} (R : A → B → Type 0) (xs : List A) (ys : List B) → AllZip R xs ys → length ys ≡ length xs
zip-length R [] [] h = refl
zip-length R [] (y ∷ ys) h = absurd h
zip-length R (x ∷ xs) [] h = absurd h
zip-length R (x ∷ xs) (y ∷ ys) h = omega (arith, zip-length R xs ys h.1)

take-both : {A : Type 0} (n m : ℕ) (xs : List A) → take (n + m) xs ≡ take n xs ++ take m (drop n xs)
take-both n m xs =
    sym (take-append-drop n (take (n + m) xs))
    ∙ ap (λ ys. ys ++ drop n (take (n + m) xs)) (take-take n (n + m) xs (omega arith))
    ∙ ap (λ ys. take n xs ++ ys) (drop-take n m xs)

-- the first ones up to a place, and those up to the next one
pub take-next : {A : Type 0} (a b : ℕ) (xs : List A) → a ≤ b → take b xs ≡ take a xs ++ take (b - a) (drop a xs)
take-next a b xs le = let e : b ≡ a + (b - a) = omega arith in ap (λ k. take k xs) e ∙ take-both a (b - a) xs

drop-on : {A : Type 0} (a b : ℕ) (xs : List A) → a ≤ b → drop (b - a) (drop a xs) ≡ drop b xs
drop-on a b xs le = let e : a + (b - a) ≡ b = omega arith in drop-drop (b - a) a xs ∙ ap (λ k. drop k xs) e

-- the same from a place on
pub part-next : {A : Type 0} (from a b : ℕ) (xs : List A) → from ≤ a → a ≤ b → take (b - from) (drop from xs) ≡ take (a - from) (drop from xs) ++ take (b - a) (drop a xs)
part-next from a b xs fa ab =
    let e : (b - from) - (a - from) ≡ b - a = omega arith in
    take-next (a - from) (b - from) (drop from xs) (omega arith)
    ∙ ap (λ k. take (a - from) (drop from xs) ++ take k (drop (a - from) (drop from xs))) e
    ∙ ap (λ ys. take (a - from) (drop from xs) ++ take (b - a) ys) (drop-on from a xs fa)

-- what comes behind doesn't change a part
pub part-before : {A : Type 0} (a b : ℕ) (xs ys : List A) → a ≤ b → b ≤ length xs → take (b - a) (drop a (xs ++ ys)) ≡ take (b - a) (drop a xs)
part-before a b xs ys ab le =
    ap (take (b - a)) (drop-append-le a xs ys (omega arith))
    ∙ take-append-le (b - a) (drop a xs) ys (omega (arith, length-drop a xs))

pub all-part : {A : Type 0} (P : A → Type 0) (from a b : ℕ) (xs : List A) → from ≤ a → All P (drop from xs) → All P (take (b - a) (drop a xs))
all-part P from a b xs le h = All-take P (b - a) (drop a xs) (subst (All P) (drop-on from a xs le) (All-drop P (a - from) (drop from xs) h))

-- the item at a place is the first one from there on

pub all-at : {A : Type 0} (P : A → Type 0) (place : ℕ) (x : A) (xs : List A) → place < length xs → x ≡ get_or xs place x → All P (drop place xs) → P x
all-at P place x xs lt is h = subst P (sym is) (All-head P (get_or xs place x) (drop (place + 1) xs) (subst (All P) (drop_more xs place x lt) h))

pub one-left : {A : Type 0} (from : ℕ) (xs : List A) → length xs ≡ from + 1 → (f : A) × (drop from xs ≡ f ∷ [])
one-left zero [] e = absurd (omega arith)
one-left zero (x ∷ []) e = (x, refl)
one-left zero (x ∷ y ∷ xs) e = absurd (omega arith)
one-left (suc k) [] e = absurd (omega arith)
one-left (suc k) (x ∷ xs) e = one-left k xs (omega arith)
