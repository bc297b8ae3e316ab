-- Sums over the items of a list.
use Rattle.std.proofs.{Common.{◌≡◌, ℕ, ◌+◌, ◌*◌, ◌≤◌, eqb, List, [], ◌∷◌, ◌++◌, length, map, take, drop, refl, ap, ◌∙◌, arith}, lemmas.Bool.{eqb-false, eqb-true}, lemmas.List.{take-append-drop, length-append}}
use Rattle.std.specs.List.{flat_map}
use Rattle.list_words.proofs.{Times.same_not, Truth.on_bool}
use Rattle.list_words.specs.Counts.{Each, times, total}

pub total-append : {A : Type 0} (f : A → ℕ) (xs ys : List A) → total f (xs ++ ys) ≡ total f xs + total f ys
total-append f [] ys = omega arith
total-append f (x ∷ xs) ys = omega (arith, total-append f xs ys)

pub total-one : {A : Type 0} (xs : List A) → total (λ _. 1) xs ≡ length xs
total-one [] = refl
total-one (x ∷ xs) = omega (arith, total-one xs)

pub total-none : {A : Type 0} (xs : List A) → total (λ _. 0) xs ≡ 0
total-none [] = refl
total-none (x ∷ xs) = omega (arith, total-none xs)

pub total-map : {A B : Type 0} (f : B → ℕ) (g : A → B) (xs : List A) → total f (map g xs) ≡ total (λ x. f (g x)) xs
total-map f g [] = refl
total-map f g (x ∷ xs) = ap (λ n. f (g x) + n) (total-map f g xs)

-- sums of the same numbers
pub total-same : {A : Type 0} (P : A → Type 0) (f g : A → ℕ) (xs : List A) → ((x : A) → P x → f x ≡ g x) → Each P xs → total f xs ≡ total g xs
total-same P f g [] h w = refl
total-same P f g (x ∷ xs) h w = let a = h x w.0 in let b = total-same P f g xs h w.1 in omega arith

pub total-halves : {A : Type 0} (f : A → ℕ) (xs : List A) (n : ℕ) → total f xs ≡ total f (drop n xs) + total f (take n xs)
total-halves f xs n =
    let s = total-append f (take n xs) (drop n xs) in
    let e : total f (take n xs ++ drop n xs) ≡ total f xs = ap (total f) (take-append-drop n xs) in
    omega arith

pub total-few : {A : Type 0} (P : A → Type 0) (f : A → ℕ) (k : ℕ) (xs : List A) → ((x : A) → P x → f x ≤ k) → Each P xs → total f xs ≤ k * length xs
total-few P f k [] h w = omega arith
total-few P f k (x ∷ xs) h w = let a = h x w.0 in let b = total-few P f k xs h w.1 in grind arith

pub total-some : {A : Type 0} (P : A → Type 0) (f : A → ℕ) (xs : List A) → ((x : A) → P x → 1 ≤ f x) → Each P xs → 1 ≤ length xs → 1 ≤ total f xs
total-some P f [] h w s = omega arith
total-some P f (x ∷ xs) h w s = let a = h x w.0 in omega arith

pub length-flat : {A B : Type 0} (f : A → List B) (xs : List A) → length (flat_map f xs) ≡ total (λ x. length (f x)) xs
length-flat f [] = refl
length-flat f (x ∷ xs) = length-append (f x) (flat_map f xs) ∙ ap (λ n. length (f x) + n) (length-flat f xs)

pub total-flat : {A B : Type 0} (w : B → ℕ) (f : A → List B) (xs : List A) → total w (flat_map f xs) ≡ total (λ x. total w (f x)) xs
total-flat w f [] = refl
total-flat w f (x ∷ xs) = total-append w (f x) (flat_map f xs) ∙ ap (λ n. total w (f x) + n) (total-flat w f xs)

pub total-has : (k : ℕ → ℕ) (b : ℕ) (xs : List ℕ) → 1 ≤ times b xs → k b ≤ total k xs
total-has k b [] h = absurd (omega arith)
total-has k b (x ∷ xs) h = on_bool (eqb b x)
    (λ q. let e = ap k (eqb-true _ _ q) in omega arith)
    (λ q. let z = same_not b x (eqb-false _ _ q) in let ih = total-has k b xs (omega arith) in omega arith)
