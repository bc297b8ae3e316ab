-- What holds of each item of a list at its place, and of each item of two parts of that list.
use Rattle.std.proofs.Common.{◌≡◌, ℕ, zero, suc, ◌+◌, List, [], ◌∷◌, ◌++◌, length, Some, ap, ◌∙◌, subst, arith}
use Rattle.std.specs.Prelude.{slice_get}

abbrev EachAt : {X : Type 0} → (ℕ → X → Type 0) → List X → Type 0
EachAt {X} P xs = (i : ℕ) (x : X) → slice_get xs i ≡ Some x → P i x

-- at its place behind the first
abbrev EachFrom : {X : Type 0} → (ℕ → X → Type 0) → ℕ → List X → Type 0
EachFrom {X} P first xs = (i : ℕ) (x : X) → slice_get xs i ≡ Some x → P (first + i) x

get-front : {X : Type 0} (xs ys : List X) (i : ℕ) (x : X) → slice_get xs i ≡ Some x → slice_get (xs ++ ys) i ≡ Some x
get-front [] ys i x at = cc
get-front (y ∷ xs) ys zero x at = at
get-front (y ∷ xs) ys (suc i) x at = get-front xs ys i x at

get-back : {X : Type 0} (xs ys : List X) (i : ℕ) → slice_get (xs ++ ys) (length xs + i) ≡ slice_get ys i
get-back [] ys i = let e : 0 + i ≡ i = omega arith in ap (slice_get ys) e
get-back (x ∷ xs) ys i = let e : suc (length xs) + i ≡ suc (length xs + i) = omega arith in ap (slice_get (x ∷ (xs ++ ys))) e ∙ get-back xs ys i

pub front-of : {X : Type 0} (P : ℕ → X → Type 0) (all xs ys : List X) → all ≡ xs ++ ys → EachAt P all → EachFrom P 0 xs
front-of P all xs ys is each i x at = subst (λ k. P k x) {x = i} (omega arith) (each i x (ap (λ l. slice_get l i) is ∙ get-front xs ys i x at))

pub back-of : {X : Type 0} (P : ℕ → X → Type 0) (all xs ys : List X) (n : ℕ) → all ≡ xs ++ ys → length xs ≡ n → EachAt P all → EachFrom P n ys
back-of P all xs ys n is long each i x at =
    subst (λ k. P k x) {x = length xs + i} (omega arith) (each (length xs + i) x (ap (λ l. slice_get l (length xs + i)) is ∙ get-back xs ys i ∙ at))

both-from : {X : Type 0} (P : ℕ → X → Type 0) (first : ℕ) (xs ys : List X) → EachFrom P first xs → EachFrom P (first + length xs) ys → EachFrom P first (xs ++ ys)
both-from P first [] ys front back i x at = subst (λ k. P k x) {x = first + 0 + i} (omega arith) (back i x at)
both-from P first (y ∷ xs) ys front back zero x at = front zero x at
both-from P first (y ∷ xs) ys front back (suc i) x at =
    let front-more : EachFrom P (suc first) xs = λ j z is. subst (λ k. P k z) {x = first + suc j} (omega arith) (front (suc j) z is) in
    let back-more : EachFrom P (suc first + length xs) ys = λ j z is. subst (λ k. P k z) {x = first + suc (length xs) + j} (omega arith) (back j z is) in
    subst (λ k. P k x) {x = suc first + i} (omega arith) (both-from P (suc first) xs ys front-more back-more i x at)

pub both : {X : Type 0} (P : ℕ → X → Type 0) (xs ys : List X) (n : ℕ) → length xs ≡ n → EachFrom P 0 xs → EachFrom P n ys → EachAt P (xs ++ ys)
both P xs ys n long front back i x at =
    let behind : EachFrom P (0 + length xs) ys = λ j z is. subst (λ k. P k z) {x = n + j} (omega arith) (back j z is) in
    subst (λ k. P k x) {x = 0 + i} (omega arith) (both-from P 0 xs ys front behind i x at)
