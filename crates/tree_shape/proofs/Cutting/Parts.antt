-- Parts of lists: an entry at its place, the items at some places, and halves.
use Rattle.std.proofs.{Common.{◌≡◌, ℕ, zero, suc, ◌+◌, ◌≤◌, inl, inr, List, [], ◌∷◌, ◌++◌, length, take, drop, refl, sym, ap, ◌∙◌, arith, add-one}, lemmas.List.take-append-drop, lemmas.List.Sorted.sum_by-IsPermutation, lemmas.List.Sums.sum_by-cons}
use Rattle.std.specs.{List.range_with_len, Prelude.{Option, Some, None, slice_get, sum_by, IsPermutation}}
use Rattle.link_descent.specs.Divide.{items_at}
use Rattle.list_words.specs.Counts.{Among, Each, total}
use Rattle.list_words.proofs.Totals.{total-append}

-- a list around one of its items
pub record IsAround {A : Type 0} (xs : List A) (place : ℕ) (x : A) : Type 0 where
  pub front : List A
  pub back : List A
  pub is : xs ≡ front ++ x ∷ back
  pub taken : take place xs ≡ front
  pub dropped : drop (place + 1) xs ≡ back

pub around : {A : Type 0} (xs : List A) (place : ℕ) (x : A) → slice_get xs place ≡ Some x → IsAround xs place x
around [] place x h = cc
around (y ∷ ys) zero x h = record { front = []; back = ys; is = (let e : y ≡ x = cc in rw e refl); taken = refl; dropped = refl }
around (y ∷ ys) (suc p) x h =
    let w = around ys p x h in
    record { front = y ∷ w.front; back = w.back; is = ap (λ zs. y ∷ zs) w.is; taken = ap (λ zs. y ∷ zs) w.taken; dropped = (let e : suc p + 1 ≡ suc (p + 1) = omega arith in ap (λ n. drop n (y ∷ ys)) e ∙ w.dropped) }

-- Items at places.

abbrev pub or_zero : {A : Type 0} → (A → ℕ) → Option A → ℕ
or_zero f None = 0
or_zero f (Some x) = f x

on-option : {A : Type 0} {P : Type 0} → (o : Option A) → (o ≡ None → P) → ((x : A) → o ≡ Some x → P) → P
on-option None a b = a refl
on-option (Some x) a b = b x refl

pub total-items : {A : Type 0} (f : A → ℕ) (xs : List A) (ps : List ℕ) → total f (items_at xs ps) ≡ total (λ p. or_zero f (slice_get xs p)) ps
total-items f xs [] = refl
total-items f xs (p ∷ ps) =
    let ih = total-items f xs ps in
    on-option (slice_get xs p)
    (λ e. rw e (omega arith))
    (λ x e. rw e (omega arith))

total-next : (h : ℕ → ℕ) (a n : ℕ) → total h (range_with_len (a + 1) n) ≡ total (λ p. h (suc p)) (range_with_len a n)
total-next h a zero = refl
total-next h a (suc n) = let e = ap h (add-one a) in omega (arith, total-next h (a + 1) n)

pub total-range : {A : Type 0} (f : A → ℕ) (xs : List A) → total (λ p. or_zero f (slice_get xs p)) (range_with_len 0 (length xs)) ≡ total f xs
total-range f [] = refl
total-range f (x ∷ xs) =
    let e = total-next (λ p. or_zero f (slice_get (x ∷ xs) p)) 0 (length xs) in
    ap (λ n. f x + n) (e ∙ total-range f xs)

pub total-permuted : (h : ℕ → ℕ) (xs ys : List ℕ) → IsPermutation xs ys → total h ys ≡ total h xs
total-permuted h xs ys p = total-sum h ys ∙ sum_by-IsPermutation h xs ys p ∙ sym (total-sum h xs)
  where
    total-sum : (h : ℕ → ℕ) (xs : List ℕ) → total h xs ≡ sum_by h xs
    total-sum h [] = refl
    total-sum h (x ∷ xs) = ap (λ n. h x + n) (total-sum h xs) ∙ sym (sum_by-cons h x xs)

-- the items at all places, in another order, are all items
pub total-order : {A : Type 0} (f : A → ℕ) (xs : List A) (order : List ℕ) (k : ℕ) → IsPermutation (range_with_len 0 (length xs)) order
    → total f xs ≡ total f (items_at xs (take k order)) + total f (items_at xs (drop k order))
total-order f xs order k p =
    let h : ℕ → ℕ = λ p. or_zero f (slice_get xs p) in
    let a = total-items f xs (take k order) in
    let b = total-items f xs (drop k order) in
    let s = total-append h (take k order) (drop k order) in
    let all : total h (take k order ++ drop k order) ≡ total h order = ap (total h) (take-append-drop k order) in
    let q = total-permuted h (range_with_len 0 (length xs)) order p in
    let r = total-range f xs in
    omega arith

pub length-items : {A : Type 0} (xs : List A) (ps : List ℕ) → length (items_at xs ps) ≤ length ps
length-items xs [] = omega arith
length-items xs (p ∷ ps) =
    let ih = length-items xs ps in
    on-option (slice_get xs p)
    (λ e. rw e (omega arith))
    (λ x e. rw e (omega arith))

get-among : {A : Type 0} (xs : List A) (p : ℕ) (x : A) → slice_get xs p ≡ Some x → Among x xs
get-among [] p x h = cc
get-among (y ∷ ys) zero x h = let e : x ≡ y = cc in inl e
get-among (y ∷ ys) (suc p) x h = inr (get-among ys p x h)

pub items-among : {A : Type 0} (xs : List A) (ps : List ℕ) → Each (λ x. Among x xs) (items_at xs ps)
items-among xs [] = tt
items-among xs (p ∷ ps) =
    let ih = items-among xs ps in
    on-option (slice_get xs p)
    (λ e. rw e ih)
    (λ x e. rw e (get-among xs p x e, ih))
