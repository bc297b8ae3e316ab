-- How often a number stands in a list.
use Rattle.std.proofs.{Common.{◌≡◌, ◌≢◌, ℕ, zero, suc, ◌+◌, ◌<◌, ◌≤◌, inl, inr, false, eqb, List, [], ◌∷◌, ◌++◌, length, map, refl, sym, ap, ◌∙◌, arith}, lemmas.Bool.{eqb-false, eqb-true}, lemmas.List.length-append, lemmas.List.Elements.{Contains-append_right, All-cons, All-head, All-nil, All-tail}}
use Rattle.std.specs.{List.{AllByRecursion, IsDistinct}, Prelude.{Contains, All}}
use Rattle.list_words.proofs.{Elements.{Contains-first, Contains-nil}, Truth.on_bool}
use Rattle.list_words.specs.Counts.{Among, Each, same, times}

pub same_is : (a b : ℕ) → a ≡ b → same a b ≡ 1
same_is a b e = grind arith

pub same_not : (a b : ℕ) → a ≢ b → same a b ≡ 0
same_not a b e = grind arith

pub same-le : (a b : ℕ) → same a b ≤ 1
same-le a b = on_bool (eqb a b) (λ q. rw q (omega arith)) (λ q. rw q (omega arith))

pub times-append : (r : ℕ) (xs ys : List ℕ) → times r (xs ++ ys) ≡ times r xs + times r ys
times-append r [] ys = omega arith
times-append r (x ∷ xs) ys = omega (arith, times-append r xs ys)

-- what stands in a list stands there once at least
pub among-times : (y : ℕ) (ys : List ℕ) → Among y ys → 1 ≤ times y ys
among-times y [] m = absurd m
among-times y (x ∷ ys) m = elim m [
  | inl is ↦ (let one = same_is y x is in omega arith)
  | inr more ↦ (let some = among-times y ys more in omega arith)
]

pub each-times : (P : ℕ → Type 0) (ns : List ℕ) → ((r : ℕ) → 1 ≤ times r ns → P r) → Each P ns
each-times P [] h = tt
each-times P (n ∷ ns) h = let o = same_is n n refl in (h n (omega arith), each-times P ns (λ r k. h r (omega arith)))

-- what isn't below a bound isn't among numbers below it
pub times-above : (n y : ℕ) (xs : List ℕ) → All (λ x. x < n) xs → n ≤ y → times y xs ≡ 0
times-above n y [] all high = refl
times-above n y (x ∷ xs) all high =
    let low : x < n = All-head (λ x. x < n) x xs all in
    let rest = times-above n y xs (All-tail (λ x. x < n) x xs all) high in
    let off = same_not y x (λ e. absurd (omega arith)) in omega arith

-- a list around one of its numbers
pub record IsSplit (n : ℕ) (ms : List ℕ) : Type 0 where
  pub front : List ℕ
  pub back : List ℕ
  pub is : ms ≡ front ++ n ∷ back

pub split-at : (n : ℕ) (ms : List ℕ) → 1 ≤ times n ms → IsSplit n ms
split-at n [] h = absurd (omega arith)
split-at n (m ∷ ms) h = on_bool (eqb n m)
    (λ q. let e = eqb-true _ _ q in record { front = []; back = ms; is = ap (λ x. x ∷ ms) (sym e) })
    (λ q. let z = same_not n m (eqb-false _ _ q) in
    let w = split-at n ms (omega arith) in
    record { front = m ∷ w.front; back = w.back; is = ap (λ xs. m ∷ xs) w.is })

pub times-split : (n r : ℕ) (front back : List ℕ) → times r (front ++ n ∷ back) ≡ same r n + times r (front ++ back)
times-split n r front back = omega (arith, times-append r front (n ∷ back), times-append r front back)

-- a list that has no number oftener than another one isn't longer
pub length-le : (xs ys : List ℕ) → ((r : ℕ) → times r xs ≤ times r ys) → length xs ≤ length ys
length-le [] ys h = omega arith
length-le (x ∷ xs) ys h =
    let a = h x in
    let o = same_is x x refl in
    let w = split-at x ys (omega arith) in
    let ih = length-le xs (w.front ++ w.back) (λ r. let b = h r in let y = ap (times r) w.is in let z = times-split x r w.front w.back in omega arith) in
    let e = ap length w.is in
    let p = length-append w.front (x ∷ w.back) in
    let q = length-append w.front w.back in
    omega arith

-- the numbers below one
abbrev below : ℕ → List ℕ
below zero = []
below (suc n) = n ∷ below n

length-below : (n : ℕ) → length (below n) ≡ n
length-below zero = refl
length-below (suc n) = ap suc (length-below n)

times-below : (r n : ℕ) → r < n → 1 ≤ times r (below n)
times-below r zero h = absurd (omega arith)
times-below r (suc n) h = on_bool (eqb r n)
    (λ q. let o = same_is r n (eqb-true _ _ q) in omega arith)
    (λ q. let ne = eqb-false _ _ q in let ih = times-below r n (omega arith) in omega arith)

-- a list of small numbers, none of them twice, is short
pub length-few : (xs : List ℕ) (n : ℕ) → ((r : ℕ) → 1 ≤ times r xs → (times r xs ≤ 1) × (r < n)) → length xs ≤ n
length-few xs n h =
    let e = length-below n in
    let l = length-le xs (below n) (λ r. on_bool (eqb (times r xs) 0)
    (λ q. let z = eqb-true _ _ q in omega arith)
    (λ q. let ne = eqb-false _ _ q in let k = h r (omega arith) in let k0 = k.0 in let t = times-below r n k.1 in omega arith)) in
    omega arith

-- what is so of each number that is counted is so of all
pub all-times : (P : ℕ → Type 0) (xs : List ℕ) → ((y : ℕ) → 1 ≤ times y xs → P y) → All P xs
all-times P [] f = All-nil P
all-times P (x ∷ xs) f = All-cons P x xs (f x (let k = same_is x x refl in omega arith)) (all-times P xs (λ y h. f y (omega arith)))

pub each-differs : {A : Type 0} (f : A → ℕ) (y : ℕ) (xs : List A) → times y (map f xs) ≡ 0 → Each (λ x. y ≢ f x) xs
each-differs f y [] z = tt
each-differs f y (x ∷ xs) z = ((λ e. let s = same_is y (f x) e in absurd (omega arith)), each-differs f y xs (omega arith))

none-equal : (x : ℕ) (ys : List ℕ) → times x ys ≡ 0 → AllByRecursion (λ y. eqb x y ≡ false) ys
none-equal x [] z = tt
none-equal x (y ∷ ys) z = (on_bool (eqb x y) (λ q. let s = same_is x y (eqb-true _ _ q) in absurd (omega arith)) (λ q. q), none-equal x ys (omega arith))

pub distinct-times : (xs : List ℕ) → ((y : ℕ) → times y xs ≤ 1) → IsDistinct eqb xs
unfolding IsDistinct
distinct-times [] once = tt
distinct-times (x ∷ xs) once = (none-equal x xs (let k = once x in let s = same_is x x refl in omega arith), distinct-times xs (λ y. let k = once y in omega arith))

not-counted : (x : ℕ) (ys : List ℕ) → AllByRecursion (λ y. eqb x y ≡ false) ys → times x ys ≡ 0
not-counted x [] a = refl
not-counted x (y ∷ ys) a = (let s = same_not x y (eqb-false _ _ a.0) in let k = not-counted x ys a.1 in omega arith)

pub times-distinct : (xs : List ℕ) → IsDistinct eqb xs → (y : ℕ) → times y xs ≤ 1
unfolding IsDistinct
times-distinct [] d y = omega arith
times-distinct (x ∷ xs) d y = on_bool (eqb y x)
    (λ q. let e = eqb-true _ _ q in let s = same_is y x e in let k = not-counted x xs d.0 in
    let z : times y xs ≡ 0 = ap (λ (w : ℕ). times w xs) e ∙ k in omega arith)
    (λ q. let s = same_not y x (eqb-false _ _ q) in let k = times-distinct xs d.1 y in omega arith)

pub times-contains : (r : ℕ) (xs : List ℕ) → 1 ≤ times r xs → Contains xs r
times-contains r [] some = absurd (omega (arith, some))
times-contains r (x ∷ xs) some = on_bool (eqb r x)
    (λ q. (0, omega arith, sym (eqb-true r x q)))
    (λ q. let none = same_not r x (eqb-false r x q) in let later = times-contains r xs (omega (arith, some, none)) in Contains-append_right (x ∷ []) xs r later)

pub contains-times : (y : ℕ) (xs : List ℕ) → Contains xs y → 1 ≤ times y xs
contains-times y [] has = absurd (Contains-nil y has)
contains-times y (x ∷ xs) has = elim (Contains-first x xs y has) [
  | inl is ↦ (let k = same_is y x (sym is) in omega arith)
  | inr more ↦ (let k = contains-times y xs more in omega arith)
]
