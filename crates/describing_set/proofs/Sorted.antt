-- Ascending lists of numbers as sets.
use Rattle.std.proofs.{Common.{Bool, ℕ, zero, suc, ◌≡◌, ◌+◌, ◌<◌, ◌≤◌, true, false, nat_lt, nat_eq, List, [], ◌∷◌, ◌++◌, length, map, refl, sym, ap, subst, ◌∙◌, arith, inl, inr, ◌⊎◌, take, get_or}, lemmas.Bool.Decides.nat_tests, lemmas.List.take_more}
use Rattle.std.specs.{Bool.{OnTrue, OnFalse}, List.Sorted.IsStrictlyIncreasing, Prelude.{Contains, All as Each}}
use Rattle.describing_set.specs.{Ascending.{with_id, ascending}, Sorted.{In, Below, Ascends}}

-- One number more: where it goes.

pub three_ways : (x y : ℕ) → (x < y) ⊎ ((x ≡ y) ⊎ (y < x))
three_ways x y = grind arith

is_less : (x y : ℕ) → x < y → nat_lt x y ≡ true
is_less x y h = grind (arith, nat_tests)

not_less : (x y : ℕ) → y ≤ x → nat_lt x y ≡ false
not_less x y h = grind (arith, nat_tests)

is_equal : (x y : ℕ) → x ≡ y → nat_eq x y ≡ true
is_equal x y h = grind (arith, nat_tests)

not_equal : (x y : ℕ) → y < x → nat_eq x y ≡ false
not_equal x y h = grind (arith, nat_tests)

pub with_id-before : (x y : ℕ) (ys : List ℕ) → x < y → with_id x (y ∷ ys) ≡ x ∷ y ∷ ys
with_id-before x y ys h = rw (is_less x y h) refl

pub with_id-here : (x y : ℕ) (ys : List ℕ) → x ≡ y → with_id x (y ∷ ys) ≡ y ∷ ys
with_id-here x y ys h = let le : y ≤ x = omega arith in rw (not_less x y le, is_equal x y h) refl

pub with_id-after : (x y : ℕ) (ys : List ℕ) → y < x → with_id x (y ∷ ys) ≡ y ∷ with_id x ys
with_id-after x y ys h = let le : y ≤ x = omega arith in rw (not_less x y le, not_equal x y h) refl

-- what holds in each of the three cases holds of the list with one number more
with_id-cases : (P : List ℕ → Type 0) (x y : ℕ) (ys : List ℕ) → (x < y → P (x ∷ y ∷ ys)) → (x ≡ y → P (y ∷ ys)) → (y < x → P (y ∷ with_id x ys)) → P (with_id x (y ∷ ys))
with_id-cases P x y ys before here after = elim (three_ways x y) [
  | inl h ↦ subst P (sym (with_id-before x y ys h)) (before h)
  | inr e ↦ elim e [
    | inl h ↦ subst P (sym (with_id-here x y ys h)) (here h)
    | inr h ↦ subst P (sym (with_id-after x y ys h)) (after h)
  ]
]

pub In-with_id-itself : (x : ℕ) (ys : List ℕ) → In x (with_id x ys)
In-with_id-itself x [] = inl refl
In-with_id-itself x (y ∷ ys) = with_id-cases (In x) x y ys (λ h. inl refl) (λ h. inl h) (λ h. inr (In-with_id-itself x ys))

pub In-with_id : (x z : ℕ) (ys : List ℕ) → In z ys → In z (with_id x ys)
In-with_id x z [] i = absurd i
In-with_id x z (y ∷ ys) i =
    with_id-cases (In z) x y ys (λ h. inr i) (λ h. i) (λ h. elim i [ inl q ↦ inl q | inr r ↦ inr (In-with_id x z ys r) ])

pub In-with_id-cases : (x z : ℕ) (ys : List ℕ) → In z (with_id x ys) → (z ≡ x) ⊎ In z ys
In-with_id-cases x z [] i = i
In-with_id-cases x z (y ∷ ys) i =
    with_id-cases (λ l. In z l → (z ≡ x) ⊎ In z (y ∷ ys)) x y ys (λ h j. j) (λ h j. inr j) (λ h j. elim j [
      | inl q ↦ inr (inl q)
      | inr r ↦ elim (In-with_id-cases x z ys r) [ inl q ↦ inl q | inr s ↦ inr (inr s) ]
    ]) i

Below-with_id : (b x : ℕ) (ys : List ℕ) → b < x → Below b ys → Below b (with_id x ys)
Below-with_id b x [] h w = (h, tt)
Below-with_id b x (y ∷ ys) l w =
    with_id-cases (Below b) x y ys (λ h. (l, w)) (λ h. w) (λ h. (w.0, Below-with_id b x ys l w.1))

Below-less : (a b : ℕ) (ys : List ℕ) → a < b → Below b ys → Below a ys
Below-less a b [] l w = tt
Below-less a b (y ∷ ys) l w = (omega arith, Below-less a b ys l w.1)

pub Below-In : (b z : ℕ) (ys : List ℕ) → Below b ys → In z ys → b < z
Below-In b z [] w i = absurd i
Below-In b z (y ∷ ys) w i = elim i [ inl q ↦ omega arith | inr r ↦ Below-In b z ys w.1 r ]

pub Ascends-with_id : (x : ℕ) (ys : List ℕ) → Ascends ys → Ascends (with_id x ys)
Ascends-with_id x [] a = (tt, tt)
Ascends-with_id x (y ∷ ys) a =
    with_id-cases Ascends x y ys (λ h. ((h, Below-less x y ys h a.0), a)) (λ h. a) (λ h. (Below-with_id y x ys h a.0, Ascends-with_id x ys a.1))

pub length-with_id-ge : (x : ℕ) (ys : List ℕ) → length ys ≤ length (with_id x ys)
length-with_id-ge x [] = omega arith
length-with_id-ge x (y ∷ ys) =
    with_id-cases (λ l. length (y ∷ ys) ≤ length l) x y ys (λ h. omega arith) (λ h. omega arith) (λ h. let r = length-with_id-ge x ys in omega (arith, r))

pub length-with_id-le : (x : ℕ) (ys : List ℕ) → length (with_id x ys) ≤ suc (length ys)
length-with_id-le x [] = omega arith
length-with_id-le x (y ∷ ys) =
    with_id-cases (λ l. length l ≤ suc (length (y ∷ ys))) x y ys (λ h. omega arith) (λ h. omega arith) (λ h. let r = length-with_id-le x ys in omega (arith, r))

-- The different numbers of a list.

pub Ascends-ascending : (xs : List ℕ) → Ascends (ascending xs)
Ascends-ascending [] = tt
Ascends-ascending (x ∷ xs) = Ascends-with_id x (ascending xs) (Ascends-ascending xs)

pub In-ascending : (z : ℕ) (xs : List ℕ) → In z xs → In z (ascending xs)
In-ascending z [] i = i
In-ascending z (x ∷ xs) i = elim i [
  | inl q ↦ subst (λ y. In y (with_id x (ascending xs))) (sym q) (In-with_id-itself x (ascending xs))
  | inr r ↦ In-with_id x z (ascending xs) (In-ascending z xs r)
]

pub In-from_ascending : (z : ℕ) (xs : List ℕ) → In z (ascending xs) → In z xs
In-from_ascending z [] i = i
In-from_ascending z (x ∷ xs) i = elim (In-with_id-cases x z (ascending xs) i) [
  | inl q ↦ inl q
  | inr r ↦ inr (In-from_ascending z xs r)
]

pub length-ascending : (xs : List ℕ) → length (ascending xs) ≤ length xs
length-ascending [] = omega arith
length-ascending (x ∷ xs) = let r = length-ascending xs in let s = length-with_id-le x (ascending xs) in omega (arith, r, s)

-- two ascending lists with the same numbers are equal
same_ascending : (xs ys : List ℕ) → Ascends xs → Ascends ys → ((z : ℕ) → In z xs → In z ys) → ((z : ℕ) → In z ys → In z xs) → xs ≡ ys
same_ascending [] [] a b f g = refl
same_ascending [] (y ∷ ys) a b f g = absurd (g y (inl refl))
same_ascending (x ∷ xs) [] a b f g = absurd (f x (inl refl))
same_ascending (x ∷ xs) (y ∷ ys) a b f g =
    let e : x ≡ y = elim (f x (inl refl)) [
      | inl q ↦ q
      | inr r ↦ elim (g y (inl refl)) [
        | inl q ↦ sym q
        | inr s ↦ let p = Below-In y x ys b.0 r in let q = Below-In x y xs a.0 s in absurd (omega (arith, p, q))
      ]
    ] in
    let f' : (z : ℕ) → In z xs → In z ys = λ z i. elim (f z (inr i)) [
      | inl q ↦ let p = Below-In x z xs a.0 i in absurd (omega (arith, p, q, e))
      | inr r ↦ r
    ] in
    let g' : (z : ℕ) → In z ys → In z xs = λ z i. elim (g z (inr i)) [
      | inl q ↦ let p = Below-In y z ys b.0 i in absurd (omega (arith, p, q, e))
      | inr r ↦ r
    ] in
    let t = same_ascending xs ys a.1 b.1 f' g' in
    cc

-- the different numbers of a list depend on which numbers occur alone
pub ascending-same : (xs ys : List ℕ) → ((z : ℕ) → In z xs → In z ys) → ((z : ℕ) → In z ys → In z xs) → ascending xs ≡ ascending ys
ascending-same xs ys f g =
    same_ascending (ascending xs) (ascending ys) (Ascends-ascending xs) (Ascends-ascending ys)
    (λ z i. In-ascending z ys (f z (In-from_ascending z xs i))) (λ z i. In-ascending z xs (g z (In-from_ascending z ys i)))

-- of two ascending lists the one whose numbers stand in the other is not longer
length_within : (xs ys : List ℕ) → Ascends xs → Ascends ys → ((z : ℕ) → In z xs → In z ys) → length xs ≤ length ys
length_within [] ys a b f = omega arith
length_within (x ∷ xs) [] a b f = absurd (f x (inl refl))
length_within (x ∷ xs) (y ∷ ys) a b f = elim (three_ways x y) [
  | inl lt ↦ elim (f x (inl refl)) [ inl q ↦ absurd (omega arith) | inr r ↦ let p = Below-In y x ys b.0 r in absurd (omega (arith, p)) ]
  | inr ge ↦ elim ge [
    | inl e ↦
        let r = length_within xs ys a.1 b.1 (λ z i. elim (f z (inr i)) [ inl q ↦ let p = Below-In x z xs a.0 i in absurd (omega (arith, p, q, e)) | inr j ↦ j ]) in
        omega (arith, r)
    | inr gt ↦
        let above : (z : ℕ) → In z (x ∷ xs) → y < z = λ z i. elim i [ inl q ↦ omega arith | inr j ↦ let p = Below-In x z xs a.0 j in omega (arith, p) ] in
        let r = length_within (x ∷ xs) ys a b.1 (λ z i. elim (f z i) [ inl q ↦ let p = above z i in absurd (omega (arith, p, q)) | inr j ↦ j ]) in
        omega (arith, r)
  ]
]

pub length-ascending-within : (xs ys : List ℕ) → ((z : ℕ) → In z xs → In z ys) → length (ascending xs) ≤ length (ascending ys)
length-ascending-within xs ys f =
    length_within (ascending xs) (ascending ys) (Ascends-ascending xs) (Ascends-ascending ys) (λ z i. In-ascending z ys (f z (In-from_ascending z xs i)))

-- The same in std's words.

pub Ascends-IsStrictlyIncreasing : (xs : List ℕ) → Ascends xs → IsStrictlyIncreasing xs
Ascends-IsStrictlyIncreasing [] a k h = absurd (omega arith)
Ascends-IsStrictlyIncreasing (x ∷ []) a k h = absurd (omega arith)
Ascends-IsStrictlyIncreasing (x ∷ y ∷ ys) a zero h = a.0.0
Ascends-IsStrictlyIncreasing (x ∷ y ∷ ys) a (suc k) h =
    let e : suc (k + 1) ≡ suc k + 1 = omega arith in
    subst (λ n. get_or (y ∷ ys) k 0 < get_or (x ∷ y ∷ ys) n 0) e (Ascends-IsStrictlyIncreasing (y ∷ ys) a.1 k (omega arith))

pub In-get_or : (xs : List ℕ) (k d : ℕ) → k < length xs → In (get_or xs k d) xs
In-get_or [] k d h = absurd (omega arith)
In-get_or (x ∷ xs) zero d h = inl refl
In-get_or (x ∷ xs) (suc k) d h = inr (In-get_or xs k d (omega arith))

-- what a loop over a list reads is in the list
pub In-read : (xs ys : List ℕ) (k x : ℕ) → k < length xs → x ≡ get_or xs k x → xs ≡ ys → In x ys
In-read xs ys k x h e same = subst (In x) same (subst (λ y. In y xs) (sym e) (In-get_or xs k x h))

pub Contains-from_In : (xs : List ℕ) (z : ℕ) → In z xs → Contains xs z
Contains-from_In [] z i = absurd i
Contains-from_In (x ∷ xs) z i = elim i [
  | inl q ↦ (0, omega arith, sym q)
  | inr r ↦ let k = Contains-from_In xs z r in (suc k.0, let h = k.1 in omega (arith, h), k.2)
]

pub In-from_Contains : (xs : List ℕ) (z : ℕ) → Contains xs z → In z xs
In-from_Contains xs z k = subst (λ y. In y xs) k.2 (In-get_or xs k.0 z k.1)

pub All-from_In : (P : ℕ → Type 0) (xs : List ℕ) → ((x : ℕ) → In x xs → P x) → Each P xs
All-from_In P xs f k x h = f (get_or xs k x) (In-get_or xs k x h)

-- Parts of lists.

pub In-append_left : (z : ℕ) (xs ys : List ℕ) → In z xs → In z (xs ++ ys)
In-append_left z [] ys i = absurd i
In-append_left z (x ∷ xs) ys i = elim i [ inl q ↦ inl q | inr r ↦ inr (In-append_left z xs ys r) ]

pub In-append_right : (z : ℕ) (xs ys : List ℕ) → In z ys → In z (xs ++ ys)
In-append_right z [] ys i = i
In-append_right z (x ∷ xs) ys i = inr (In-append_right z xs ys i)

pub In-append_cases : (z : ℕ) (xs ys : List ℕ) → In z (xs ++ ys) → In z xs ⊎ In z ys
In-append_cases z [] ys i = inr i
In-append_cases z (x ∷ xs) ys i = elim i [
  | inl q ↦ inl (inl q)
  | inr r ↦ elim (In-append_cases z xs ys r) [ inl q ↦ inl (inr q) | inr s ↦ inr s ]
]

pub In-take : (z n : ℕ) (xs : List ℕ) → In z (take n xs) → In z xs
In-take z zero xs i = absurd i
In-take z (suc n) [] i = i
In-take z (suc n) (x ∷ xs) i = elim i [ inl q ↦ inl q | inr r ↦ inr (In-take z n xs r) ]

pub In-map : (f : ℕ → ℕ) (x : ℕ) (xs : List ℕ) → In x xs → In (f x) (map f xs)
In-map f x [] i = i
In-map f x (y ∷ ys) i = elim i [ inl q ↦ inl (ap f q) | inr r ↦ inr (In-map f x ys r) ]

-- a number of the list that the function takes to this one
pub record Source (f : ℕ → ℕ) (z : ℕ) (xs : List ℕ) : Type 0 where
  pub x : ℕ
  pub here : In x xs
  pub is : f x ≡ z

pub In-map-source : (f : ℕ → ℕ) (z : ℕ) (xs : List ℕ) → In z (map f xs) → Source f z xs
In-map-source f z [] i = absurd i
In-map-source f z (y ∷ ys) i = elim i [
  | inl q ↦ record { x = y; here = inl refl; is = sym q }
  | inr r ↦ let s = In-map-source f z ys r in record { x = s.x; here = inr s.here; is = s.is }
]

-- Loops.

-- one number more at the end
ascending-push : (xs : List ℕ) (x : ℕ) → ascending (xs ++ x ∷ []) ≡ with_id x (ascending xs)
ascending-push xs x =
    ascending-same (xs ++ x ∷ []) (x ∷ xs)
    (λ z i. elim (In-append_cases z xs (x ∷ []) i) [ inl q ↦ inr q | inr r ↦ elim r [ inl q ↦ inl q | inr n ↦ absurd n ] ])
    (λ z i. elim i [ inl q ↦ In-append_right z xs (x ∷ []) (inl q) | inr r ↦ In-append_left z xs (x ∷ []) r ])

map-push : (f : ℕ → ℕ) (xs : List ℕ) (x : ℕ) → map f (xs ++ x ∷ []) ≡ map f xs ++ f x ∷ []
map-push f [] x = refl
map-push f (y ∷ ys) x = ap (λ l. f y ∷ l) (map-push f ys x)

ascending_more : (f : ℕ → ℕ) (xs : List ℕ) (i x : ℕ) → i < length xs → x ≡ get_or xs i x → with_id (f x) (ascending (map f (take i xs))) ≡ ascending (map f (take (i + 1) xs))
ascending_more f xs i x h e =
    ap (λ y. with_id (f y) (ascending (map f (take i xs)))) e
    ∙ sym (ap (λ l. ascending (map f l)) (take_more xs i x h) ∙ ap ascending (map-push f (take i xs) (get_or xs i x)) ∙ ascending-push (map f (take i xs)) (f (get_or xs i x)))

-- one turn of a loop that adds what a function gives of each of at most 6 numbers: there is room
pub add_mapped : (f : ℕ → ℕ) (xs now new : List ℕ) (i x a : ℕ) (b : Bool) → i < length xs → length xs ≤ 6 → x ≡ get_or xs i x → a ≡ f x → now ≡ ascending (map f (take i xs)) → length now ≤ i → OnTrue b (new ≡ with_id a now) → OnFalse b (6 < length (with_id a now)) → (new ≡ ascending (map f (take (i + 1) xs))) × (length new ≤ i + 1)
add_mapped f xs now new i x a b h six e a_is n few =
    let le = length-with_id-le a now in
    elim b as (λ v. OnTrue v (new ≡ with_id a now) → OnFalse v (6 < length (with_id a now)) → (new ≡ ascending (map f (take (i + 1) xs))) × (length new ≤ i + 1)) [
      | true ↦ λ t _.
          let q = ap length t in
          (t ∙ ap (λ y. with_id y now) a_is ∙ ap (λ l. with_id (f x) l) n ∙ ascending_more f xs i x h e, omega (arith, few, le, q))
      | false ↦ λ _ o. absurd (omega (arith, few, le, o))
    ]
