-- The order of items by a number each: how it grows, and that there is only one.
use Rattle.std.proofs.{Common.{ℕ, zero, suc, true, false, Option, Some, None, ◌≡◌, ◌+◌, ◌-◌, ◌<◌, ◌≤◌, ◌⊎◌, List, [], ◌∷◌, ◌++◌, length, get_or, refl, sym, ap, subst, ◌∙◌, arith, inl, inr}, lemmas.Bool.{cases_lt, false≢true}, lemmas.List.{map-id, get_or_default}, lemmas.List.Edits.{length-insert, get_or-insert_below, get_or-insert_at, get_or-insert_above}, lemmas.List.Elements.All-from_get_or, lemmas.List.FromFn.{length-range_with_len, get_or-range_with_len, map-range_with_len_more}, lemmas.List.Sorted.{IsPermutation-trans, IsPermutation-sym, IsPermutation-cons, IsPermutation-to_front, IsPermutation-insert, length_permutation, All-permutation, Contains-permutation}}
use Rattle.std.specs.{List.range_with_len, Prelude.{All, Contains, IsPermutation, insert, MatchOption, IfSome, IfNone, IsTrue, ◌↔◌}}
use Rattle.hierarchy_split.specs.Order.{ComesBefore, IsOrder, IsBetween, distance, IsNearer, IsPlace}

-- each place comes before the later ones
pub record Ascends (xs order : List ℕ) : Type 0 where
  pub before : (i j : ℕ) → i < j → j < length order → ComesBefore xs (get_or order i 0) (get_or order j 0)

-- The places from 0 up.

pub range_more : (n : ℕ) → range_with_len 0 (n + 1) ≡ range_with_len 0 n ++ n ∷ []
range_more n =
    sym (map-id (range_with_len 0 (n + 1))) ∙ map-range_with_len_more (λ x. x) 0 n n (omega arith)
    ∙ ap (λ l. l ++ n ∷ []) (map-id (range_with_len 0 n))

pub places_length : (n : ℕ) (order : List ℕ) → IsPermutation (range_with_len 0 n) order → length order ≡ n
places_length n order p = length_permutation (range_with_len 0 n) order p ∙ length-range_with_len 0 n

pub places_below : (n : ℕ) (order : List ℕ) → IsPermutation (range_with_len 0 n) order → All (λ i. i < n) order
places_below n order p =
    All-permutation (λ i. i < n) (range_with_len 0 n) order p
    (All-from_get_or (λ i. i < n) (range_with_len 0 n) 0
    (λ i lt. let m = length-range_with_len 0 n in let less : i < n = omega (arith, lt, m) in let e = get_or-range_with_len 0 n i 0 less in omega (arith, e)))

-- one place more
pub places_more : (n at : ℕ) (order : List ℕ) → IsPermutation (range_with_len 0 n) order → IsPermutation (range_with_len 0 (n + 1)) (insert order at n)
places_more n at order p =
    let range = range_with_len 0 n in
    subst (λ l. IsPermutation l (insert order at n)) (sym (range_more n))
    (IsPermutation-trans (range ++ n ∷ []) (n ∷ order) (insert order at n)
    (IsPermutation-trans (range ++ n ∷ []) (n ∷ range) (n ∷ order) (IsPermutation-to_front range n) (IsPermutation-cons n range order p))
    (IsPermutation-insert order at n))

-- One place more, behind those whose numbers are not higher.

pub record GoesAt (xs order : List ℕ) (n at : ℕ) : Type 0 where
  pub within : at ≤ length order
  pub before : 0 < at → get_or xs (get_or order (at - 1) 0) 0 ≤ get_or xs n 0
  pub after : (k : ℕ) → at ≤ k → k < length order → get_or xs n 0 < get_or xs (get_or order k 0) 0

module _ (xs order : List ℕ) (n at : ℕ) (below : All (λ i. i < n) order) (a : Ascends xs order) (g : GoesAt xs order n at) where
  not_higher : (k : ℕ) → k < at → get_or xs (get_or order k 0) 0 ≤ get_or xs n 0
  not_higher k lt =
      let last = g.before (omega arith) in
      elim (cases_lt k (at - 1)) [
        | inl h ↦ elim (a.before k (at - 1) h (omega (arith, g.within))) [ inl less ↦ omega (arith, less, last) | inr e ↦ omega (arith, e.0, last) ]
        | inr h ↦ let e : k ≡ at - 1 = omega arith in rw e last
      ]

  goes_behind : (k : ℕ) → k < at → ComesBefore xs (get_or order k 0) n
  goes_behind k lt =
      let le = not_higher k lt in
      let b = below k 0 (omega (arith, g.within)) in
      elim (cases_lt (get_or xs (get_or order k 0) 0) (get_or xs n 0)) [ inl h ↦ inl h | inr h ↦ inr (omega (arith, le, h), b) ]

  next : List ℕ
  next = insert order at n

  read_below : (k : ℕ) → k < at → get_or next k 0 ≡ get_or order k 0
  unfolding next
  read_below k lt = get_or-insert_below order at n 0 k lt g.within

  read_at : (k : ℕ) → k ≡ at → get_or next k 0 ≡ n
  unfolding next
  read_at k e = ap (λ i. get_or (insert order at n) i 0) e ∙ get_or-insert_at order at n 0 g.within

  read_above : (k : ℕ) → at < k → get_or next k 0 ≡ get_or order (k - 1) 0
  unfolding next
  read_above k lt =
      let e : k ≡ (k - 1) + 1 = omega arith in
      ap (λ i. get_or (insert order at n) i 0) e ∙ get_or-insert_above order at n 0 (k - 1) (omega arith) g.within

  length-next : length next ≡ length order + 1
  unfolding next
  length-next = length-insert order at n g.within

  as_read : (i j p q : ℕ) → get_or next i 0 ≡ p → get_or next j 0 ≡ q → ComesBefore xs p q → ComesBefore xs (get_or next i 0) (get_or next j 0)
  as_read i j p q ep eq b = subst (λ v. ComesBefore xs v (get_or next j 0)) (sym ep) (subst (λ v. ComesBefore xs p v) (sym eq) b)

  next_before : (i j : ℕ) → i < j → j < length next → ComesBefore xs (get_or next i 0) (get_or next j 0)
  next_before i j lt within =
      let m = length-next in
      elim (cases_lt j at) [
        | inl j_low ↦
            let i_low : i < at = omega arith in
            as_read i j _ _ (read_below i i_low) (read_below j j_low) (a.before i j lt (omega (arith, g.within)))
        | inr j_high ↦ elim (cases_lt at j) [
          | inr same ↦
              let i_low : i < at = omega arith in
              as_read i j _ _ (read_below i i_low) (read_at j (omega arith)) (goes_behind i i_low)
          | inl above ↦
              let j_in : j - 1 < length order = omega (arith, m, within) in
              elim (cases_lt i at) [
                | inl i_low ↦ as_read i j _ _ (read_below i i_low) (read_above j above) (a.before i (j - 1) (omega arith) j_in)
                | inr i_high ↦ elim (cases_lt at i) [
                  | inr i_at ↦ as_read i j _ _ (read_at i (omega arith)) (read_above j above) (inl (g.after (j - 1) (omega arith) j_in))
                  | inl i_above ↦ as_read i j _ _ (read_above i i_above) (read_above j above) (a.before (i - 1) (j - 1) (omega arith) j_in)
                ]
              ]
        ]
      ]

  Ascends-more : Ascends xs (insert order at n)
  unfolding next
  Ascends-more = record { before = next_before }

-- How far the loop of `order` is: so many places are in order.
pub record Ordering (xs order : List ℕ) (n : ℕ) : Type 0 where
  pub places : IsPermutation (range_with_len 0 n) order
  pub ascends : Ascends xs order

pub Ordering-more : (xs order : List ℕ) (n at : ℕ) → Ordering xs order n → GoesAt xs order n at → Ordering xs (insert order at n) (n + 1)
Ordering-more xs order n at o g = record {
  places = places_more n at order o.places;
  ascends = Ascends-more xs order n at (places_below n order o.places) o.ascends g;
}

-- There is only one order.

not_both : (xs : List ℕ) (i j : ℕ) → ComesBefore xs i j → ComesBefore xs j i → ⊥
not_both xs i j p q = elim p [
  | inl a ↦ elim q [ inl b ↦ omega (arith, a, b) | inr b ↦ omega (arith, a, b.0) ]
  | inr a ↦ elim q [ inl b ↦ omega (arith, a.0, b) | inr b ↦ omega (arith, a.1, b.1) ]
]

Contains-cases : (y z : ℕ) (ys : List ℕ) → Contains (y ∷ ys) z → (z ≡ y) ⊎ Contains ys z
Contains-cases y z ys (zero, lt, e) = inl (sym e)
Contains-cases y z ys (suc k, lt, e) = inr (k, omega arith, e)

Contains-head : (y : ℕ) (ys : List ℕ) → Contains (y ∷ ys) y
Contains-head y ys = (0, omega arith, refl)

Contains-next : (y z : ℕ) (ys : List ℕ) → Contains ys z → Contains (y ∷ ys) z
Contains-next y z ys (k, lt, e) = (suc k, omega arith, e)

Contains-none : (z : ℕ) → Contains [] z → ⊥
Contains-none z (k, lt, e) = omega arith

Ascends-tail : (xs : List ℕ) (y : ℕ) (ys : List ℕ) → Ascends xs (y ∷ ys) → Ascends xs ys
Ascends-tail xs y ys a = record { before = λ i j lt within. a.before (suc i) (suc j) (omega arith) (omega arith) }

Ascends-head : (xs : List ℕ) (y z : ℕ) (ys : List ℕ) → Ascends xs (y ∷ ys) → Contains ys z → ComesBefore xs y z
Ascends-head xs y z ys a (k, lt, e) = subst (λ v. ComesBefore xs y v) (get_or_default ys k 0 z lt ∙ e) (a.before 0 (suc k) (omega arith) (omega arith))

same_order : (xs a b : List ℕ) → Ascends xs a → Ascends xs b → ((z : ℕ) → Contains a z → Contains b z) → ((z : ℕ) → Contains b z → Contains a z) → a ≡ b
same_order xs [] [] p q f g = refl
same_order xs [] (y ∷ b) p q f g = absurd (Contains-none y (g y (Contains-head y b)))
same_order xs (x ∷ a) [] p q f g = absurd (Contains-none x (f x (Contains-head x a)))
same_order xs (x ∷ a) (y ∷ b) p q f g =
    let head : x ≡ y = elim (Contains-cases y x b (f x (Contains-head x a))) [
      | inl e ↦ e
      | inr later ↦ elim (Contains-cases x y a (g y (Contains-head y b))) [
        | inl e ↦ sym e
        | inr late ↦ absurd (not_both xs x y (Ascends-head xs x y a p late) (Ascends-head xs y x b q later))
      ]
    ] in
    let to : (z : ℕ) → Contains a z → Contains b z = λ z i. elim (Contains-cases y z b (f z (Contains-next x z a i))) [
      | inr later ↦ later
      | inl e ↦ let self = Ascends-head xs x z a p i in let back = subst (λ v. ComesBefore xs x v) (e ∙ sym head) self in absurd (not_both xs x x back back)
    ] in
    let from : (z : ℕ) → Contains b z → Contains a z = λ z i. elim (Contains-cases x z a (g z (Contains-next y z b i))) [
      | inr later ↦ later
      | inl e ↦ let self = Ascends-head xs y z b q i in let back = subst (λ v. ComesBefore xs y v) (e ∙ head) self in absurd (not_both xs y y back back)
    ] in
    ap (λ v. v ∷ a) head ∙ ap (λ l. y ∷ l) (same_order xs a b (Ascends-tail xs x a p) (Ascends-tail xs y b q) to from)

pub IsOrder-unique : (xs a b : List ℕ) → IsOrder xs a → IsOrder xs b → a ≡ b
IsOrder-unique xs a b p q =
    let range = range_with_len 0 (length xs) in
    same_order xs a b (record { before = p.ascends }) (record { before = q.ascends })
    (λ z i. Contains-permutation range b z q.places (Contains-permutation a range z (IsPermutation-sym range a p.places) i))
    (λ z i. Contains-permutation range a z p.places (Contains-permutation b range z (IsPermutation-sym range b q.places) i))

pub IsPlace-unique : (xs order : List ℕ) (j k : ℕ) → IsPlace xs order j → IsPlace xs order k → j ≡ k
IsPlace-unique xs order j k p q = elim (p.nearest k q.between) [
  | inl a ↦ elim (q.nearest j p.between) [ inl b ↦ absurd (omega (arith, a, b)) | inr b ↦ absurd (omega (arith, a, b.0)) ]
  | inr a ↦ elim (q.nearest j p.between) [ inl b ↦ absurd (omega (arith, a.0, b)) | inr b ↦ omega (arith, a.1, b.1) ]
]

-- How far the loop of `cut_place` is: the best of the cuts below a place.
pub record IsBestBelow (xs order : List ℕ) (n best : ℕ) : Type 0 where
  pub between : IsBetween xs order best
  pub below : best < n
  pub nearest : (other : ℕ) → other < n → IsBetween xs order other → IsNearer (length order) best other

abbrev pub NoneBelow : List ℕ → List ℕ → ℕ → Type 0
NoneBelow xs order n = (k : ℕ) → k < n → ¬ IsBetween xs order k

-- with none yet, or the best one
abbrev pub Placing : List ℕ → List ℕ → ℕ → Option ℕ → Type 0
Placing xs order n best = MatchOption best (NoneBelow xs order n) (IsBestBelow xs order n)

pub Placing-skips : (xs order : List ℕ) (n : ℕ) (best : Option ℕ) → Placing xs order n best → ¬ IsBetween xs order n → Placing xs order (n + 1) best
Placing-skips xs order n None none here = λ k lt b. elim (cases_lt k n) [
  | inl less ↦ none k less b
  | inr high ↦ let e : k ≡ n = omega arith in here (subst (IsBetween xs order) e b)
]
Placing-skips xs order n (Some best) i here = record {
  between = i.between;
  below = let b = i.below in omega (arith, b);
  nearest = λ other lt b. elim (cases_lt other n) [
    | inl less ↦ i.nearest other less b
    | inr high ↦ let e : other ≡ n = omega arith in absurd (here (subst (IsBetween xs order) e b))
  ];
}

pub Placing-keeps : (xs order : List ℕ) (n : ℕ) (best : Option ℕ) → Placing xs order n best → IfNone best (IsTrue false) → IfSome best (λ b. IsTrue false ↔ (distance (length order) n < distance (length order) b)) → Placing xs order (n + 1) best
Placing-keeps xs order n None none some nearer = absurd (false≢true some)
Placing-keeps xs order n (Some best) i some nearer = record {
  between = i.between;
  below = let b = i.below in omega (arith, b);
  nearest = λ other lt b. elim (cases_lt other n) [
    | inl less ↦ i.nearest other less b
    | inr high ↦
        let e : other ≡ n = omega arith in
        let b = i.below in
        subst (IsNearer (length order) best) (sym e) (elim (cases_lt (distance (length order) n) (distance (length order) best)) [
          | inl closer ↦ absurd (false≢true (nearer.1 closer))
          | inr not_closer ↦ elim (cases_lt (distance (length order) best) (distance (length order) n)) [
            | inl further ↦ inl further
            | inr not_further ↦ inr (omega (arith, not_closer, not_further), omega (arith, b))
          ]
        ])
  ];
}

pub Placing-takes : (xs order : List ℕ) (n : ℕ) (best : Option ℕ) → Placing xs order n best → IsBetween xs order n → IfSome best (λ b. IsTrue true ↔ (distance (length order) n < distance (length order) b)) → IsBestBelow xs order (n + 1) n
Placing-takes xs order n best i here nearer = record {
  between = here;
  below = omega arith;
  nearest = λ other lt b. elim (cases_lt other n) [
    | inl less ↦ below best i nearer other less b
    | inr high ↦ let e : other ≡ n = omega arith in subst (IsNearer (length order) n) (sym e) (inr (refl, omega arith))
  ];
}
  where
    below : (best : Option ℕ) → Placing xs order n best → IfSome best (λ b. IsTrue true ↔ (distance (length order) n < distance (length order) b)) → (other : ℕ) → other < n → IsBetween xs order other → IsNearer (length order) n other
    below None none nearer other less b = absurd (none other less b)
    below (Some best) i nearer other less b =
        let closer = nearer.0 refl in
        elim (i.nearest other less b) [ inl a ↦ inl (omega (arith, a, closer)) | inr a ↦ inl (omega (arith, a.0, closer)) ]
