-- A part of a desk in the list of its parts: those before it and those behind it, and what all parts keep when others stand in its place.
use Rattle.std.proofs.{Common.{◌≡◌, ℕ, zero, suc, ◌+◌, ◌<◌, List, [], ◌∷◌, ◌++◌, length, take, drop, Bool, true, refl, sym, ap, subst, arith, ◌∙◌, ◌⊎◌, inl, inr, All, Any, Contains, Some}, lemmas.List.set_split, lemmas.List.Elements.{All-contains, All-contains_itself, All-weaker, Contains-append_cases, Contains-append_left, Contains-append_right}, lemmas.List.Quantifiers.position-Some, lemmas.List.Sums.{sum_by-append, sum_by-cons}, lemmas.Option.slice_get_within}
use Rattle.std.specs.Prelude.{position, slice_get, slice_set, slice_index_or, sum_by}
use Rattle.query_router.specs.declared.part.Part.{Part}
use Rattle.row_ledger.specs.declared.event.Event.{Event}
use Rattle.list_words.proofs.Elements.{Contains-nil, Contains-first}
use Rattle.volap_cell.specs.Desking.{AreLinesApart, AreUnrelated}

-- Elements.

-- what holds of each element that a list contains
pub all-of : {X : Type 0} (P : X → Type 0) (xs : List X) → ((x : X) → Contains xs x → P x) → All P xs
all-of P xs f = All-weaker (Contains xs) P f xs (All-contains_itself xs)

pub any-of : {X : Type 0} (P : X → Type 0) (xs : List X) (x : X) → Contains xs x → P x → Any P xs
any-of P xs x (k, lt, here) p = (k, x, lt, here, p)

pub some-of : {X : Type 0} (P : X → Type 0) (xs : List X) → Any P xs → (x : X) × Contains xs x × P x
some-of P xs (k, x, lt, here, p) = (x, (k, lt, here), p)

pub Contains-head : {X : Type 0} (x : X) (xs : List X) → Contains (x ∷ xs) x
Contains-head x xs = (0, omega arith, refl)

pub Contains-one : {X : Type 0} (x y : X) → Contains (x ∷ []) y → x ≡ y
Contains-one x y has = elim (Contains-first x [] y has) [
  | inl is ↦ is
  | inr none ↦ absurd (Contains-nil y none)
]

-- what stands at a place stands between those before it and those behind it

pub splits-at : {X : Type 0} (xs : List X) (i : ℕ) (x : X) → slice_get xs i ≡ Some x → xs ≡ take i xs ++ x ∷ drop (suc i) xs
splits-at [] i x is = cc
splits-at (y ∷ ys) zero x is = (let same : y ≡ x = cc in ap (λ z. z ∷ ys) same)
splits-at (y ∷ ys) (suc i) x is = ap (λ zs. y ∷ zs) (splits-at ys i x is)

pub place-splits : {X : Type 0} (xs : List X) (i : ℕ) (x : X) → slice_get xs i ≡ Some x → xs ≡ take i xs ++ x ∷ drop (i + 1) xs
place-splits xs i x is = (let next : suc i ≡ i + 1 = omega arith in splits-at xs i x is ∙ ap (λ (k : ℕ). take i xs ++ x ∷ drop k xs) next)

place-index : {X : Type 0} (xs : List X) (i : ℕ) (x d : X) → slice_get xs i ≡ Some x → slice_index_or xs i d ≡ x
place-index [] i x d is = cc
place-index (y ∷ ys) zero x d is = cc
place-index (y ∷ ys) (suc i) x d is = place-index ys i x d is

-- one that is written there stands between them
pub place-set : {X : Type 0} (xs : List X) (i : ℕ) (x y : X) → slice_get xs i ≡ Some x → slice_set xs i y ≡ take i xs ++ y ∷ drop (i + 1) xs
place-set xs i x y is = (let next : suc i ≡ i + 1 = omega arith in set_split xs i y (slice_get_within xs i x is) ∙ ap (λ (k : ℕ). take i xs ++ y ∷ drop k xs) next)

some-at : {X : Type 0} (xs : List X) (i : ℕ) → i < length xs → (x : X) × (slice_get xs i ≡ Some x)
some-at [] i lt = absurd (omega (arith, lt))
some-at (y ∷ ys) zero lt = (y, refl)
some-at (y ∷ ys) (suc i) lt = some-at ys i (omega (arith, lt))

found-within : {X : Type 0} (p : X → Bool) (xs : List X) (i : ℕ) → position p xs ≡ Some i → i < length xs
found-within p [] i is = cc
found-within p (x ∷ xs) i is = (position-Some p (x ∷ xs) i x is).0

-- the first that passes a test
pub found-at : {X : Type 0} (p : X → Bool) (xs : List X) (i : ℕ) → position p xs ≡ Some i → (x : X) × (slice_get xs i ≡ Some x) × (p x ≡ true)
found-at p xs i is =
    let (x, here) = some-at xs i (found-within p xs i is) in
    (x, here, ap p (sym (place-index xs i x x here)) ∙ (position-Some p xs i x is).1)

-- the one, and the others

pub was-cases : {X : Type 0} (before behind : List X) (old x : X) → Contains (before ++ old ∷ behind) x → (old ≡ x) ⊎ Contains (before ++ behind) x
was-cases before behind old x has = elim (Contains-append_cases before (old ∷ behind) x has) [
  | inl in_front ↦ inr (Contains-append_left before behind x in_front)
  | inr rest ↦ elim (Contains-first old behind x rest) [
    | inl is ↦ inl is
    | inr in_back ↦ inr (Contains-append_right before behind x in_back)
  ]
]

pub now-cases : {X : Type 0} (before new behind : List X) (x : X) → Contains (before ++ (new ++ behind)) x → Contains new x ⊎ Contains (before ++ behind) x
now-cases before new behind x has = elim (Contains-append_cases before (new ++ behind) x has) [
  | inl in_front ↦ inr (Contains-append_left before behind x in_front)
  | inr rest ↦ elim (Contains-append_cases new behind x rest) [
    | inl is ↦ inl is
    | inr in_back ↦ inr (Contains-append_right before behind x in_back)
  ]
]

pub others-now : {X : Type 0} (before new behind : List X) (x : X) → Contains (before ++ behind) x → Contains (before ++ (new ++ behind)) x
others-now before new behind x has = elim (Contains-append_cases before behind x has) [
  | inl in_front ↦ Contains-append_left before (new ++ behind) x in_front
  | inr in_back ↦ Contains-append_right before (new ++ behind) x (Contains-append_right new behind x in_back)
]

pub new-now : {X : Type 0} (before new behind : List X) (x : X) → Contains new x → Contains (before ++ (new ++ behind)) x
new-now before new behind x has = Contains-append_right before (new ++ behind) x (Contains-append_left new behind x has)

pub others-was : {X : Type 0} (before behind : List X) (old x : X) → Contains (before ++ behind) x → Contains (before ++ old ∷ behind) x
others-was before behind old x has = others-now before (old ∷ []) behind x has

pub old-was : {X : Type 0} (before behind : List X) (old : X) → Contains (before ++ old ∷ behind) old
old-was before behind old = Contains-append_right before (old ∷ behind) old (Contains-head old behind)

-- what is so of all
pub all-exchanged : {X : Type 0} (P Q : X → Type 0) (before new behind : List X) (old : X) → All P (before ++ old ∷ behind) → ((x : X) → Contains (before ++ behind) x → P x → Q x) → All Q new → All Q (before ++ (new ++ behind))
all-exchanged P Q before new behind old all others news = all-of Q (before ++ (new ++ behind)) (λ x has. elim (now-cases before new behind x has) [
  | inl is ↦ All-contains Q new x news is
  | inr other ↦ others x other (All-contains P (before ++ old ∷ behind) x all (others-was before behind old x other))
])

-- a list of one has no others
pub alone : {X : Type 0} (before behind : List X) (old x : X) → before ++ old ∷ behind ≡ x ∷ [] → (old ≡ x) × (before ≡ []) × (behind ≡ [])
alone [] behind old x is = (cc, refl, cc)
alone (y ∷ []) behind old x is = cc
alone (y ∷ z ∷ before) behind old x is = cc

-- sums
pub sum-exchanged : {X : Type 0} (f : X → ℕ) (before new behind : List X) (old : X) → sum_by f (before ++ (new ++ behind)) + f old ≡ sum_by f (before ++ old ∷ behind) + sum_by f new
sum-exchanged f before new behind old =
    let a = sum_by-append f before (new ++ behind) in
    let b = sum_by-append f new behind in
    let c = sum_by-append f before (old ∷ behind) in
    let d = sum_by-cons f old behind in
    omega (arith, a, b, c, d)

-- Lines.

pub unrelated-back : (h : List Event) (p q : Part) → AreUnrelated h p q → AreUnrelated h q p
unrelated-back h p q (a, b) = (b, a)

apart-append : (h : List Event) (xs ys : List Part) → AreLinesApart h xs → AreLinesApart h ys → ((p q : Part) → Contains xs p → Contains ys q → AreUnrelated h p q) → AreLinesApart h (xs ++ ys)
apart-append h [] ys a b f = b
apart-append h (x ∷ xs) ys a b f = (
  all-of (AreUnrelated h x) (xs ++ ys) (λ q has. elim (Contains-append_cases xs ys q has) [
    | inl more ↦ All-contains (AreUnrelated h x) xs q a.0 more
    | inr other ↦ f x q (Contains-head x xs) other
  ]),
  apart-append h xs ys a.1 b (λ p q has other. f p q (Contains-append_right (x ∷ []) xs p has) other),
)

apart-front : (h : List Event) (xs ys : List Part) → AreLinesApart h (xs ++ ys) → AreLinesApart h xs
apart-front h [] ys a = tt
apart-front h (x ∷ xs) ys a = (all-of (AreUnrelated h x) xs (λ q has. All-contains (AreUnrelated h x) (xs ++ ys) q a.0 (Contains-append_left xs ys q has)), apart-front h xs ys a.1)

apart-back : (h : List Event) (xs ys : List Part) → AreLinesApart h (xs ++ ys) → AreLinesApart h ys
apart-back h [] ys a = a
apart-back h (x ∷ xs) ys a = apart-back h xs ys a.1

apart-between : (h : List Event) (xs ys : List Part) → AreLinesApart h (xs ++ ys) → (p q : Part) → Contains xs p → Contains ys q → AreUnrelated h p q
apart-between h [] ys a p q has other = absurd (Contains-nil p has)
apart-between h (x ∷ xs) ys a p q has other = elim (Contains-first x xs p has) [
  | inl is ↦ subst (λ z. AreUnrelated h z q) is (All-contains (AreUnrelated h x) (xs ++ ys) q a.0 (Contains-append_right xs ys q other))
  | inr more ↦ apart-between h xs ys a.1 p q more other
]

-- a part is unrelated to the others
pub apart-others : (h : List Event) (before behind : List Part) (old : Part) → AreLinesApart h (before ++ old ∷ behind) → (p : Part) → Contains (before ++ behind) p → AreUnrelated h old p
apart-others h before behind old a p has = elim (Contains-append_cases before behind p has) [
  | inl in_front ↦ unrelated-back h p old (apart-between h before (old ∷ behind) a p old in_front (Contains-head old behind))
  | inr in_back ↦ All-contains (AreUnrelated h old) behind p (apart-back h before (old ∷ behind) a).0 in_back
]

-- others stand in its place
pub apart-exchanged : (h : List Event) (before new behind : List Part) (old : Part) → AreLinesApart h (before ++ old ∷ behind) → AreLinesApart h new → ((p q : Part) → Contains (before ++ behind) p → Contains new q → AreUnrelated h p q)
    → AreLinesApart h (before ++ (new ++ behind))
apart-exchanged h before new behind old a b f =
    apart-append h before (new ++ behind) (apart-front h before (old ∷ behind) a)
    (apart-append h new behind b (apart-back h before (old ∷ behind) a).1 (λ p q has other. unrelated-back h q p (f q p (Contains-append_right before behind q other) has)))
    (λ p q has other. elim (Contains-append_cases new behind q other) [
      | inl is ↦ f p q (Contains-append_left before behind p has) is
      | inr in_back ↦ apart-between h before (old ∷ behind) a p q has (Contains-append_right (old ∷ []) behind q in_back)
    ])
