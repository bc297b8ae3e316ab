-- Lines as an aggregate is added.
use Rattle.std.proofs.{Common.{ℕ, zero, suc, ◌≡◌, ◌≢◌, ◌+◌, ◌<◌, ◌≤◌, ◌⊎◌, true, false, nat_lt, nat_eq, List, [], ◌∷◌, ◌++◌, length, take, drop, get_or, set, refl, sym, ap, ◌∙◌, subst, arith, inl, inr}, lemmas.Bool.{cases_lt, Decides.nat_tests}, lemmas.List.{drop_all, drop_more, get_or_default, set_split}, lemmas.Option.slice_get-get_or}
use Rattle.std.specs.{List.insert, Ordering.{is_lt, nat_cmp}, Prelude.{IfSome, Some, slice_get}}
use Rattle.describing_set.specs.{Ascending.with_id, Sorted.{Ascends, Below}}
use Rattle.describing_set.proofs.Sorted.{Ascends-with_id, with_id-after, with_id-before, with_id-here}
use Rattle.measure_agg.specs.{Aggregate.{Aggregate}, Joining.join}
use Rattle.measure_agg.proofs.AggLaws.{join_associative, join_commutative}
use Rattle.group_answer.specs.{Adding.{IsPlaceOf, concepts_in, with_line}, Groups.{all_of, line}}
use Rattle.row_ledger.specs.declared.page.GroupLine.{GroupLine}

is_less : (x y : ℕ) → x < y → nat_lt x y ≡ true
is_less x y h = grind (arith, nat_tests)

not_less : (x y : ℕ) → y ≤ x → nat_lt x y ≡ false
not_less x y h = grind (arith, nat_tests)

is_equal : (x y : ℕ) → x ≡ y → nat_eq x y ≡ true
is_equal x y h = grind (arith, nat_tests)

not_equal : (x y : ℕ) → y < x → nat_eq x y ≡ false
not_equal x y h = grind (arith, nat_tests)

-- by the test of the code
pub lower : (x y : ℕ) → is_lt (nat_cmp x y) ≡ true → x < y
lower x y h = grind (arith, nat_tests)

pub not-lower : (x y : ℕ) → is_lt (nat_cmp x y) ≡ false → y ≤ x
not-lower x y h = grind (arith, nat_tests)

three_ways : (x y : ℕ) → (x < y) ⊎ ((x ≡ y) ⊎ (y < x))
three_ways x y = grind arith

-- where the line goes

pub line-before : (id : ℕ) (total : Aggregate) (x : GroupLine) (xs : List GroupLine) → id < x.id → with_line id total (x ∷ xs) ≡ line id total ∷ x ∷ xs
line-before id total x xs h = rw (is_less id x.id h) refl

pub line-here : (id : ℕ) (total : Aggregate) (x : GroupLine) (xs : List GroupLine) → id ≡ x.id → with_line id total (x ∷ xs) ≡ line id (join x.agg total) ∷ xs
line-here id total x xs h = let le : x.id ≤ id = omega (arith, h) in rw (not_less id x.id le, is_equal id x.id h) refl

pub line-after : (id : ℕ) (total : Aggregate) (x : GroupLine) (xs : List GroupLine) → x.id < id → with_line id total (x ∷ xs) ≡ x ∷ with_line id total xs
line-after id total x xs h = let le : x.id ≤ id = omega (arith, h) in rw (not_less id x.id le, not_equal id x.id h) refl

-- what holds in each of the three cases holds of the lines with an aggregate more
line-cases : (P : List GroupLine → Type 0) (id : ℕ) (total : Aggregate) (x : GroupLine) (xs : List GroupLine)
    → (id < x.id → P (line id total ∷ x ∷ xs)) → (id ≡ x.id → P (line id (join x.agg total) ∷ xs)) → (x.id < id → P (x ∷ with_line id total xs)) → P (with_line id total (x ∷ xs))
line-cases P id total x xs before here after = elim (three_ways id x.id) [
  | inl h ↦ subst P (sym (line-before id total x xs h)) (before h)
  | inr e ↦ elim e [
    | inl h ↦ subst P (sym (line-here id total x xs h)) (here h)
    | inr h ↦ subst P (sym (line-after id total x xs h)) (after h)
  ]
]

-- the concepts of the lines ascend

concepts-with_line : (id : ℕ) (total : Aggregate) (xs : List GroupLine) → concepts_in (with_line id total xs) ≡ with_id id (concepts_in xs)
concepts-with_line id total [] = refl
concepts-with_line id total (x ∷ xs) = line-cases (λ (l : List GroupLine). concepts_in l ≡ with_id id (concepts_in (x ∷ xs))) id total x xs
    (λ h. sym (with_id-before id x.id (concepts_in xs) h))
    (λ h. ap (λ (n : ℕ). n ∷ concepts_in xs) h ∙ sym (with_id-here id x.id (concepts_in xs) h))
    (λ h. ap (λ (l : List ℕ). x.id ∷ l) (concepts-with_line id total xs) ∙ sym (with_id-after id x.id (concepts_in xs) h))

pub ascends-with_line : (id : ℕ) (total : Aggregate) (xs : List GroupLine) → Ascends (concepts_in xs) → Ascends (concepts_in (with_line id total xs))
ascends-with_line id total xs a = subst Ascends (sym (concepts-with_line id total xs)) (Ascends-with_id id (concepts_in xs) a)

below-get : (b : ℕ) (ys : List GroupLine) (n : ℕ) (x : GroupLine) → Below b (concepts_in ys) → n < length ys → x ≡ get_or ys n x → b < x.id
below-get b [] n x w lt is = absurd (omega (arith, lt))
below-get b (y ∷ ys) zero x w lt is = let low = w.0 in omega (arith, low, ap (λ (z : GroupLine). z.id) is)
below-get b (y ∷ ys) (suc n) x w lt is = below-get b ys n x w.1 (omega (arith, lt)) is

-- the lines up to one of a lower concept stay where they are
pub front-behind : (id : ℕ) (lines : List GroupLine) (n : ℕ) (x : GroupLine) → Ascends (concepts_in lines) → n < length lines → x ≡ get_or lines n x → x.id < id
    → (total : Aggregate) → with_line id total lines ≡ take (suc n) lines ++ with_line id total (drop (suc n) lines)
front-behind id [] n x a lt is low total = absurd (omega (arith, lt))
front-behind id (y ∷ ys) zero x a lt is low total = line-after id total y ys (omega (arith, low, ap (λ (z : GroupLine). z.id) is))
front-behind id (y ∷ ys) (suc n) x a lt is low total =
    let first : y.id < id = (let below = below-get y.id ys n x a.0 (omega (arith, lt)) is in omega (arith, below, low)) in
    line-after id total y ys first ∙ ap (λ (l : List GroupLine). y ∷ l) (front-behind id ys n x a.1 (omega (arith, lt)) is low total)

-- the place is not before a line of no lower concept
pub next-here : (id : ℕ) (lines : List GroupLine) (n : ℕ) (x : GroupLine) → n < length lines → x ≡ get_or lines n x → id ≤ x.id → IfSome (slice_get lines n) (λ (y : GroupLine). id ≤ y.id)
next-here id lines n x lt is le = subst (λ o. IfSome o (λ (y : GroupLine). id ≤ y.id)) (sym (slice_get-get_or lines n x lt ∙ ap Some (sym is))) le

-- all lines together

swapped : (a b c : Aggregate) → join a (join b c) ≡ join b (join a c)
swapped a b c = sym (join_associative a b c) ∙ ap (λ (x : Aggregate). join x c) (join_commutative a b) ∙ join_associative b a c

pub all-with_line : (id : ℕ) (total : Aggregate) (xs : List GroupLine) → all_of (with_line id total xs) ≡ join total (all_of xs)
all-with_line id total [] = refl
all-with_line id total (x ∷ xs) = line-cases (λ (l : List GroupLine). all_of l ≡ join total (all_of (x ∷ xs))) id total x xs
    (λ h. refl)
    (λ h. join_associative x.agg total (all_of xs) ∙ swapped x.agg total (all_of xs))
    (λ h. ap (join x.agg) (all-with_line id total xs) ∙ swapped x.agg total (all_of xs))

-- two aggregates one after the other
pub line-twice : (id : ℕ) (a b : Aggregate) (xs : List GroupLine) → with_line id b (with_line id a xs) ≡ with_line id (join a b) xs
line-twice id a b [] = line-here id b (line id a) [] refl
line-twice id a b (x ∷ xs) = elim (three_ways id x.id) [
  | inl h ↦ ap (with_line id b) (line-before id a x xs h) ∙ line-here id b (line id a) (x ∷ xs) refl ∙ sym (line-before id (join a b) x xs h)
  | inr e ↦ elim e [
    | inl h ↦ ap (with_line id b) (line-here id a x xs h) ∙ line-here id b (line id (join x.agg a)) xs refl
        ∙ ap (λ (t : Aggregate). line id t ∷ xs) (join_associative x.agg a b) ∙ sym (line-here id (join a b) x xs h)
    | inr h ↦ ap (with_line id b) (line-after id a x xs h) ∙ line-after id b x (with_line id a xs) h
        ∙ ap (λ (l : List GroupLine). x ∷ l) (line-twice id a b xs) ∙ sym (line-after id (join a b) x xs h)
  ]
]

-- at its place

module _ (id : ℕ) (total : Aggregate) (lines : List GroupLine) (at : ℕ) (place : IsPlaceOf id lines at) where
  pub line-written : (x : GroupLine) → at < length lines → x ≡ get_or lines at x → id ≡ x.id → set lines at (line id (join x.agg total)) ≡ with_line id total lines
  line-written x lt is same =
      let up : suc at ≡ at + 1 = omega arith in
      let here : drop at lines ≡ x ∷ drop (at + 1) lines = drop_more lines at x lt ∙ ap (λ (y : GroupLine). y ∷ drop (at + 1) lines) (sym is) in
      set_split lines at (line id (join x.agg total)) lt
      ∙ ap (λ (n : ℕ). take at lines ++ line id (join x.agg total) ∷ drop n lines) up
      ∙ ap (λ (l : List GroupLine). take at lines ++ l) (sym (ap (with_line id total) here ∙ line-here id total x (drop (at + 1) lines) same))
      ∙ sym (place.front total)

  pub line-inserted : ((x : GroupLine) → at < length lines → x ≡ get_or lines at x → x.id ≢ id) → insert lines at (line id total) ≡ with_line id total lines
  line-inserted other = elim (cases_lt at (length lines)) [
    | inl lt ↦
        let x = get_or lines at (line id total) in
        let is : x ≡ get_or lines at x = get_or_default lines at (line id total) x lt in
        let le : id ≤ x.id = subst (λ o. IfSome o (λ (y : GroupLine). id ≤ y.id)) (slice_get-get_or lines at (line id total) lt) place.next in
        let ne : x.id ≢ id = other x lt is in
        let below : id < x.id = (let ways = three_ways id x.id in elim ways [ inl h ↦ h | inr e ↦ elim e [ inl h ↦ absurd (ne (sym h)) | inr h ↦ absurd (omega (arith, le, h)) ] ]) in
        let here : drop at lines ≡ x ∷ drop (at + 1) lines = drop_more lines at x lt ∙ ap (λ (y : GroupLine). y ∷ drop (at + 1) lines) (sym is) in
        ap (λ (l : List GroupLine). take at lines ++ l) (ap (λ (l : List GroupLine). line id total ∷ l) here ∙ sym (ap (with_line id total) here ∙ line-before id total x (drop (at + 1) lines) below)) ∙ sym (place.front total)
    | inr ge ↦
        let none : drop at lines ≡ [] = drop_all at lines ge in
        ap (λ (l : List GroupLine). take at lines ++ l) (ap (λ (l : List GroupLine). line id total ∷ l) none ∙ sym (ap (with_line id total) none)) ∙ sym (place.front total)
  ]

-- a line has no more rows than all lines together
pub line-few : (lines : List GroupLine) (i : ℕ) (x : GroupLine) → i < length lines → x ≡ get_or lines i x → x.agg.count ≤ (all_of lines).count
line-few [] i x lt is = absurd (omega (arith, lt))
line-few (y ∷ ys) zero x lt is = omega (arith, ap (λ (z : GroupLine). z.agg.count) is)
line-few (y ∷ ys) (suc i) x lt is = let rest = line-few ys i x (omega (arith, lt)) is in omega (arith, rest)
