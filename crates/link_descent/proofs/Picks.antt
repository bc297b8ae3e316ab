-- The pick of a directory's first entries, and how it grows.
use Rattle.std.proofs.{Common.{ℕ, ◌≡◌, ◌+◌, ◌<◌, ◌≤◌, ◌⊎◌, List, [], ◌∷◌, length, get_or, map, true, false, cond, ltb, not, Some, None, refl, sym, ap, subst, ◌∙◌, arith, inl, inr}, lemmas.Bool.{and_from, and_parts, cases_lt, eq-eqb, eqb-true, false_from_ne_true, lt-ltb, ltb-true, not_from_false, not_from_true, or_cases, or_left, or_right}, lemmas.List.Folds.{list_any_at, list_any_none}, lemmas.List.Sums.position_or_len_is, lemmas.Option.{get_or_from_slice_get, slice_get_cases, slice_get-map, same_Some, slice_get_within, slice_get-get_or}}
use Rattle.std.specs.{List.list_any, Prelude.{slice_get, option_map}}
use Rattle.dim_hierarchy.specs.{Dimension.Dimension, declared.row.Coord.Coord}
use Rattle.describing_set.specs.{Sets.{growth_of, size_of}, declared.set.DescSet.DescSet}
use Rattle.dc_node.specs.declared.entry.Entry.{Entry}
use Rattle.link_descent.specs.Pick.{IsPickedBefore, IsPick, is_before, pick_place}

-- The order, over its numbers: growth, size and place.

abbrev pub Before : ℕ → ℕ → ℕ → ℕ → Type 0
Before growth_a size_a growth_b size_b = (growth_a < growth_b) ⊎ ((growth_a ≡ growth_b) × (size_a < size_b))

abbrev pub First : ℕ → ℕ → ℕ → ℕ → ℕ → ℕ → Type 0
First growth_a size_a i growth_b size_b j = (growth_a < growth_b) ⊎ ((growth_a ≡ growth_b) × ((size_a < size_b) ⊎ ((size_a ≡ size_b) × (i ≤ j))))

-- what no other comes before is first, where its place is not later
first_unless : (ga sa i gb sb j : ℕ) → i ≤ j → ¬ Before gb sb ga sa → First ga sa i gb sb j
first_unless ga sa i gb sb j le unless = elim (cases_lt ga gb) [
  | inl less ↦ inl less
  | inr ge ↦ elim (cases_lt gb ga) [
    | inl more ↦ absurd (unless (inl more))
    | inr same ↦ elim (cases_lt sa sb) [
      | inl smaller ↦ inr (omega arith, inl smaller)
      | inr not_smaller ↦ elim (cases_lt sb sa) [
        | inl larger ↦ absurd (unless (inr (omega arith, larger)))
        | inr as_large ↦ inr (omega arith, inr (omega arith, le))
      ]
    ]
  ]
]

-- what comes before one that is first is first, at any place
first_before : (ga sa i gb sb j gc sc k : ℕ) → Before gc sc ga sa → First ga sa i gb sb j → First gc sc k gb sb j
first_before ga sa i gb sb j gc sc k before first = elim before [
  | inl less ↦ elim first [ inl a ↦ inl (omega (arith, less, a)) | inr a ↦ inl (omega (arith, less, a.0)) ]
  | inr less ↦ elim first [
    | inl a ↦ inl (omega (arith, less.0, a))
    | inr a ↦ inr (omega (arith, less.0, a.0), inl (elim a.1 [ inl b ↦ omega (arith, less.1, b) | inr b ↦ omega (arith, less.1, b.0) ]))
  ]
]

-- The same of sets.

abbrev pub IsBefore : List Dimension → Coord → DescSet → DescSet → Type 0
IsBefore h at a b = Before (growth_of h a at) (size_of h a) (growth_of h b at) (size_of h b)

pub IsPickedBefore-unless : (h : List Dimension) (at : Coord) (a : DescSet) (i : ℕ) (b : DescSet) (j : ℕ) → i ≤ j → ¬ IsBefore h at b a → IsPickedBefore h at a i b j
IsPickedBefore-unless h at a i b j = first_unless (growth_of h a at) (size_of h a) i (growth_of h b at) (size_of h b) j

pub IsPickedBefore-before : (h : List Dimension) (at : Coord) (a : DescSet) (i : ℕ) (b : DescSet) (j : ℕ) (c : DescSet) (k : ℕ) → IsBefore h at c a → IsPickedBefore h at a i b j → IsPickedBefore h at c k b j
IsPickedBefore-before h at a i b j c k = first_before (growth_of h a at) (size_of h a) i (growth_of h b at) (size_of h b) j (growth_of h c at) (size_of h c) k

not_before_itself : (g s : ℕ) → ¬ Before g s g s
not_before_itself g s before = elim before [ inl less ↦ omega (arith, less) | inr less ↦ omega (arith, less.1) ]

IsPickedBefore-same : (h : List Dimension) (at : Coord) (a b : DescSet) (i j : ℕ) → a ≡ b → i ≤ j → IsPickedBefore h at a i b j
IsPickedBefore-same h at a b i j e le =
    subst (λ s. IsPickedBefore h at a i s j) e (IsPickedBefore-unless h at a i a j le (not_before_itself (growth_of h a at) (size_of h a)))

-- the set at a place comes first of the first n
pub record IsBestOf (h : List Dimension) (at : Coord) (sets : List DescSet) (n best : ℕ) : Type 0 where
  pub within : best < n
  pub first : (set other : DescSet) (j : ℕ) → j < n → slice_get sets best ≡ Some set → slice_get sets j ≡ Some other → IsPickedBefore h at set best other j

pub IsBestOf-one : (h : List Dimension) (at : Coord) (sets : List DescSet) → IsBestOf h at sets 1 0
IsBestOf-one h at sets = record {
  within = omega arith;
  first = λ set other j lt p q.
      let e : j ≡ 0 = omega arith in
      IsPickedBefore-same h at set other 0 j (same_Some set other (sym p ∙ ap (slice_get sets) (sym e) ∙ q)) (omega arith);
}

pub IsBestOf-keeps : (h : List Dimension) (at : Coord) (sets : List DescSet) (n best : ℕ) (set next : DescSet) → IsBestOf h at sets n best → slice_get sets best ≡ Some set → slice_get sets n ≡ Some next → ¬ IsBefore h at next set → IsBestOf h at sets (n + 1) best
IsBestOf-keeps h at sets n best set next b here there unless = record {
  within = let w = b.within in omega (arith, w);
  first = λ one other j lt p q. elim (cases_lt j n) [
    | inl less ↦ b.first one other j less p q
    | inr ge ↦
        let e : j ≡ n = omega arith in
        let w = b.within in
        let one_is : set ≡ one = same_Some set one (sym here ∙ p) in
        let other_is : next ≡ other = same_Some next other (sym there ∙ ap (slice_get sets) (sym e) ∙ q) in
        subst (λ s. IsPickedBefore h at s best other j) one_is
        (subst (λ s. IsPickedBefore h at set best s j) other_is (IsPickedBefore-unless h at set best next j (omega (arith, w, ge)) unless))
  ];
}

pub IsBestOf-takes : (h : List Dimension) (at : Coord) (sets : List DescSet) (n best : ℕ) (set next : DescSet) → IsBestOf h at sets n best → slice_get sets best ≡ Some set → slice_get sets n ≡ Some next → IsBefore h at next set → IsBestOf h at sets (n + 1) n
IsBestOf-takes h at sets n best set next b here there before = record {
  within = omega arith;
  first = λ one other j lt p q.
      let one_is : next ≡ one = same_Some next one (sym there ∙ p) in
      elim (cases_lt j n) [
        | inl less ↦ subst (λ s. IsPickedBefore h at s n other j) one_is (IsPickedBefore-before h at set best other j next n before (b.first set other j less here q))
        | inr ge ↦
            let e : j ≡ n = omega arith in
            IsPickedBefore-same h at one other n j (same_Some one other (sym p ∙ ap (slice_get sets) (sym e) ∙ q)) (omega arith)
      ];
}

pub IsPick-from_best : (h : List Dimension) (at : Coord) (sets : List DescSet) (n best : ℕ) → n ≡ length sets → IsBestOf h at sets n best → IsPick h at sets best
IsPick-from_best h at sets n best all b = record {
  within = let w = b.within in omega (arith, w, all);
  first = λ set other j p q. b.first set other j (let lt = slice_get_within sets j other q in omega (arith, lt, all)) p q;
}

-- what the code reads
pub set_at : (entries : List Entry) (k i : ℕ) (d : Entry) → k ≡ i → k < length entries → slice_get (map (λ e. e.set) entries) i ≡ Some (get_or entries k d).set
set_at entries k i d same within =
    ap (slice_get (map (λ e. e.set) entries)) (sym same)
    ∙ slice_get-map (λ e. e.set) entries k
    ∙ ap (option_map (λ e. e.set)) (slice_get-get_or entries k d within)

-- the pick of two

pub IsPick-right : (h : List Dimension) (at : Coord) (left right : DescSet) → IsBefore h at right left → IsPick h at (left ∷ right ∷ []) 1
IsPick-right h at left right before =
    let sets = left ∷ right ∷ [] in
    IsPick-from_best h at sets 2 1 refl (IsBestOf-takes h at sets 1 0 left right (IsBestOf-one h at sets) refl refl before)

pub IsPick-left : (h : List Dimension) (at : Coord) (left right : DescSet) → ¬ IsBefore h at right left → IsPick h at (left ∷ right ∷ []) 0
IsPick-left h at left right unless =
    let sets = left ∷ right ∷ [] in
    IsPick-from_best h at sets 2 0 refl (IsBestOf-keeps h at sets 1 0 left right (IsBestOf-one h at sets) refl refl unless)

-- The pick has one place, that of the function.

-- what is first has no other before it
first_stays : (ga sa i gb sb j : ℕ) → First ga sa i gb sb j → Before gb sb ga sa → ⊥
first_stays ga sa i gb sb j first before = elim first [
  | inl less ↦ elim before [ inl more ↦ omega (arith, less, more) | inr more ↦ omega (arith, less, more.0) ]
  | inr less ↦ elim before [
    | inl more ↦ omega (arith, less.0, more)
    | inr more ↦ elim less.1 [ inl smaller ↦ omega (arith, smaller, more.1) | inr as_large ↦ omega (arith, as_large.0, more.1) ]
  ]
]

-- and is before what stands at an earlier place
first_earlier : (ga sa i gb sb j : ℕ) → First ga sa i gb sb j → j < i → Before ga sa gb sb
first_earlier ga sa i gb sb j first lt = elim first [
  | inl less ↦ inl less
  | inr less ↦ elim less.1 [ inl smaller ↦ inr (less.0, smaller) | inr as_large ↦ absurd (omega (arith, as_large.1, lt)) ]
]

before_meaning : (h : List Dimension) (at : Coord) (a b : DescSet) → is_before h at a b ≡ true → IsBefore h at a b
before_meaning h at a b test = elim (or_cases _ _ test) [
  | inl less ↦ inl (ltb-true _ _ less)
  | inr less ↦ (let p = and_parts _ _ less in inr (eqb-true _ _ p.0, ltb-true _ _ p.1))
]

before_test : (h : List Dimension) (at : Coord) (a b : DescSet) → IsBefore h at a b → is_before h at a b ≡ true
before_test h at a b before = elim before [
  | inl less ↦ or_left _ _ (lt-ltb _ _ less)
  | inr less ↦ or_right _ _ (and_from _ _ (eq-eqb _ _ less.0) (lt-ltb _ _ less.1))
]

module _ (h : List Dimension) (at : Coord) (sets : List DescSet) (place : ℕ) (pick : IsPick h at sets place) (set : DescSet) (here : slice_get sets place ≡ Some set) where
  is_set : get_or sets place set ≡ set
  is_set = get_or_from_slice_get sets place set set here

  none_before : list_any (λ other. is_before h at other set) sets ≡ false
  none_before = list_any_none (λ other. is_before h at other set) sets (λ k d lt.
      false_from_ne_true (is_before h at (get_or sets k d) set) (λ test.
      first_stays _ _ _ _ _ _ (pick.first set (get_or sets k d) k here (slice_get-get_or sets k d lt)) (before_meaning h at (get_or sets k d) set test)))

  one_before : (k : ℕ) → k < place → list_any (λ other. is_before h at other (get_or sets k set)) sets ≡ true
  one_before k lt =
      let earlier = get_or sets k set in
      let within = pick.within in
      let before = first_earlier _ _ _ _ _ _ (pick.first set earlier k here (slice_get-get_or sets k set (omega arith))) lt in
      list_any_at (λ other. is_before h at other earlier) sets place set within (ap (λ s. is_before h at s earlier) is_set ∙ before_test h at set earlier before)

  place_found : pick_place h at sets ≡ Some place
  unfolding pick_place
  place_found =
      let test = λ (s : DescSet). not (list_any (λ other. is_before h at other s) sets) in
      let within = pick.within in
      let first = position_or_len_is test sets place set (omega arith)
      (λ k lt. not_from_true _ (one_before k lt))
      (λ _. ap test is_set ∙ not_from_false _ none_before) in
      ap (λ i. cond (ltb i (length sets)) (Some i) None) first ∙ ap (λ b. cond b (Some place) None) (lt-ltb place (length sets) within)

pub IsPick-place : (h : List Dimension) (at : Coord) (sets : List DescSet) (place : ℕ) → IsPick h at sets place → pick_place h at sets ≡ Some place
IsPick-place h at sets place pick = elim (slice_get_cases sets place).1 [
  | inl found ↦ place_found h at sets place pick found.0 found.2
  | inr past ↦ (let within = pick.within in absurd (omega (arith, past.0)))
]

pub one_pick : (h : List Dimension) (at : Coord) (sets : List DescSet) (other place : ℕ) → IsPick h at sets other → IsPick h at sets place → other ≡ place
one_pick h at sets other place one two = same_Some other place (sym (IsPick-place h at sets other one) ∙ IsPick-place h at sets place two)
