-- What the tests of a set against a filter say of the coordinates that the set covers.
use Rattle.std.proofs.{Common.{ℕ, ◌≡◌, ◌≢◌, ◌+◌, ◌-◌, ◌<◌, ◌≤◌, Bool, true, false, nat_lt, List, [], ◌∷◌, length, get_or, refl, sym, ap, subst, ◌∙◌, arith, inl, inr, Contains, ◌||◌, ◌⊎◌}, lemmas.Bool.{and_parts, and_from, cases_lt, false≢true, lt-ltb, ltb-true}, lemmas.List.Elements.{All-contains, All-head, All-tail, All-cons, All-nil}, lemmas.List.Folds.{Any-from_list_any, list_any-from_Any}}
use Rattle.std.specs.{List.{list_any, list_all}, Prelude.{All as Each, Any, ◌↔◌, IsTrue, ◌&&◌, if◌then◌else◌}}
use Rattle.dim_hierarchy.specs.{Compiled.is_related, Dimension.{Dimension, tree}, Filter.{in_each, pick_at, is_picked, IsPickOf, IsFilterOf}, Meaning.{IsUnder, IsPicked, Matches}, Row.concept_at, Tree.{Tree, IsConcept, IsTree, is_under, up, climb}, declared.filter.Pick.Pick, declared.filter.Pick.TheVariants.{All, Ids}, declared.row.Coord.Coord}
use Rattle.dim_hierarchy.proofs.{Ancestors.{climb-climb, IsUnder-trans, under_up, is_under-IsUnder}, Marking.any_or, Matching.is_picked-IsPicked}
use Rattle.describing_set.specs.{DescSet.part_at, Filter.{IsInside, is_part_inside, is_inside, AreRelated, are_related, IsMet, is_met, is_part_met, Overlaps, overlaps, IsMetFrom, IsBearing, bearing}, Sets.{IsDescSetOf, Covers}, declared.bearing.Bearing.Bearing, declared.part.Part.Part, declared.set.DescSet.DescSet}
use Rattle.describing_set.specs.declared.bearing.Bearing.TheVariants as it
use Rattle.describing_set.proofs.{Covering.{test_at, in_each-from, in_each-at, in_each-fails, IsSetOf-Covers}, Laws.IsSetOf-Describes, Sets.{part_at-IsPart, IsPart-concepts}}

-- Inside.

-- a test of each concept of a list that means a fact
list_all-All : (test : ℕ → Bool) (P : ℕ → Type 0) (xs : List ℕ) → Each (λ x. IsTrue (test x) ↔ P x) xs → IsTrue (list_all test xs) ↔ Each P xs
list_all-All test P [] m = (λ b. All-nil P, λ a. refl)
list_all-All test P (x ∷ xs) m =
    let here = All-head (λ y. IsTrue (test y) ↔ P y) x xs m in
    let rest = list_all-All test P xs (All-tail (λ y. IsTrue (test y) ↔ P y) x xs m) in (
      λ b. let both = and_parts (test x) (list_all test xs) b in All-cons P x xs (here.0 both.0) (rest.0 both.1),
      λ a. and_from (test x) (list_all test xs) (here.1 (All-head P x xs a)) (rest.1 (All-tail P x xs a)),
    )

part_inside-meaning : (t : Tree) → IsTree t → (p : Part) (pick : Pick) → Each (IsConcept t) p.ids.items → IsTrue (is_part_inside t p pick) ↔ Each (IsPicked t pick) p.ids.items
part_inside-meaning t w p pick all =
    list_all-All (is_picked t pick) (IsPicked t pick) p.ids.items (λ k x lt. is_picked-IsPicked t w pick (get_or p.ids.items k x) (all k x lt))

pub is_inside-IsInside : (h : List Dimension) (set : DescSet) (f : List Pick) → IsDescSetOf h set → IsFilterOf h f → IsTrue (is_inside h set f) ↔ IsInside h set f
is_inside-IsInside h set f s v =
    let meaning : (dim : ℕ) → dim < length h → IsTrue (is_part_inside (tree h dim) (part_at set dim) (pick_at f dim)) ↔ Each (IsPicked (tree h dim) (pick_at f dim)) (part_at set dim).ids.items =
    λ dim lt. part_inside-meaning (tree h dim) (s.hierarchy.each dim lt).tree (part_at set dim) (pick_at f dim) (IsPart-concepts (tree h dim) (part_at set dim) (part_at-IsPart h set dim lt s)) in (
      λ b. record { picked = λ dim lt. (meaning dim lt).0 (in_each-at is_part_inside h set.parts.items f All b dim lt) },
      λ i. in_each-from is_part_inside h set.parts.items f All s.set_of.count (let n = v.count in omega arith) (λ dim lt. (meaning dim lt).1 (i.picked dim lt)),
    )

-- a concept is picked where an ancestor is
picked_below : (t : Tree) (pick : Pick) (id level : ℕ) → IsPicked t pick (up t id level) → IsPicked t pick id
picked_below t All id level p = tt
picked_below t (Ids ids) id level p = (p.0, p.1, p.2, p.3, IsUnder-trans t id (up t id level) p.1 (under_up t id level) p.4)

-- a coordinate that the set covers is matched where the set is inside the filter
pub inside_matches : (h : List Dimension) (set : DescSet) (f : List Pick) (at : Coord) → IsInside h set f → Covers h set at → Matches h f at
inside_matches h set f at i c = record {
  picked = λ dim lt.
      let t = tree h dim in
      let p = part_at set dim in
      picked_below t (pick_at f dim) (concept_at at dim) p.level (All-contains (IsPicked t (pick_at f dim)) p.ids.items (up t (concept_at at dim) p.level) (i.picked dim lt) (c.ancestor dim lt));
}

-- Overlapping.

-- a test of some element of a list that means a fact
list_any-Any : (test : ℕ → Bool) (P : ℕ → Type 0) (xs : List ℕ) → Each (λ x. IsTrue (test x) ↔ P x) xs → IsTrue (list_any test xs) ↔ Any P xs
list_any-Any test P xs m = (
  λ b.
      let a = Any-from_list_any test xs b in
      (a.0, a.1, a.2, a.3, (subst (λ x. IsTrue (test x) ↔ P x) a.3 (m a.0 a.1 a.2)).0 a.4),
  λ a. list_any-from_Any test xs (a.0, a.1, a.2, a.3, (subst (λ x. IsTrue (test x) ↔ P x) a.3 (m a.0 a.1 a.2)).1 a.4),
)

related-meaning : (t : Tree) → IsTree t → (a b : ℕ) → IsConcept t a → IsConcept t b → IsTrue (are_related t a b) ↔ AreRelated t a b
related-meaning t w a b ca cb =
    let down = is_under-IsUnder t w a b ca in
    let above = is_under-IsUnder t w b a cb in (
      λ e. elim (either (is_under t a b) (is_under t b a) e) [ inl l ↦ inl (down.0 l) | inr r ↦ inr (above.0 r) ],
      λ r. elim r [ inl u ↦ left (is_under t a b) (is_under t b a) (down.1 u) | inr u ↦ right (is_under t a b) (is_under t b a) (above.1 u) ],
    )
  where
    either : (x y : Bool) → (x || y) ≡ true → (x ≡ true) ⊎ (y ≡ true)
    either true y e = inl refl
    either false y e = inr e

    left : (x y : Bool) → x ≡ true → (x || y) ≡ true
    left true y e = refl
    left false y e = absurd (false≢true e)

    right : (x y : Bool) → y ≡ true → (x || y) ≡ true
    right true y e = refl
    right false y e = e

met-meaning : (t : Tree) → IsTree t → (ids : List ℕ) (pick : Pick) → Each (IsConcept t) ids → IsPickOf t pick → IsTrue (is_met t ids pick) ↔ IsMet t ids pick
met-meaning t w ids All all v = (λ b. tt, λ m. refl)
met-meaning t w ids (Ids tops) all v =
    list_any-Any (λ id. list_any (are_related t id) tops) (λ id. Any (AreRelated t id) tops) ids (λ k x lt.
    list_any-Any (are_related t (get_or ids k x)) (AreRelated t (get_or ids k x)) tops (λ j y less. related-meaning t w (get_or ids k x) (get_or tops j y) (all k x lt) (v.1 j y less)))

some-meaning : (xs : List ℕ) → IsTrue (nat_lt 0 (length xs)) ↔ (xs ≢ [])
some-meaning [] = (λ b e. false≢true b, λ n. absurd (n refl))
some-meaning (x ∷ xs) = (λ b e. cc, λ n. lt-ltb 0 (length (x ∷ xs)) (omega arith))

pub overlaps-Overlaps : (h : List Dimension) (set : DescSet) (f : List Pick) → IsDescSetOf h set → IsFilterOf h f → IsTrue (overlaps h set f) ↔ Overlaps h set f
overlaps-Overlaps h set f s v =
    let some : (dim : ℕ) → IsTrue (nat_lt 0 (length (part_at set dim).ids.items)) ↔ ((part_at set dim).ids.items ≢ []) = λ dim. some-meaning (part_at set dim).ids.items in
    let met : (dim : ℕ) → dim < length h → IsTrue (is_met (tree h dim) (part_at set dim).ids.items (pick_at f dim)) ↔ IsMet (tree h dim) (part_at set dim).ids.items (pick_at f dim) =
    λ dim lt. met-meaning (tree h dim) (s.hierarchy.each dim lt).tree (part_at set dim).ids.items (pick_at f dim) (IsPart-concepts (tree h dim) (part_at set dim) (part_at-IsPart h set dim lt s)) (v.picks dim lt) in (
      λ b.
          let both = and_parts (nat_lt 0 (length h)) _ b in
          let here : (dim : ℕ) → dim < length h → is_part_met (tree h dim) (part_at set dim) (pick_at f dim) ≡ true = in_each-at is_part_met h set.parts.items f All both.1 in
          record {
            dims = ltb-true 0 (length h) both.0;
            some = λ dim lt. (some dim).0 (and_parts (nat_lt 0 (length (part_at set dim).ids.items)) _ (here dim lt)).0;
            met = λ dim lt. (met dim lt).0 (and_parts (nat_lt 0 (length (part_at set dim).ids.items)) _ (here dim lt)).1;
          },
      λ o.
          and_from (nat_lt 0 (length h)) _ (lt-ltb 0 (length h) o.dims)
          (in_each-from is_part_met h set.parts.items f All s.set_of.count (let n = v.count in omega arith) (λ dim lt. and_from _ _ ((some dim).1 (o.some dim lt)) ((met dim lt).1 (o.met dim lt)))),
    )

-- of two ancestors one is under the other
related_ancestors : (t : Tree) (id a b : ℕ) → IsUnder t id a → IsUnder t id b → AreRelated t a b
related_ancestors t id a b p q = elim (cases_lt q.steps p.steps) [
  | inl h ↦ inr (further b a q p (omega arith))
  | inr h ↦ inl (further a b p q h)
]
  where
    further : (x y : ℕ) → (u : IsUnder t id x) (v : IsUnder t id y) → u.steps ≤ v.steps → IsUnder t x y
    further x y u v h =
        let e : u.steps + (v.steps - u.steps) ≡ v.steps = omega arith in
        record {
          steps = v.steps - u.steps;
          reached = ap (λ z. climb t (v.steps - u.steps) z) (sym u.reached) ∙ climb-climb t u.steps (v.steps - u.steps) id ∙ ap (λ n. climb t n id) e ∙ v.reached;
        }

not_nil : (xs : List ℕ) (x : ℕ) → Contains xs x → xs ≢ []
not_nil [] x k e = omega (arith, k.1)
not_nil (y ∷ ys) x k e = cc

met_by : (t : Tree) (pick : Pick) (ids : List ℕ) (id level : ℕ) → Contains ids (up t id level) → IsPicked t pick id → IsMet t ids pick
met_by t All ids id level k p = tt
met_by t (Ids tops) ids id level k p =
    let r : AreRelated t (up t id level) p.1 = related_ancestors t id (up t id level) p.1 (under_up t id level) p.4 in
    (k.0, up t id level, k.1, k.2, (p.0, p.1, p.2, p.3, r))

-- a filter that matches a coordinate that the set covers overlaps the set
pub matched_overlaps : (h : List Dimension) (set : DescSet) (f : List Pick) (at : Coord) → 0 < length h → Covers h set at → Matches h f at → Overlaps h set f
matched_overlaps h set f at lt c m = record {
  dims = lt;
  some = λ dim l. not_nil (part_at set dim).ids.items (up (tree h dim) (concept_at at dim) (part_at set dim).level) (c.ancestor dim l);
  met = λ dim l. met_by (tree h dim) (pick_at f dim) (part_at set dim).ids.items (concept_at at dim) (part_at set dim).level (c.ancestor dim l) (m.picked dim l);
}

-- The test of one concept at a time.

pub related_met : (t : Tree) (p : Pick) (part : Part) → list_any (is_related t p) part.ids.items ≡ is_part_met t part p
related_met t All part = whole part.ids.items
  where
    whole : (ids : List ℕ) → list_any (is_related t All) ids ≡ (nat_lt 0 (length ids) && true)
    whole [] = refl
    whole (x ∷ xs) = rw (lt-ltb 0 (length (x ∷ xs)) (omega arith)) refl
related_met t (Ids tops) part = some part.ids.items
  where
    again : (ys : List ℕ) → list_any (is_related t (Ids tops)) ys ≡ list_any (λ id. list_any (are_related t id) tops) ys
    again [] = refl
    again (y ∷ ys) = rw (any_or (is_under t y) (λ top. is_under t top y) tops, again ys) refl

    some : (ids : List ℕ) → list_any (is_related t (Ids tops)) ids ≡ (nat_lt 0 (length ids) && list_any (λ id. list_any (are_related t id) tops) ids)
    some [] = refl
    some (x ∷ xs) = rw (lt-ltb 0 (length (x ∷ xs)) (omega arith)) (again (x ∷ xs))

-- From one dimension on, and both tests in one answer.

-- each part of a set has a concept where one has
some_each : (h : List Dimension) (set : DescSet) (j k : ℕ) → IsDescSetOf h set → j < length h → k < length h → (part_at set j).ids.items ≢ [] → (part_at set k).ids.items ≢ []
some_each h set j k s lj lk some = by_one (part_at set j).ids.items some (λ x here.
    let below = (IsSetOf-Describes h s.rows set s.hierarchy s.valid s.set_of).beneath j x lj here in
    let covered = IsSetOf-Covers h s.rows set below.1 s.set_of (below.0, below.2, below.3) in
    not_nil (part_at set k).ids.items (up (tree h k) (concept_at below.1 k) (part_at set k).level) (covered.ancestor k lk))
  where
    by_one : (xs : List ℕ) → xs ≢ [] → ((x : ℕ) → Contains xs x → (part_at set k).ids.items ≢ []) → (part_at set k).ids.items ≢ []
    by_one [] n f = absurd (n refl)
    by_one (x ∷ xs) n f = f x (0, omega arith, refl)

-- concepts that are picked are met, where there is one
picked_met : (t : Tree) (pick : Pick) (ids : List ℕ) → ids ≢ [] → list_all (is_picked t pick) ids ≡ true → (nat_lt 0 (length ids) && is_met t ids pick) ≡ true
picked_met t pick [] n e = absurd (n refl)
picked_met t All (x ∷ xs) n e = and_from (nat_lt 0 (length (x ∷ xs))) true (lt-ltb 0 (length (x ∷ xs)) (omega arith)) refl
picked_met t (Ids tops) (x ∷ xs) n e =
    let here : list_any (is_under t x) tops ≡ true = (and_parts (is_picked t (Ids tops) x) (list_all (is_picked t (Ids tops)) xs) e).0 in
    and_from (nat_lt 0 (length (x ∷ xs))) (is_met t (x ∷ xs) (Ids tops)) (lt-ltb 0 (length (x ∷ xs)) (omega arith)) (rw (any_or (is_under t x) (λ top. is_under t top x) tops, here) refl)

met_from-in_each : (h : List Dimension) (set : DescSet) (f : List Pick) (first : ℕ) → IsDescSetOf h set → IsFilterOf h f → ((k : ℕ) → k < first → test_at is_part_met h set.parts.items f All k ≡ true) → IsMetFrom h set f first ↔ IsTrue (in_each is_part_met h set.parts.items f)
met_from-in_each h set f first s v before = (
  λ m. in_each-from is_part_met h set.parts.items f All s.set_of.count (let n = v.count in omega arith) (λ dim lt. elim (cases_lt dim first) [ inl less ↦ before dim less | inr le ↦ m.met dim le lt ]),
  λ b. record { met = λ dim le lt. in_each-at is_part_met h set.parts.items f All b dim lt },
)

same_test : (a b : Bool) → IsTrue a ↔ IsTrue b → a ≡ b
same_test true b m = sym (m.0 refl)
same_test false true m = m.1 refl
same_test false false m = refl

-- the test from one dimension on is that of all, where those before pass it
met_from-overlaps : (h : List Dimension) (set : DescSet) (f : List Pick) (first : ℕ) (met : Bool) → IsDescSetOf h set → IsFilterOf h f → first < length h → ((k : ℕ) → k < first → test_at is_part_met h set.parts.items f All k ≡ true) → IsTrue met ↔ IsMetFrom h set f first → met ≡ overlaps h set f
met_from-overlaps h set f first met s v lt before m =
    let each = met_from-in_each h set f first s v before in
    rw (lt-ltb 0 (length h) (omega arith)) (same_test met (in_each is_part_met h set.parts.items f) (λ e. each.0 (m.0 e), λ e. m.1 (each.1 e)))

-- A set that is inside the filter before a dimension, and not in this one, is not inside, and overlaps where it is met
-- from there on.
pub left_bearing : (h : List Dimension) (set : DescSet) (f : List Pick) (dim : ℕ) (met : Bool) → IsDescSetOf h set → IsFilterOf h f → dim < length h → ((k : ℕ) → k < dim → test_at is_part_inside h set.parts.items f All k ≡ true) → test_at is_part_inside h set.parts.items f All dim ≡ false → IsTrue met ↔ IsMetFrom h set f dim → (if met then it.Overlaps else it.Apart) ≡ bearing h set f
left_bearing h set f dim met s v lt before here m =
    let some : (part_at set dim).ids.items ≢ [] = λ e. false≢true (sym here ∙ ap (list_all (is_picked (tree h dim) (pick_at f dim))) e) in
    let met_before : (k : ℕ) → k < dim → test_at is_part_met h set.parts.items f All k ≡ true =
    λ k less. picked_met (tree h k) (pick_at f k) (part_at set k).ids.items (some_each h set dim k s lt (omega (arith, less, lt)) some) (before k less) in
    let inside : is_inside h set f ≡ false = sym (in_each-fails is_part_inside h set.parts.items f All dim lt here) in
    rw (inside, sym (met_from-overlaps h set f dim met s v lt met_before m)) refl

-- what the answer means
pub bearing-IsBearing : (h : List Dimension) (set : DescSet) (f : List Pick) (r : Bearing) → IsDescSetOf h set → IsFilterOf h f → r ≡ bearing h set f → IsBearing h set f r
bearing-IsBearing h set f r s v e = subst (IsBearing h set f) (sym e) (by_tests (is_inside h set f) (overlaps h set f) (is_inside-IsInside h set f s v) (overlaps-Overlaps h set f s v))
  where
    by_tests : (a b : Bool) → IsTrue a ↔ IsInside h set f → IsTrue b ↔ Overlaps h set f → IsBearing h set f (if a then it.Inside else if b then it.Overlaps else it.Apart)
    by_tests true b m n = m.0 refl
    by_tests false true m n = (λ i. false≢true (m.1 i), n.0 refl)
    by_tests false false m n = (λ i. false≢true (m.1 i), λ o. false≢true (n.1 o))
