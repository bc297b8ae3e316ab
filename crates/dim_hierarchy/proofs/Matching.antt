-- The tests of picks and filters, and what they mean.
use Rattle.std.proofs.{Common.{ℕ, zero, suc, ◌≡◌, ◌+◌, ◌-◌, ◌<◌, ◌≤◌, List, [], ◌∷◌, ◌++◌, length, get_or, drop, Bool, true, false, refl, sym, ap, subst, ◌∙◌, arith, inl, inr, add-one}, lemmas.Bool.cases_lt, lemmas.List.{drop_all, get_or_default, get_or_past, get_or_append_left, get_or-append-add, length-append}, lemmas.List.Folds.{Any-from_list_any, list_any-from_Any}}
use Rattle.std.specs.Prelude.{◌↔◌, ◌&&◌, IsTrue, All as Each, Any}
use Rattle.dim_hierarchy.specs.{Concept.level_of, Dimension.{Dimension, dimension, tree}, Filter.{IsFilterOf, is_picked, in_each, matches, pick_at}, Meaning.{IsUnder, IsPicked, Matches}, Row.{IsCoordOf, concept_at}, Tree.{Tree, IsConcept, IsTree, is_under, leaf_level}, declared.filter.Pick.Pick, declared.filter.Pick.TheVariants.{All, Ids}, declared.row.Coord.Coord}
use Rattle.dim_hierarchy.proofs.Ancestors.{is_under-IsUnder, IsUnder-trans}

-- Picks.

pub is_picked-IsPicked : (t : Tree) → IsTree t → (p : Pick) (id : ℕ) → IsConcept t id → IsTrue (is_picked t p id) ↔ IsPicked t p id
is_picked-IsPicked t w All id c = (λ _. tt, λ _. refl)
is_picked-IsPicked t w (Ids ids) id c = (
  λ b.
      let a = Any-from_list_any (is_under t id) ids b in
      (a.0, a.1, a.2, a.3, (is_under-IsUnder t w id a.1 c).0 a.4),
  λ a. list_any-from_Any (is_under t id) ids (a.0, a.1, a.2, a.3, (is_under-IsUnder t w id a.1 c).1 a.4),
)

-- more concepts under listed ones change nothing
pub IsPicked-nested : (t : Tree) (id : ℕ) (ids more : List ℕ) → Each (λ m. Any (IsUnder t m) ids) more → IsPicked t (Ids (ids ++ more)) id ↔ IsPicked t (Ids ids) id
IsPicked-nested t id ids more all = (fewer, longer)
  where
    fewer : IsPicked t (Ids (ids ++ more)) id → IsPicked t (Ids ids) id
    fewer a = elim (cases_lt a.0 (length ids)) [
      | inl lt ↦ (a.0, a.1, lt, sym (get_or_append_left ids more a.1 a.0 lt) ∙ a.3, a.4)
      | inr le ↦
          let n = a.0 - length ids in
          let within : n < length more = omega (arith, a.2, length-append ids more) in
          let place : a.0 ≡ length ids + n = omega arith in
          let is : get_or more n a.1 ≡ a.1 = sym (get_or-append-add ids more n a.1) ∙ ap (λ k. get_or (ids ++ more) k a.1) (sym place) ∙ a.3 in
          let b = subst (λ m. Any (IsUnder t m) ids) is (all n a.1 within) in
          (b.0, b.1, b.2, b.3, IsUnder-trans t id a.1 b.1 a.4 b.4)
    ]

    longer : IsPicked t (Ids ids) id → IsPicked t (Ids (ids ++ more)) id
    longer a = (a.0, a.1, omega (arith, a.2, length-append ids more), get_or_append_left ids more a.1 a.0 a.2 ∙ a.3, a.4)

-- Filters.

-- a coordinate has a place for each dimension
pub IsCoordOf-length : (h : List Dimension) (at : Coord) → IsCoordOf h at → length h ≤ length at.at
IsCoordOf-length h at c = elim (cases_lt (length at.at) (length h)) [
  | inl lt ↦
      let dim = length at.at in
      let last : level_of (concept_at at dim) ≡ leaf_level (tree h dim) = (c.leaf dim lt).last in
      let all : concept_at at dim ≡ 0 = get_or_past at.at dim 0 (omega arith) in
      let some : 2 ≤ length (tree h dim) = (c.hierarchy.each dim lt).tree.some in
      absurd (omega arith)
  | inr le ↦ le
]

-- what is left of the test from a dimension on
pub picked-here : (h : List Dimension) (f : List Pick) (ids : List ℕ) (dim : ℕ) → dim < length h → length f ≡ length h → length h ≤ length ids → in_each is_picked (drop dim h) (drop dim f) (drop dim ids) ≡ (is_picked (tree h dim) (pick_at f dim) (get_or ids dim 0) && in_each is_picked (drop (suc dim) h) (drop (suc dim) f) (drop (suc dim) ids))
picked-here [] f ids dim lt e l = absurd (omega arith)
picked-here (d ∷ h) [] ids dim lt e l = absurd (omega arith)
picked-here (d ∷ h) (p ∷ f) [] dim lt e l = absurd (omega arith)
picked-here (d ∷ h) (p ∷ f) (id ∷ ids) zero lt e l = refl
picked-here (d ∷ h) (p ∷ f) (id ∷ ids) (suc dim) lt e l = picked-here h f ids dim (omega arith) (omega arith) (omega arith)

pub picked-end : (h : List Dimension) (f : List Pick) (ids : List ℕ) (dim : ℕ) → length h ≤ dim → length f ≡ length h → in_each is_picked (drop dim h) (drop dim f) (drop dim ids) ≡ true
picked-end h f ids dim e l = ap (λ ds. in_each is_picked ds (drop dim f) (drop dim ids)) (drop_all dim h e) ∙ ap (λ ps. in_each is_picked [] ps (drop dim ids)) (drop_all dim f (omega arith))

-- the test of one dimension, from what the code reads there
pub picked-step : (h : List Dimension) (f : List Pick) (ids : List ℕ) (dim : ℕ) (r : Bool) → dim < length h → length f ≡ length h → length h ≤ length ids → r ≡ is_picked (tree h dim) (pick_at f dim) (get_or ids dim 0) → in_each is_picked (drop dim h) (drop dim f) (drop dim ids) ≡ (r && in_each is_picked (drop (dim + 1) h) (drop (dim + 1) f) (drop (dim + 1) ids))
picked-step h f ids dim r lt e l t =
    picked-here h f ids dim lt e l ∙ ap (λ b. b && in_each is_picked (drop (suc dim) h) (drop (suc dim) f) (drop (suc dim) ids)) (sym t)
    ∙ ap (λ k. r && in_each is_picked (drop k h) (drop k f) (drop k ids)) (sym (add-one dim))

pub is_picked-read : (h : List Dimension) (f read : List Pick) (dim i id here : ℕ) (d : Dimension) (p : Pick) → read ≡ f → i ≡ dim → dim < length f → d ≡ dimension h dim → p ≡ get_or read i p → id ≡ here → is_picked d.tree p id ≡ is_picked (tree h dim) (pick_at f dim) here
is_picked-read h f read dim i id here d p e n lt de pe ie =
    let at : p ≡ pick_at f dim = pe ∙ ap (λ (l : List Pick). get_or l i p) e ∙ ap (λ k. get_or f k p) n ∙ get_or_default f dim p All lt in
    ap (λ (x : Dimension). is_picked x.tree p id) de ∙ ap (λ x. is_picked (tree h dim) x id) at ∙ ap (λ x. is_picked (tree h dim) (pick_at f dim) x) ie

both : (a b : Bool) → (a && b) ≡ true → (a ≡ true) × (b ≡ true)
both true true e = (refl, refl)
both true false e = absurd cc
both false b e = absurd cc

-- the test is that of each dimension
pub picked-each : (h : List Dimension) (f : List Pick) (ids : List ℕ) → in_each is_picked h f ids ≡ true → (dim : ℕ) → dim < length h → is_picked (tree h dim) (pick_at f dim) (get_or ids dim 0) ≡ true
picked-each [] f ids e dim lt = absurd (omega arith)
picked-each (d ∷ h) [] ids e dim lt = absurd cc
picked-each (d ∷ h) (p ∷ f) [] e dim lt = absurd cc
picked-each (d ∷ h) (p ∷ f) (id ∷ ids) e zero lt = (both (is_picked d.tree p id) (in_each is_picked h f ids) e).0
picked-each (d ∷ h) (p ∷ f) (id ∷ ids) e (suc dim) lt = picked-each h f ids (both (is_picked d.tree p id) (in_each is_picked h f ids) e).1 dim (omega arith)

pub each-picked : (h : List Dimension) (f : List Pick) (ids : List ℕ) → length f ≡ length h → length h ≤ length ids → ((dim : ℕ) → dim < length h → is_picked (tree h dim) (pick_at f dim) (get_or ids dim 0) ≡ true) → in_each is_picked h f ids ≡ true
each-picked [] [] ids e l all = refl
each-picked [] (p ∷ f) ids e l all = absurd (omega arith)
each-picked (d ∷ h) [] ids e l all = absurd (omega arith)
each-picked (d ∷ h) (p ∷ f) [] e l all = absurd (omega arith)
each-picked (d ∷ h) (p ∷ f) (id ∷ ids) e l all =
    let first : is_picked d.tree p id ≡ true = all 0 (omega arith) in
    ap (λ b. b && in_each is_picked h f ids) first ∙ each-picked h f ids (omega arith) (omega arith) (λ dim lt. all (suc dim) (omega arith))

pub matches-Matches : (h : List Dimension) (f : List Pick) (at : Coord) → IsFilterOf h f → IsCoordOf h at → IsTrue (matches h f at) ↔ Matches h f at
matches-Matches h f at v c =
    let meaning : (dim : ℕ) → dim < length h → IsTrue (is_picked (tree h dim) (pick_at f dim) (concept_at at dim)) ↔ IsPicked (tree h dim) (pick_at f dim) (concept_at at dim) =
    λ dim lt. is_picked-IsPicked (tree h dim) (c.hierarchy.each dim lt).tree (pick_at f dim) (concept_at at dim) (c.leaf dim lt).concept in (
      λ b. record { picked = λ dim lt. (meaning dim lt).0 (picked-each h f at.at b dim lt) },
      λ m. each-picked h f at.at v.count (IsCoordOf-length h at c) (λ dim lt. (meaning dim lt).1 (m.picked dim lt)),
    )
