-- A filter with a mark for each concept of its hierarchy.
use Rattle.std.specs.{Coded.{Coded, code_by, coded×, coded_ℕ, coded_list, coded_option}, List.slice_index_or, Prelude.{ℕ, ◌≡◌, ◌<◌, Bool, ◌||◌, Option, Some, None, refl, List, length, All as Each}}
use Rattle.dim_hierarchy.specs.{Concept.level_of, Dimension.{Dimension, tree}, FewMarks.AreFewMarks, Filter.{IsFilterOf, is_picked, pick_at}, Marks.{is_above, AreMarksOf}, Stored.dimension_code, Tree.{Tree, IsConcept}, declared.dim_marks.DimMarks.DimMarks, declared.filter.Pick.Pick, declared.filter.Pick.TheVariants.{All, Ids}}
use Rattle.dim_hierarchy.specs.declared.dim_marks.DimMarks.TheVariants as marks

-- a hierarchy, and the picks of a filter of it
pub record Compiled : Type 0 where
  pub hierarchy : List Dimension
  pub picks : List Pick

abbrev pub compiled : List Dimension → List Pick → Compiled
compiled h f = record { hierarchy = h; picks = f }

-- the pick has the concept, or lists one that is under it
abbrev pub is_related : Tree → Pick → ℕ → Bool
is_related t p id = is_picked t p id || is_above t p id

-- concepts of a level
abbrev pub AreOfLevel : Tree → ℕ → List ℕ → Type 0
AreOfLevel t level ids = Each (λ id. IsConcept t id × (level_of id ≡ level)) ids

-- the marks of a pick
abbrev pub AreDimMarks : Tree → Pick → DimMarks → Type 0
AreDimMarks t p marks.All = p ≡ All
AreDimMarks t p (marks.Full m) = AreMarksOf t p m
AreDimMarks t p (marks.Few m) = AreFewMarks t p m.value

-- the marks of each dimension are those of the filter's pick
pub record AreFilterMarks (h : List Dimension) (f : List Pick) (dims : List DimMarks) : Type 0 where
  pub valid : IsFilterOf h f
  pub count : length dims ≡ length h
  pub each : (dim : ℕ) → dim < length h → AreDimMarks (tree h dim) (pick_at f dim) (slice_index_or dims dim marks.All)

-- How these are stored.

abbrev pub ids_of : Pick → Option (List ℕ)
ids_of All = None
ids_of (Ids ids) = Some ids

abbrev pub pick_of : Option (List ℕ) → Pick
pick_of None = All
pick_of (Some ids) = Ids ids

abbrev pub pick_back : (p : Pick) → pick_of (ids_of p) ≡ p
pick_back All = refl
pick_back (Ids ids) = refl

-- a pick is stored as the list that it has
abbrev pub pick_code : Coded Pick
pick_code = code_by (Option (List ℕ)) (coded_option (coded_list coded_ℕ)) ids_of pick_of pick_back

abbrev pub compiled_code : Coded Compiled
compiled_code =
    code_by (List Dimension × List Pick) (coded× (coded_list dimension_code) (coded_list pick_code))
    (λ c. (c.hierarchy, c.picks)) (λ p. record { hierarchy = p.0; picks = p.1 }) (λ _. refl)
