-- Filters of a hierarchy, those that names stand for, and which coordinates a filter matches.
use Rattle.std.specs.{List.{slice_index_or, list_any}, Prelude.{ℕ, ◌≡◌, ◌≢◌, ◌<◌, Bool, true, false, ◌&&◌, Option, Some, option_map, option_and_then, List, [], ◌∷◌, length, map as each, zip, All as Each}}
use Rattle.std.specs.FinMap as map
use Rattle.dim_hierarchy.specs.{Dimension.{Dimension, tree, IsHierarchy}, Tree.{Tree, IsConcept, is_under}, declared.filter.NamePick.NamePick, declared.filter.Pick.Pick, declared.filter.Pick.TheVariants.{All, Ids}, declared.row.Coord.Coord}
use Rattle.dim_hierarchy.specs.declared.filter.NamePick.TheVariants as by_name

-- the pick of a filter in a dimension
abbrev pub pick_at : List Pick → ℕ → Pick
pick_at f dim = slice_index_or f dim All

-- All, or a list of concepts of the dimension that is not empty
abbrev pub IsPickOf : Tree → Pick → Type 0
IsPickOf t All = Unit {0}
IsPickOf t (Ids ids) = (ids ≢ []) × Each (IsConcept t) ids

-- a filter of the hierarchy: one pick for each dimension
pub record IsFilterOf (h : List Dimension) (f : List Pick) : Type 0 where
  pub hierarchy : IsHierarchy h
  pub count : length f ≡ length h
  pub picks : (dim : ℕ) → dim < length h → IsPickOf (tree h dim) (pick_at f dim)

-- Matching.

-- whether the pick is All or lists a concept that this one is under
abbrev pub is_picked : Tree → Pick → ℕ → Bool
is_picked t All id = true
is_picked t (Ids ids) id = list_any (is_under t id) ids

-- A test that holds in each dimension, of its tree and of what two lists have there. It fails where the first list has
-- more or fewer than there are dimensions, or the second one too few.
abbrev pub in_each : {P A : Type 0} → (Tree → P → A → Bool) → List Dimension → List P → List A → Bool
in_each test [] [] xs = true
in_each test (d ∷ ds) (p ∷ ps) (x ∷ xs) = test d.tree p x && in_each test ds ps xs
in_each test _ _ _ = false

-- whether in each dimension the pick has the coordinate's concept
abbrev pub matches : List Dimension → List Pick → Coord → Bool
matches h f at = in_each is_picked h f at.at

-- Filters by name.

-- the concepts of names, where each is the name of one
abbrev pub ids_named : Dimension → List (List ℕ) → Option (List ℕ)
ids_named d [] = Some []
ids_named d (name ∷ names) = option_and_then (λ id. option_map (λ ids. id ∷ ids) (ids_named d names)) (map.get d.names name)

-- the pick of a pick by names
abbrev pub pick_named : Dimension → NamePick → Option Pick
pick_named d by_name.All = Some All
pick_named d (by_name.Any names) = option_map Ids (ids_named d names)

-- the picks of a filter by names, one for each dimension
abbrev pub picks : List Dimension → List NamePick → List (Option Pick)
picks h names = each (λ p. pick_named p.0 p.1) (zip h names)

-- the filter of these names
pub record IsFilterNamed (h : List Dimension) (names : List NamePick) (f : List Pick) : Type 0 where
  pub valid : IsFilterOf h f
  pub picks_are : picks h names ≡ each Some f
