-- Coordinates of a hierarchy, and those that names stand for.
use Rattle.std.specs.Prelude.{ℕ, ◌≡◌, ◌<◌, ◌≤◌, ◌==◌, Option, Some, None, option_and_then, if◌then◌else◌, List, length, slice_index, map as each, zip, take}
use Rattle.std.specs.FinMap as map
use Rattle.dim_hierarchy.specs.{Concept.level_of, Dimension.{Dimension, tree, IsHierarchy}, Tree.{IsLeaf, leaf_level}, declared.row.Coord.Coord}

-- the concept of a coordinate in a dimension
abbrev pub concept_at : Coord → ℕ → ℕ
concept_at at dim = slice_index at.at dim

-- a coordinate of the hierarchy: a leaf concept in each dimension, and ALL past the last
pub record IsCoordOf (h : List Dimension) (at : Coord) : Type 0 where
  pub hierarchy : IsHierarchy h
  pub leaf : (dim : ℕ) → dim < length h → IsLeaf (tree h dim) (concept_at at dim)
  pub rest : (dim : ℕ) → length h ≤ dim → concept_at at dim ≡ 0

-- the leaf concept of a name
abbrev pub leaf_named : Dimension → List ℕ → Option ℕ
leaf_named d name = option_and_then (λ id. if level_of id == leaf_level d.tree then Some id else None) (map.get d.names name)

-- the leaf concepts of names, one for each dimension
abbrev pub leaves : List Dimension → List (List ℕ) → List (Option ℕ)
leaves h names = each (λ p. leaf_named p.0 p.1) (zip h names)

-- the coordinate of these names
pub record IsCoordNamed (h : List Dimension) (names : List (List ℕ)) (at : Coord) : Type 0 where
  pub valid : IsCoordOf h at
  pub concepts : leaves h names ≡ each Some (take (length h) at.at)
