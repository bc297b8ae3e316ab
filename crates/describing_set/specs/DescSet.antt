-- The describing set of a list of coordinates, and what it covers.
use Rattle.std.specs.Prelude.{ℕ, ◌≡◌, ◌<◌, List, [], length, map, slice_index_or, Bool}
use Rattle.dim_hierarchy.specs.{Dimension.{Dimension, tree}, Filter.in_each, Row.concept_at, declared.row.Coord.Coord}
use Rattle.describing_set.specs.{Part.{part, part_of, has_ancestor}, declared.part.Part.Part, declared.set.DescSet.DescSet}

-- the concepts of coordinates in a dimension
abbrev pub column : List Coord → ℕ → List ℕ
column rows dim = map (λ at. concept_at at dim) rows

-- the part of a set in a dimension; past the last one there is none
abbrev pub part_at : DescSet → ℕ → Part
part_at set dim = slice_index_or set.parts.items dim (part 0 [])

-- The one set of a list of coordinates: in each dimension the deepest level at which they have at most 6 different
-- ancestors, and these ancestors.
pub record IsSetOf (h : List Dimension) (rows : List Coord) (set : DescSet) : Type 0 where
  pub count : length set.parts.items ≡ length h
  pub parts : (dim : ℕ) → dim < length h → part_at set dim ≡ part_of (tree h dim) (column rows dim)

-- Covering.

-- whether in each dimension the coordinate's ancestor at the set's level is in the set
abbrev pub covers : List Dimension → DescSet → Coord → Bool
covers h set at = in_each has_ancestor h set.parts.items at.at
