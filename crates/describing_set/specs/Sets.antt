-- Sets of a hierarchy: how they grow and join, what they cover, how large they are, and what they say in other words.
use Rattle.std.specs.{List.range_with_len, List.Sorted.IsStrictlyIncreasing, Prelude.{ℕ, ◌≡◌, ◌-◌, ◌+◌, ◌*◌, ◌<◌, ◌≤◌, List, ◌∷◌, ◌++◌, length, map, sum, if◌then◌else◌, All, Any, Contains}}
use Rattle.dim_hierarchy.specs.{Dimension.{Dimension, tree, IsHierarchy}, Row.{concept_at, IsCoordOf}, Tree.{up, leaf_level}, declared.row.Coord.Coord}
use Rattle.describing_set.specs.{Ascending.most_of_set, DescSet.{column, part_at, IsSetOf}, Part.{ancestors, has_ancestor}, declared.set.DescSet.DescSet}

-- a set of this hierarchy: that of some of its coordinates
pub record IsDescSetOf (h : List Dimension) (set : DescSet) : Type 0 where
  pub hierarchy : IsHierarchy h
  pub rows : List Coord
  pub valid : All (IsCoordOf h) rows
  pub set_of : IsSetOf h rows set

-- the set of coordinates becomes that of the coordinates with one more
pub record GrowsBy (h : List Dimension) (at : Coord) (old new : DescSet) : Type 0 where
  pub grown : (rows : List Coord) → All (IsCoordOf h) rows → IsSetOf h rows old → IsSetOf h (at ∷ rows) new

-- the sets of two lists of coordinates become that of both lists together
pub record JoinsTo (h : List Dimension) (left right result : DescSet) : Type 0 where
  pub joined : (xs ys : List Coord) → All (IsCoordOf h) xs → All (IsCoordOf h) ys
      → IsSetOf h xs left → IsSetOf h ys right → IsSetOf h (xs ++ ys) result

-- Covering.

-- in each dimension the coordinate's ancestor at the set's level is in the set
pub record Covers (h : List Dimension) (set : DescSet) (at : Coord) : Type 0 where
  pub ancestor : (dim : ℕ) → dim < length h → Contains (part_at set dim).ids.items (up (tree h dim) (concept_at at dim) (part_at set dim).level)

-- Numbers.

-- 0 where the coordinate is covered in a dimension, else 1
abbrev pub growth_at : List Dimension → DescSet → Coord → ℕ → ℕ
growth_at h set at dim = if has_ancestor (tree h dim) (part_at set dim) (concept_at at dim) then 0 else 1

-- in how many dimensions the coordinate is not covered
abbrev pub growth_of : List Dimension → DescSet → Coord → ℕ
growth_of h set at = sum (map (growth_at h set at) (range_with_len 0 (length h)))

-- eight for each level from the set's down to the leaves, and one for each concept
abbrev pub size_at : List Dimension → DescSet → ℕ → ℕ
size_at h set dim = 8 * (leaf_level (tree h dim) - (part_at set dim).level) + length (part_at set dim).ids.items

-- the sum of this over the dimensions
abbrev pub size_of : List Dimension → DescSet → ℕ
size_of h set = sum (map (size_at h set) (range_with_len 0 (length h)))

-- Laws.

-- The set of a list of coordinates in other words: it covers each of them, each of its concepts has one of them
-- beneath, and at each level deeper than the set's they have more than 6 different ancestors.
pub record Describes (h : List Dimension) (rows : List Coord) (set : DescSet) : Type 0 where
  pub count : length set.parts.items ≡ length h
  pub covers : All (Covers h set) rows
  pub beneath : (dim id : ℕ) → dim < length h → Contains (part_at set dim).ids.items id
      → Any (λ at. up (tree h dim) (concept_at at dim) (part_at set dim).level ≡ id) rows
  pub ascending : (dim : ℕ) → dim < length h → IsStrictlyIncreasing (part_at set dim).ids.items
  pub few : (dim : ℕ) → dim < length h → length (part_at set dim).ids.items ≤ most_of_set
  pub level : (dim : ℕ) → dim < length h → (part_at set dim).level ≤ leaf_level (tree h dim)
  pub deepest : (dim level : ℕ) → dim < length h → (part_at set dim).level < level → level ≤ leaf_level (tree h dim)
      → most_of_set < length (ancestors (tree h dim) level (column rows dim))

-- each coordinate of the first list occurs in the second
abbrev pub AreAmong : List Coord → List Coord → Type 0
AreAmong xs ys = (at : Coord) → Contains xs at → Contains ys at
