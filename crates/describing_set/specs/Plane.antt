-- The plane of a set, by which its rows are divided.
use Rattle.std.specs.{List.list_any, Prelude.{ℕ, ◌≡◌, ◌==◌, ◌<◌, ◌≤◌, ◌/◌, ◌⊎◌, List, length, take, Contains, Bool}}
use Rattle.dim_hierarchy.specs.{Dimension.{Dimension, tree}, Row.concept_at, Tree.up, declared.row.Coord.Coord}
use Rattle.describing_set.specs.{DescSet.part_at, Sets.IsDescSetOf, declared.plane.Plane.Plane, declared.set.DescSet.DescSet}

-- how many concepts a set has in a dimension
abbrev pub count_at : DescSet → ℕ → ℕ
count_at set dim = length (part_at set dim).ids.items

-- the first dimension has more concepts; or as many, at a level of a lower number; or at the same level, and no higher number itself
abbrev pub ComesFirst : DescSet → ℕ → ℕ → Type 0
ComesFirst set a b =
    (count_at set b < count_at set a)
    ⊎ ((count_at set a ≡ count_at set b)
    × (((part_at set a).level < (part_at set b).level) ⊎ (((part_at set a).level ≡ (part_at set b).level) × (a ≤ b))))

-- the plane lies in the dimension that comes first, and has the first half of its concepts on the left
pub record IsPlaneOf (set : DescSet) (plane : Plane) : Type 0 where
  pub dim : plane.dim < length set.parts.items
  pub first : (k : ℕ) → k < length set.parts.items → ComesFirst set plane.dim k
  pub two : 2 ≤ count_at set plane.dim
  pub level : plane.level ≡ (part_at set plane.dim).level
  pub left : plane.left.items ≡ take (count_at set plane.dim / 2) (part_at set plane.dim).ids.items

-- a plane of this hierarchy: that of one of its sets
pub record IsHierarchyPlane (h : List Dimension) (plane : Plane) : Type 0 where
  pub set : DescSet
  pub valid : IsDescSetOf h set
  pub plane_of : IsPlaneOf set plane

-- the coordinate's ancestor at the plane's level is in the left list
abbrev pub GoesLeft : List Dimension → Plane → Coord → Type 0
GoesLeft h plane at = Contains plane.left.items (up (tree h plane.dim) (concept_at at plane.dim) plane.level)

-- the same as a test
abbrev pub goes_left : List Dimension → Plane → Coord → Bool
goes_left h plane at = list_any (λ x. x == up (tree h plane.dim) (concept_at at plane.dim) plane.level) plane.left.items
