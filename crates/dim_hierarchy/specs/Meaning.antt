-- What the tests of concepts and filters mean.
use Rattle.std.specs.Prelude.{ℕ, ◌≡◌, ◌<◌, List, length, Any}
use Rattle.dim_hierarchy.specs.{Dimension.{Dimension, tree}, Filter.pick_at, Row.concept_at, Tree.{Tree, climb}, declared.filter.Pick.Pick, declared.filter.Pick.TheVariants.{All, Ids}, declared.row.Coord.Coord}

-- the first concept is the second, or is reached from it by parents
pub record IsUnder (t : Tree) (id top : ℕ) : Type 0 where
  pub steps : ℕ
  pub reached : climb t steps id ≡ top

-- the pick is All or lists a concept that this one is under
abbrev pub IsPicked : Tree → Pick → ℕ → Type 0
IsPicked t All id = Unit {0}
IsPicked t (Ids ids) id = Any (IsUnder t id) ids

-- in each dimension the filter's pick has the coordinate's concept
pub record Matches (h : List Dimension) (f : List Pick) (at : Coord) : Type 0 where
  pub picked : (dim : ℕ) → dim < length h → IsPicked (tree h dim) (pick_at f dim) (concept_at at dim)
