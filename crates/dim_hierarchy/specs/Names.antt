-- The name of a concept, and picks that list names.
use Rattle.std.specs.Prelude.{ℕ, ◌≡◌, ◌≢◌, Some, List, []}
use Rattle.dim_hierarchy.specs.{Dimension.{Dimension, find}, declared.filter.NamePick.NamePick}
use Rattle.dim_hierarchy.specs.declared.filter.NamePick.TheVariants as by_name

-- the name of a concept in a dimension: it stands for the concept, and no other name does
pub record IsNameOf (h : List Dimension) (dim id : ℕ) (name : List ℕ) : Type 0 where
  pub found : find h dim name ≡ Some id
  pub only : (other : List ℕ) → find h dim other ≡ Some id → other ≡ name

-- a pick by names lists one at least
abbrev pub IsNamePick : NamePick → Type 0
IsNamePick by_name.All = Unit {0}
IsNamePick (by_name.Any names) = names ≢ []
