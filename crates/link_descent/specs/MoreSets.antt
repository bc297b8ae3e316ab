-- Lists of the describing sets of a block's items.
use Rattle.std.specs.Prelude.{◌≡◌, List, [], ◌∷◌, ◌++◌}
use Rattle.dim_hierarchy.specs.{Dimension.Dimension, declared.row.Coord.Coord}
use Rattle.describing_set.specs.{DescSet.IsSetOf, Sets.IsDescSetOf, declared.set.DescSet.DescSet}

-- of two lists of sets the second has one more at its end, that of a coordinate
pub record HasSetMore (h : List Dimension) (at : Coord) (before now : List DescSet) : Type 0 where
  pub set : DescSet
  pub set_of : IsSetOf h (at ∷ []) set
  pub valid : IsDescSetOf h set
  pub now_is : now ≡ before ++ set ∷ []
