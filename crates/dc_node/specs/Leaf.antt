-- The rows of a leaf, which may have no box.
use Rattle.std.specs.Prelude.{Option, Some, None, List, []}
use Rattle.arrayvec.specs.ArrayVec.{ArrayVec as Items}
use Rattle.dim_hierarchy.specs.declared.row.Row.{Row}

-- the rows of the box; without one there are none
abbrev pub rows_of : Option (Items Row) → List Row
rows_of None = []
rows_of (Some box) = box.items
