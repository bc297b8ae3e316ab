-- An entry that counts one row more.
use Rattle.std.specs.Prelude.{ℕ, ◌≡◌, List, slice_get, slice_set, Some}
use Rattle.dim_hierarchy.specs.{Dimension.Dimension, declared.row.Row.Row}
use Rattle.measure_agg.specs.Joining.{join, one}
use Rattle.describing_set.specs.Sets.{GrowsBy, IsDescSetOf}
use Rattle.dc_node.specs.declared.entry.Entry.{Entry}

-- an entry with a row more beneath its group
pub record IsWithRow (h : List Dimension) (row : Row) (before now : Entry) : Type 0 where
  pub child : now.child ≡ before.child
  pub stamp : now.stamp ≡ before.stamp
  pub agg : now.agg ≡ join before.agg (one row.measures)
  pub grown : GrowsBy h row.at before.set now.set
  pub valid : IsDescSetOf h now.set

-- of some entries the one at a place has a row more
pub record HasRowMore (h : List Dimension) (row : Row) (place : ℕ) (before now : List Entry) : Type 0 where
  pub entry : Entry
  pub entry_now : Entry
  pub entry_at : slice_get before place ≡ Some entry
  pub counted : IsWithRow h row entry entry_now
  pub now_is : now ≡ slice_set before place entry_now
