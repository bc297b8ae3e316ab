-- Steps at which the block that a row comes to has room, so that nothing is divided.
use Rattle.std.specs.Prelude.{ℕ, ◌≡◌, false, List, [], slice_get, Some}
use Rattle.dim_hierarchy.specs.{Dimension.Dimension, declared.row.Row.Row}
use Rattle.dc_node.specs.{Block.{is_full, entries_in}, declared.block.Block.Block, declared.entry.Entry.Entry}
use Rattle.cell_stock.specs.Stock.{PurseValue}
use Rattle.shard_store.specs.declared.gate.Gate.{Gate}
use Rattle.link_descent.specs.{Descend.{StepsDown, Enters}, declared.entered.Entered.Entered}

-- a step that made no block, with the cell at which the row is carried
abbrev pub passed : ℕ → Entered
passed at = record { fresh = record { items = [] }; at = at }

-- a step down onto any child with room
pub record PassesDown (h : List Dimension) (row : Row) (place : ℕ) (parent parent_now : Block) : Type 0 where
  pub entry : Entry
  pub entry_at : slice_get (entries_in parent.body) place ≡ Some entry
  pub step : (tail : List Block) (child : Block) (purse : PurseValue) → is_full child.body ≡ false → StepsDown h row place tail parent parent_now child child purse purse (passed entry.child)

-- a step in at the gate onto any root with room
abbrev pub PassesIn : List Dimension → Row → Gate → Gate → Type 0
PassesIn h row gate gate_now = (tail : List Block) (root : Block) (purse : PurseValue) → is_full root.body ≡ false → Enters h row tail gate gate_now root root purse purse (passed gate.root)
