-- What a kind asks of the cells that it is given and of its actor, beyond that they are those of a state.
use Rattle.std.specs.Prelude.{ℕ, ◌≡◌, true}
use Rattle.dc_node.specs.Block.{is_leaf}
use Rattle.volap_cell.specs.{Cells.{CellValue, block_in}, Values.ActorValue, World.MustKeep}

-- the actor carries its row at the cell, which is a leaf
pub record CanPutInLeaf (at : ℕ) (cell : CellValue) (a : ActorValue) : Type 0 where
  pub carried : MustKeep a at
  pub leaf : is_leaf (block_in cell).body ≡ true
