-- What the steps of rows at gates and of purses ask of the cells that they are given and of their actor, beyond that they are those of a state.
use Rattle.std.specs.Prelude.{ℕ, ◌≡◌, ◌≢◌, ◌+◌, ◌*◌, ◌^◌, ◌<◌, ◌≤◌, ◌⊎◌, false, [], Some, None, length}
use Rattle.cell_stock.specs.Stock.{Gives, PurseValue, StockValue, Takes}
use Rattle.mapping_table.specs.declared.place.Where.TheVariants as where_is
use Rattle.volap_cell.specs.shard_store.specs.declared.gate.Gate.{Gate}
use Rattle.volap_cell.specs.{Cells.{CellValue, GateCell, TheStock, tag_of}, Errands.{Outside, height_of, height_to_fill, is_filled, place_of}, TreeKinds.{HasRow, Leads, MayQueue}, Values.{ActorValue, ErrandValue}, World.{MustKeep, held}, declared.errand.RowErrand.RowErrand, declared.errand.Way.TheVariants.Put}

-- the actor has put its row in its leaf, and its insert is still counted at the gate in the cell
pub record CanLeaveTree (at : ℕ) (a : ActorValue) : Type 0 where
  pub e : ErrandValue
  pub r : RowErrand
  pub has : HasRow a e r
  pub put : r.way ≡ Put at

-- Purses.

-- for the actor's row a height was looked up by which its purse isn't filled yet; the cell is the stock's
pub record CanRefill (stock : CellValue) (a : ActorValue) : Type 0 where
  pub stock_is : tag_of stock ≡ TheStock
  pub no_job : a.job ≡ None
  pub e : ErrandValue
  pub r : RowErrand
  pub has : HasRow a e r
  pub height : ℕ
  pub noted : height_of r.way ≡ Some height
  pub unfilled : is_filled r.way ≡ false

-- there is something in the actor's purse, it carries no row, and no row of its is to come in
pub record CanGiveBack (stock : CellValue) (a : ActorValue) : Type 0 where
  pub stock_is : tag_of stock ≡ TheStock
  pub no_job : a.job ≡ None
  pub some : a.purse ≢ []
  pub none_to_fill : height_to_fill a.errand ≡ None
  pub none_carried : (y : ℕ) → ¬ MustKeep a y

-- the purse was emptied into the stock, and n spares were taken where so many cells were free then; there are boxes for their blocks
pub record IsRefilled (n : ℕ) (stock stock_now : StockValue) (purse purse_now : PurseValue) (boxes : ℕ) : Type 0 where
  pub emptied : PurseValue
  pub between : StockValue
  pub gives : Gives stock between purse emptied
  pub takes : ((n ≤ length between.free) × Takes n between stock_now emptied purse_now) ⊎ ((length between.free < n) × (stock_now ≡ between) × (purse_now.spares ≡ []))
  pub stamps : stock_now.stamps < 2 ^ 63
  pub enough : 2 * length purse_now.spares + 1 ≤ boxes

-- Queues.

-- the worker's table leads the actor's row to the gate in the cell, and the row has to go to its queue
pub record CanEnterQueue (map_at : ℕ) (map : CellValue) (gate_at : ℕ) (cell : CellValue) (a : ActorValue) : Type 0 where
  pub e : ErrandValue
  pub r : RowErrand
  pub has : HasRow a e r
  pub outside : place_of r.way ≡ Outside
  pub leads : Leads (held map_at map) e.worker e.shard (where_is.Gate gate_at)
  pub gate : Gate
  pub gate_is : cell ≡ GateCell gate
  pub why : MayQueue gate a r.way
