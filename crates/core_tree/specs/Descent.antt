-- What the steps of a row onto a head ask for of the cells that they are given and of their actor, beyond that they are those of a state.
use Rattle.std.specs.Prelude.{ℕ, ◌≡◌, ◌+◌, ◌^◌, ◌<◌, ◌≤◌, Bool, true, false, List, [], ◌∷◌, ◌++◌, Option, Some, slice_get, length, map as each, All}
use Rattle.dim_hierarchy.specs.{Dimension.Dimension, Rows.IsRowOf, declared.row.Row.Row}
use Rattle.cell_stock.specs.{Stock.PurseValue, declared.purse.Spare.Spare}
use Rattle.dc_node.specs.{Block.{is_full, entries_in, IsBodyOf}, Summary.row_count, declared.block.Block.Block, declared.entry.Entry.Entry}
use Rattle.volap_cell.specs.link_descent.specs.{Divide.together, Pick.IsPick}
use Rattle.mapping_table.specs.declared.place.Where.TheVariants as where_is
use Rattle.volap_cell.specs.shard_store.specs.{declared.gate.Gate.Gate, declared.gate.Phase.TheVariants.Open}
use Rattle.volap_cell.specs.{Cells.{CellValue, BlockCell, GateCell, block_in}, Errands.is_filled, NewBlocks.{FitsIn, WentIn}, TreeKinds.{HasRow, IsTailOf, Leads}, Values.{ActorValue, ErrandValue}, World.{Change, MustKeep, held, held_if}, declared.errand.RowErrand.RowErrand}

-- The blocks behind a head, which are held at times and stay as they are.

abbrev pub two_if : ℕ → Option CellValue → ℕ → Option CellValue → List Change
two_if first_at first second_at second = held_if first_at first ++ held_if second_at second

abbrev pub block_if : Option CellValue → List Block
block_if (Some (BlockCell b)) = b ∷ []
block_if _ = []

abbrev pub blocks_if : Option CellValue → Option CellValue → List Block
blocks_if first second = block_if first ++ block_if second

-- The cells for new blocks.

-- they are those of the last spares of a purse, the last one first
abbrev pub AreLast : List Spare → List Change → Type 0
AreLast purse [] = Unit {0}
AreLast purse (c ∷ changes) = (front : List Spare) × (spare : Spare) × (purse ≡ front ++ spare ∷ []) × (c.number ≡ spare.cell) × AreLast front changes

-- so many are held where the head is full, and else none
abbrev pub AreForNew : Bool → ℕ → List Spare → List Change → Type 0
AreForNew true most purse changes = (length changes ≡ most) × AreLast purse changes
AreForNew false most purse changes = changes ≡ []

-- The actor carries its row at a directory. The entry at the place comes first for the row, and leads to the child; where that is full
-- the next two blocks of its group are held, or as many as there are, and the cell of the last spare.
pub record CanDown (h : List Dimension) (at : ℕ) (parent : CellValue) (place child_at : ℕ) (child : CellValue) (tail fresh : List Change) (a : ActorValue) : Type 0 where
  pub carried : MustKeep a at
  pub e : ErrandValue
  pub r : RowErrand
  pub has : HasRow a e r
  pub picked : IsPick h r.row.at (each (λ e. e.set) (entries_in (block_in parent).body)) place
  pub entry : Entry
  pub entry_at : slice_get (entries_in (block_in parent).body) place ≡ Some entry
  pub child_is : entry.child ≡ child_at
  pub behind : IsTailOf entry.stamp (block_in child) tail
  pub for_new : AreForNew (is_full (block_in child).body) 1 a.purse fresh

-- what the step down asks of the blocks, the purse and the boxes
pub record CanStep (h : List Dimension) (row : Row) (parent child : Block) (tail : List Block) (purse : List Spare) (boxes : ℕ) : Type 0 where
  pub room : is_full parent.body ≡ false
  pub entries : 0 < length (entries_in parent.body)
  pub parent_valid : IsBodyOf h parent.body
  pub child_valid : IsBodyOf h child.body
  pub row_valid : IsRowOf h row
  pub some : 0 < length purse
  pub few : All (λ e. e.agg.count + 1 < 2 ^ 63) (entries_in parent.body)
  pub tail_valid : All (λ b. IsBodyOf h b.body) tail
  pub few_behind : length tail ≤ 2
  pub few_beneath : row_count (together child.body tail) + 1 < 2 ^ 63
  pub boxed : 2 ≤ boxes

-- The actor's purse was filled for its row, and the worker's table leads the row to the gate in the cell, which is open and for which
-- the purse has enough. The root is held; where it is full the next two blocks of its group are held too, or as many as there are, and
-- the cells of the last two spares.
pub record CanEnterTree (h : List Dimension) (map_at : ℕ) (map : CellValue) (gate_at : ℕ) (cell : CellValue) (root_at : ℕ) (root : CellValue) (tail fresh : List Change) (a : ActorValue) : Type 0 where
  pub e : ErrandValue
  pub r : RowErrand
  pub has : HasRow a e r
  pub filled : is_filled r.way ≡ true
  pub leads : Leads (held map_at map) e.worker e.shard (where_is.Gate gate_at)
  pub gate : Gate
  pub gate_is : cell ≡ GateCell gate
  pub is_open : gate.phase ≡ Open
  pub enough : gate.height + 2 ≤ length a.purse
  pub root_is : root_at ≡ gate.root
  pub behind : IsTailOf gate.stamp (block_in root) tail
  pub for_new : AreForNew (is_full (block_in root).body) 2 a.purse fresh

-- what the step in asks of the gate, the blocks, the purse and the boxes
pub record CanComeIn (h : List Dimension) (row : Row) (gate : Gate) (root : Block) (tail : List Block) (purse : List Spare) (boxes : ℕ) : Type 0 where
  pub fits : FitsIn h row gate root tail purse
  pub few_behind : length tail ≤ 2
  pub boxed : 4 ≤ boxes
  pub active : gate.active + 1 < 2 ^ 64

-- what it did, with the insert counted at the gate
pub record CameIn (h : List Dimension) (row : Row) (tail : List Block) (gate gate_now : Gate) (root root_now : Block) (purse purse_now : PurseValue) (first second first_now second_now : Option CellValue) (boxes boxes_now at : ℕ) : Type 0 where
  pub entered : Gate
  pub went : WentIn h row tail gate entered root root_now purse purse_now first second first_now second_now boxes boxes_now at
  pub counted : gate_now ≡ record entered { active = gate.active + 1 }
