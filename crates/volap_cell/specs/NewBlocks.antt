-- What a step of a row onto a head asks for, and what it leaves in the cells that are held for new blocks.
use Rattle.std.specs.Prelude.{ℕ, ◌≡◌, ◌+◌, ◌*◌, ◌^◌, ◌<◌, ◌≤◌, false, List, [], ◌∷◌, Option, Some, slice_get, length, map, All, IfSome}
use Rattle.dim_hierarchy.specs.{Dimension.Dimension, Rows.IsRowOf, declared.row.Row.Row}
use Rattle.describing_set.specs.Sets.{IsDescSetOf}
use Rattle.dc_node.specs.{Block.{is_full, entries_in, IsBodyOf}, Summary.row_count, declared.block.Block.Block}
use Rattle.cell_stock.specs.{Stock.PurseValue, declared.purse.Spare.Spare}
use Rattle.shard_build.specs.shard_store.specs.{declared.gate.Gate.Gate, declared.gate.Phase.TheVariants.Open}
use Rattle.shard_build.specs.link_descent.specs.{Descend.{StepsDown, Enters}, Divide.together, Pick.IsPick, declared.entered.Entered.Entered, declared.entered.Fresh.Fresh}
use Rattle.volap_cell.specs.Cells.{CellValue, BlockCell}

-- The cells that are held for new blocks: the first ones have them now, and what is behind these is as it was.
abbrev pub HaveNew : List Fresh → List (Option CellValue) → List (Option CellValue) → Type 0
HaveNew [] before now = now ≡ before
HaveNew (f ∷ fresh) (x ∷ before) (y ∷ now) = (y ≡ Some (BlockCell f.block)) × HaveNew fresh before now
HaveNew (f ∷ fresh) _ _ = ⊥

-- a row can go down from a directory by the entry at a place of it, to a child with these blocks behind it
pub record FitsDown (h : List Dimension) (row : Row) (place : ℕ) (parent child : Block) (tail : List Block) (purse : List Spare) : Type 0 where
  pub room : is_full parent.body ≡ false
  pub parent_valid : IsBodyOf h parent.body
  pub child_valid : IsBodyOf h child.body
  pub row_valid : IsRowOf h row
  pub picked : IsPick h row.at (map (λ e. e.set) (entries_in parent.body)) place
  pub some : 0 < length purse
  pub few : IfSome (slice_get (entries_in parent.body) place) (λ e. e.agg.count + 1 < 2 ^ 63)
  pub tail_valid : All (λ b. IsBodyOf h b.body) tail
  pub few_beneath : row_count (together child.body tail) + 1 < 2 ^ 63

-- It went down; where the child was divided the new block is in the cell that was held for it, and two boxes went for it.
pub record WentDown (h : List Dimension) (row : Row) (place : ℕ) (tail : List Block) (parent parent_now child child_now : Block) (purse purse_now : PurseValue) (fresh fresh_now : Option CellValue) (boxes boxes_now at : ℕ) : Type 0 where
  pub entered : Entered
  pub step : StepsDown h row place tail parent parent_now child child_now purse purse_now entered
  pub filled : HaveNew entered.fresh.items (fresh ∷ []) (fresh_now ∷ [])
  pub boxes_left : boxes ≤ boxes_now + 2 * length entered.fresh.items
  pub at_is : at ≡ entered.at

-- a row can come in at a gate, to a root with these blocks behind it
pub record FitsIn (h : List Dimension) (row : Row) (gate : Gate) (root : Block) (tail : List Block) (purse : List Spare) : Type 0 where
  pub is_open : gate.phase ≡ Open
  pub enough : gate.height + 2 ≤ length purse
  pub low : gate.height + 1 < 2 ^ 32
  pub set_valid : IsDescSetOf h gate.set
  pub few : gate.agg.count + 1 < 2 ^ 63
  pub root_valid : IsBodyOf h root.body
  pub row_valid : IsRowOf h row
  pub tail_valid : All (λ b. IsBodyOf h b.body) tail
  pub few_beneath : row_count (together root.body tail) + 1 < 2 ^ 63

-- It came in; new blocks are in the cells that were held for them, the new root in the second one, and two boxes went for each.
pub record WentIn (h : List Dimension) (row : Row) (tail : List Block) (gate gate_now : Gate) (root root_now : Block) (purse purse_now : PurseValue) (first second first_now second_now : Option CellValue) (boxes boxes_now at : ℕ) : Type 0 where
  pub entered : Entered
  pub step : Enters h row tail gate gate_now root root_now purse purse_now entered
  pub filled : HaveNew entered.fresh.items (first ∷ second ∷ []) (first_now ∷ second_now ∷ [])
  pub boxes_left : boxes ≤ boxes_now + 2 * length entered.fresh.items
  pub at_is : at ≡ entered.at
