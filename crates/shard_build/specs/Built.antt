-- A built tree.
use Rattle.std.specs.{List.AllZip, List.Sorted.IsSortedBy, Prelude.{ℕ, ◌≡◌, ◌≤◌, List, [], ◌∷◌, length, map, take, drop, Contains, IsPermutation, ⊤}}
use Rattle.dim_hierarchy.specs.{Dimension.Dimension, declared.row.Row.Row}
use Rattle.dc_node.specs.declared.entry.Entry.{Entry}
use Rattle.cell_stock.specs.Stock.{PurseValue}
use Rattle.tree_shape.specs.link_descent.specs.declared.entered.Fresh.{Fresh}
use Rattle.tree_shape.specs.shard_store.specs.Gate.{root_entry}
use Rattle.shard_plan.specs.Building.{cells_for, leaves_for, levels_for, levels_of}
use Rattle.list_words.specs.Counts.{times}
use Rattle.tree_shape.specs.{Forest.{AfterBuilding, AreInCells, AreRowsOf, all_entries, all_rows, filled_cells}, Shape.{Table, TreeCells, numbers}}
use Rattle.shard_build.specs.{Building.{AreAlone, AreLeavesFirst, AreLed, AreSmall, IsEntryTo, UsesUp, comes_before, spare_of, spare_to}, Sizes.{built_sizes, sizes_of}, declared.builder.Built.Built}

-- how a gate leads to the root
abbrev pub root_of : Built → Entry
root_of b = record { child = b.root; stamp = b.stamp; agg = b.agg; set = b.set }

-- the blocks stand in their cells, no two in one and none in the gate's, and the gate leads to the root
pub record IsInCells (cells : TreeCells) (b : Built) : Type 0 where
  pub blocks : AreInCells cells.block b.blocks.items
  pub apart : (y : ℕ) → times y (cells.gate_cell ∷ filled_cells b.blocks.items) ≤ 1
  pub root : root_entry cells.gate ≡ root_of b
  pub height : cells.gate.height ≡ b.height

-- The blocks stand in levels of these sizes, the lowest first. The entries of each level, block by block, lead in order to the
-- blocks of the level below: one to each.
abbrev pub AreLevels : List Dimension → List ℕ → List Fresh → Type 0
AreLevels h [] blocks = ⊤
AreLevels h (root ∷ []) blocks = ⊤
AreLevels h (lower ∷ upper ∷ above) blocks =
    AllZip (IsEntryTo h) (take lower blocks) (all_entries (take upper (drop lower blocks))) × AreLevels h (upper ∷ above) (drop lower blocks)

-- A tree of rows: as many blocks and levels as the rule says, the leaves first, then the parents level by level, with their
-- entries in the order of the blocks below, each block with as many items as the rule says and a spare of the purse, and the
-- rows in order in the leaves. In cells, under a gate, the blocks are a tree of exactly these rows.
pub record IsBuilt (h : List Dimension) (rows : List Row) (before now : PurseValue) (b : Built) : Type 0 where
  pub count : length b.blocks.items ≡ cells_for (length rows)
  pub height : b.height ≡ levels_for (length rows)
  pub kinds : AreLeavesFirst (leaves_for (length rows)) b.blocks.items
  pub sizes : sizes_of b.blocks.items ≡ built_sizes (length rows)
  pub levels : AreLevels h (levels_of (length rows)) b.blocks.items
  pub uses : UsesUp b.blocks.items before now
  pub permutation : IsPermutation rows (all_rows b.blocks.items)
  pub ordered : IsSortedBy comes_before (all_rows b.blocks.items)
  pub small : AreSmall b.blocks.items
  pub alone : AreAlone b.blocks.items
  pub led : AreLed b.blocks.items
  pub root : Contains (map spare_of b.blocks.items) (spare_to (root_of b))
  pub tree : (table : Table) (cells : TreeCells) → table.hierarchy ≡ h → AreRowsOf table rows → IsInCells cells b
      → AfterBuilding table cells (filled_cells b.blocks.items) (numbers rows)
