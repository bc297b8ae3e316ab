-- What a tree is that a page can show, as no row is on its way through it; and what the page tells of it.
use Rattle.std.specs.Prelude.{ℕ, ◌≡◌, ◌-◌, ◌<◌, true, false, cond, List, [], map, length}
use Rattle.list_words.specs.Counts.{times}
use Rattle.row_ledger.specs.{Pages.IsPageOf, declared.page.TreePage.TreePage}
use Rattle.core_image.specs.shard_store.specs.{Gate.root_entry, declared.gate.Gate.Gate}
use Rattle.core_image.specs.tree_shape.specs.{PageLines.{CellBlocks, lines}, Shape.{Table, TreeCells, Shape}, Trees.IsTree}

abbrev pub cells_with : ℕ → Gate → CellBlocks → TreeCells
cells_with home gate blocks = record { gate_cell = home; gate = gate; block = blocks.block }

-- The blocks hold the tree of a gate, through which no row is on its way.
pub record IsStill (table : Table) (home : ℕ) (gate : Gate) (blocks : CellBlocks) (g : Shape) : Type 0 where
  pub tree : IsTree table (cells_with home gate blocks) g
  pub settled : (r : ℕ) → g.placed r ≡ true → g.carried r ≡ false
  pub known : (y : ℕ) → g.inside y ≡ true → y < blocks.count

-- what a page tells of a gate alone
abbrev pub page_without_lines : Gate → TreePage
page_without_lines gate = record { shard = gate.shard; height = gate.height; rows = gate.agg.count; queued = length gate.queue.rows; nodes = [] }

-- A page tells of a gate, and has a line for each group of its blocks. Where these hold its tree, through which no row is on its way,
-- it tells of exactly the rows in the tree and the queue.
pub record ShowsTree (gate : Gate) (blocks : CellBlocks) (p : TreePage) : Type 0 where
  pub shard : p.shard ≡ gate.shard
  pub height : p.height ≡ gate.height
  pub rows : p.rows ≡ gate.agg.count
  pub queued : p.queued ≡ length gate.queue.rows
  pub nodes : p.nodes ≡ lines blocks (gate.height - 1) 0 (root_entry gate)
  pub page : (table : Table) (home : ℕ) (g : Shape) → IsStill table home gate blocks g → (ns : List ℕ) → ((r : ℕ) → times r ns ≡ cond (g.placed r) 1 0)
      → IsPageOf table.hierarchy (map table.row ns) gate.queue.rows p
