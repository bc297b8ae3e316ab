-- How many steps a query is counted: what it tests at a block and at a gate, and what a part of a query over everything costs.
use Rattle.std.specs.Prelude.{ℕ, ◌≡◌, ◌+◌, ◌≤◌, if◌then◌else◌, List, [], length, Some, None}
use Rattle.dc_node.specs.Block.{rows_in}
use Rattle.describing_set.specs.Filter.{is_inside, overlaps}
use Rattle.dim_hierarchy.specs.{Dimension.Dimension, Filter.IsFilterOf, declared.filter.Pick.Pick}
use Rattle.part_steps.specs.Parts.{IsUnread}
use Rattle.seat_steps.specs.core_tree.specs.ReadDue.{IsOfAll}
use Rattle.seat_steps.specs.shard_store.specs.{Gate.IsQueueOf, declared.gate.Gate.Gate, declared.queue.Queue.Queue}
use Rattle.seat_steps.specs.volap_cell.specs.{Cells.{CellValue, GateCell, block_in, queue_in}, Values.{ActorValue, ErrandValue, Read, ReadingValue}}

-- Row tests.

-- a visit of a block tests the rows of a leaf
abbrev pub tests_in_block : CellValue → ℕ
tests_in_block cell = length (rows_in (block_in cell).body)

-- the reading of a gate those of the queue, where the queue's set overlaps the filter and isn't inside it
abbrev pub tests_in_queue : List Dimension → List Pick → Queue → ℕ
tests_in_queue h f queue = if is_inside h queue.set f then 0 else if overlaps h queue.set f then length queue.rows else 0

-- The actor's query can read the gate in a cell, which the hierarchy fits.
pub record CanTest (h : List Dimension) (a : ActorValue) (cell : CellValue) : Type 0 where
  pub unread : IsUnread a
  pub gate : Gate
  pub gate_is : cell ≡ GateCell gate
  pub queue : IsQueueOf h gate.queue
  pub filter : IsFilterOf h unread.filter

-- so many rows it tests there
abbrev pub Tests : List Dimension → ActorValue → CellValue → ℕ → Type 0
Tests h a cell tests = (u : IsUnread a) → tests ≡ tests_in_queue h u.filter (queue_in cell)

-- Queries over everything.

-- the actor's part is one that has read no gate
pub record IsOfEverything (h : List Dimension) (a : ActorValue) : Type 0 where
  pub unread : IsUnread a
  pub all : IsOfAll h unread.filter

-- the actor's query has read its gate, and is pinned nowhere
pub record HasReadAlone (a : ActorValue) : Type 0 where
  pub e : ErrandValue
  pub reading : ReadingValue
  pub errand : a.errand ≡ Some e
  pub task : e.task ≡ Read reading
  pub none : reading.items ≡ []
  pub alone : reading.pin ≡ None

-- So much the part costs: two takes at most up to its gate or its desk, and nothing behind its gate. No count is lost.
pub record Costs (h : List Dimension) (a : ActorValue) (was now : ℕ) : Type 0 where
  pub kept : was ≤ now
  pub before : IsOfEverything h a → now ≤ was + 2
  pub behind : HasReadAlone a → now ≡ was
