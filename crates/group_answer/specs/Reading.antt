-- The rows of a gate, those in its queue and those in its tree, as its blocks have them.
use Rattle.std.specs.{List.flat_map, Prelude.{ℕ, zero, suc, ◌-◌, ◌<◌, List, ◌++◌, IsSome}}
use Rattle.dim_hierarchy.specs.{Dimension.Dimension, declared.row.Row.Row}
use Rattle.dc_node.specs.{Block.rows_in, Summary.IsSummaryOf, declared.entry.Entry.Entry}
use Rattle.describing_set.specs.{Sets.IsDescSetOf, declared.listing.Spot.Spot}
use Rattle.list_words.specs.Counts.{Each}
use Rattle.core_pages.specs.{Looks.{blocks_of, gate_in}, Shards.gate_of}
use Rattle.core_pages.specs.shard_store.specs.{Gate.{IsQueueOf, root_entry}, declared.gate.Gate.Gate}
use Rattle.core_pages.specs.tree_shape.specs.PageLines.{CellBlocks, group, group_entries}
use Rattle.core_pages.specs.volap_cell.specs.Cells.{CellValue, gate_shard}

-- the rows beneath an entry, so many levels above the leaves
abbrev pub rows_at : CellBlocks → ℕ → Entry → List Row
rows_at blocks zero e = flat_map (λ b. rows_in b.body) (group blocks e)
rows_at blocks (suc level) e = flat_map (λ x. rows_at blocks level x) (group_entries blocks e)

-- the rows of a gate, and of a spot's gate

abbrev pub rows_of : CellBlocks → Gate → List Row
rows_of blocks gate = gate.queue.rows ++ rows_at blocks (gate.height - 1) (root_entry gate)

abbrev pub rows_of_spot : (servers many : ℕ) → (ℕ → CellValue) → Spot → List Row
rows_of_spot servers many cells spot = rows_of (blocks_of many cells) (gate_of servers cells spot)

abbrev pub rows_of_spots : (servers many : ℕ) → (ℕ → CellValue) → List Spot → List Row
rows_of_spots servers many cells spots = flat_map (λ (spot : Spot). rows_of_spot servers many cells spot) spots

-- an entry's aggregate and set are those of the rows beneath it
pub record IsSummed (h : List Dimension) (e : Entry) (rows : List Row) : Type 0 where
  pub summary : IsSummaryOf h rows e.agg e.set
  pub valid : IsDescSetOf h e.set

-- and so it is with all entries beneath
abbrev pub AreSummed : List Dimension → CellBlocks → ℕ → Entry → Type 0
AreSummed h blocks zero e = IsSummed h e (rows_at blocks zero e)
AreSummed h blocks (suc level) e = IsSummed h e (rows_at blocks (suc level) e) × Each (λ x. AreSummed h blocks level x) (group_entries blocks e)

-- a cell has a gate that can be read
pub record IsReadable (h : List Dimension) (blocks : CellBlocks) (cell : CellValue) : Type 0 where
  pub gate : IsSome (gate_shard cell)
  pub queue : IsQueueOf h (gate_in cell).queue
  pub tall : 0 < (gate_in cell).height
  pub summed : AreSummed h blocks ((gate_in cell).height - 1) (root_entry (gate_in cell))
