-- What pages of all shards read: for each spot of the registry the gate to which its worker's table leads.
use Rattle.std.specs.Prelude.{ℕ, ◌≡◌, ◌+◌, List, map, length, slice_get, Some, IsSome}
use Rattle.dc_node.specs.Summary.{joined}
use Rattle.describing_set.specs.{Sets.{IsDescSetOf, JoinsTo}, declared.listing.Spot.Spot}
use Rattle.dim_hierarchy.specs.Dimension.{Dimension}
use Rattle.measure_agg.specs.{Aggregate.Aggregate, Joining.join}
use Rattle.row_ledger.specs.declared.page.ShardLine.{ShardLine}
use Rattle.core_image.specs.shard_store.specs.declared.gate.Gate.{Gate}
use Rattle.core_image.specs.volap_cell.specs.{Cells.{CellValue, gate_shard, registry_in, where_in}, Setting.registry_cell}
use Rattle.core_pages.specs.Looks.{StateValue, cells_in, gate_in, gate_there}

-- the spots of the registry
abbrev pub frontier_in : (ℕ → CellValue) → List Spot
frontier_in cells = (registry_in (cells registry_cell)).frontier

-- the cell of a worker's table, where there are so many servers
abbrev pub table_place : ℕ → ℕ → ℕ
table_place servers worker = 3 + servers + servers + worker

-- the cell of the gate to which the table of a spot's worker leads, and the gate

abbrev pub gate_place : ℕ → (ℕ → CellValue) → Spot → ℕ
gate_place servers cells spot = gate_there (where_in (cells (table_place servers spot.worker)) spot.shard)

abbrev pub gate_of : ℕ → (ℕ → CellValue) → Spot → Gate
gate_of servers cells spot = gate_in (cells (gate_place servers cells spot))

-- a cell has a gate, whose sets are of these dimensions
pub record HasGateAt (h : List Dimension) (cell : CellValue) : Type 0 where
  pub gate : IsSome (gate_shard cell)
  pub set : IsDescSetOf h (gate_in cell).set
  pub queue : IsDescSetOf h (gate_in cell).queue.set

-- it has the gate to which the table of the spot at a place leads
pub record IsGateAt (h : List Dimension) (servers : ℕ) (cells : ℕ → CellValue) (place : ℕ) (spot : Spot) (cell : CellValue) : Type 0 where
  pub found : slice_get (frontier_in cells) place ≡ Some spot
  pub is : cell ≡ cells (gate_place servers cells spot)
  pub gate : HasGateAt h cell

-- a spot's table leads to such a gate
pub record HasGate (h : List Dimension) (servers : ℕ) (cells : ℕ → CellValue) (spot : Spot) : Type 0 where
  pub table : IsSome (where_in (cells (table_place servers spot.worker)) spot.shard)
  pub there : HasGateAt h (cells (gate_place servers cells spot))

-- the registry is there, and the table of each spot's worker leads somewhere
pub record CanLead (servers : ℕ) (state : StateValue) : Type 0 where
  pub registry : IsSome (state.cells registry_cell)
  pub table : (place : ℕ) (spot : Spot) → slice_get (frontier_in (cells_in state)) place ≡ Some spot → IsSome (where_in (cells_in state (table_place servers spot.worker)) spot.shard)

-- the line of a spot, by the gate of its shard
pub record IsLineOf (h : List Dimension) (spot : Spot) (gate : Gate) (line : ShardLine) : Type 0 where
  pub shard : line.shard ≡ spot.shard
  pub worker : line.worker ≡ spot.worker
  pub rows : line.rows ≡ gate.agg.count
  pub queued : line.queued ≡ length gate.queue.rows
  pub set : JoinsTo h gate.set gate.queue.set line.set

abbrev pub HasLine : List Dimension → ℕ → (ℕ → CellValue) → Spot → ShardLine → Type 0
HasLine h servers cells spot line = IsLineOf h spot (gate_of servers cells spot) line

-- the aggregate of a gate's rows, those in its tree and those in its queue
abbrev pub agg_of_gate : Gate → Aggregate
agg_of_gate gate = join gate.agg gate.queue.agg

-- of the gates of all these spots together
abbrev pub agg_of_spots : ℕ → (ℕ → CellValue) → List Spot → Aggregate
agg_of_spots servers cells spots = joined (map (λ spot. agg_of_gate (gate_of servers cells spot)) spots)
