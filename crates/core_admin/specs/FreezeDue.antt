-- What the steps that freeze a shard and collect its rows ask of the cells that they are given and of their actor, beyond that they
-- are those of a state; and what their calls do.
use Rattle.std.specs.Prelude.{ℕ, ◌≡◌, ◌≢◌, ◌^◌, ◌<◌, ◌≤◌, ◌⊎◌, List, [], ◌∷◌, Option, length}
use Rattle.dim_hierarchy.specs.Dimension.{Dimension}
use Rattle.describing_set.specs.{Sets.{IsDescSetOf, JoinsTo}, declared.plane.Plane.Plane, declared.set.DescSet.DescSet}
use Rattle.cell_stock.specs.Stock.{PurseValue, StockValue, Takes}
use Rattle.mapping_table.specs.declared.place.Where.TheVariants as where_is
use Rattle.row_ledger.specs.{declared.settings.Decline.Decline, declared.settings.Decline.TheVariants.{OnePlace, NoCell}}
use Rattle.core_tree.specs.shard_store.specs.declared.gate.Gate.{Gate}
use Rattle.core_tree.specs.shard_store.specs.declared.gate.Phase.TheVariants as phase
use Rattle.core_tree.specs.tree_shape.specs.Collecting.{root_item}
use Rattle.core_tree.specs.volap_cell.specs.{AdminKinds.{HasJob, HasOnePlace, IsDivided, cells_needed, rows_at}, Cells.{CellValue, TheStock, active_in, tag_of}, TreeKinds.Leads, Values.{ActorValue, JobValue, IsCalled, IsDeclined, IsFrozen, Collects}, World.held, declared.job.Frozen.Frozen}

-- Freezing.

-- the actor's job is at its beginning, its worker's table leads to the gate in the cell, and the third cell is the stock's
pub record CanFreeze (map_at : ℕ) (table : CellValue) (gate_at : ℕ) (stock : CellValue) (a : ActorValue) : Type 0 where
  pub job : JobValue
  pub has : HasJob a job IsCalled
  pub leads : Leads (held map_at table) job.worker job.shard (where_is.Gate gate_at)
  pub stock_is : tag_of stock ≡ TheStock

-- a gate of a shard that stands, with not too many rows
pub record IsFreezable (h : List Dimension) (gate : Gate) : Type 0 where
  pub set : IsDescSetOf h gate.set
  pub queue : IsDescSetOf h gate.queue.set
  pub few : rows_at gate < 2 ^ 32
  pub stands : gate.phase ≢ phase.Gone

-- n free cells went to the purse, for which room was made, and there are stamps left
pub record TakesFor (n : ℕ) (stock stock_now : StockValue) (purse purse_now : PurseValue) : Type 0 where
  pub roomy : PurseValue
  pub same : roomy.spares ≡ purse.spares
  pub takes : Takes n stock stock_now roomy purse_now
  pub stamps : stock_now.stamps < 2 ^ 63

-- nothing but the job's stage changes
abbrev pub DeclinesJob : Decline → Gate → Gate → StockValue → StockValue → PurseValue → PurseValue → JobValue → JobValue → Type 0
DeclinesJob why gate gate_now stock stock_now purse purse_now job job_now = (gate_now ≡ gate) × (stock_now ≡ stock) × (purse_now ≡ purse) × (job_now ≡ record job { stage = IsDeclined why })

-- the gate is frozen, with cells for the job
pub record FreezesGate (gate_at : ℕ) (plane : Option Plane) (gate gate_now : Gate) (stock stock_now : StockValue) (purse purse_now : PurseValue) (job job_now : JobValue) : Type 0 where
  pub takes : TakesFor (cells_needed job.to (rows_at gate)) stock stock_now purse purse_now
  pub frozen : gate_now ≡ record gate { phase = phase.Frozen (length gate.queue.rows) }
  pub is : job_now ≡ record job { stage = IsFrozen (record { gate = gate_at; plane = plane; rows = rows_at gate }) }

-- what is left where the set of all rows can be divided as the job needs it
abbrev pub FreezesOr : ℕ → Option Plane → Gate → Gate → StockValue → StockValue → PurseValue → PurseValue → JobValue → JobValue → Type 0
FreezesOr gate_at plane gate gate_now stock stock_now purse purse_now job job_now =
    ((length stock.free < cells_needed job.to (rows_at gate)) × DeclinesJob (NoCell (cells_needed job.to (rows_at gate)) (length stock.free)) gate gate_now stock stock_now purse purse_now job job_now)
    ⊎ ((cells_needed job.to (rows_at gate) ≤ length stock.free) × FreezesGate gate_at plane gate gate_now stock stock_now purse purse_now job job_now)

-- what became of gate, stock, purse and job
pub record FreezesFor (h : List Dimension) (gate_at : ℕ) (gate gate_now : Gate) (stock stock_now : StockValue) (purse purse_now : PurseValue) (job job_now : JobValue) : Type 0 where
  pub set : DescSet
  pub set_of : JoinsTo h gate.set gate.queue.set set
  pub does :
      (HasOnePlace job.to set × DeclinesJob OnePlace gate gate_now stock stock_now purse purse_now job job_now)
      ⊎ ((plane : Option Plane) × IsDivided job.to set plane × FreezesOr gate_at plane gate gate_now stock stock_now purse purse_now job job_now)

-- Draining.

-- the actor's job is frozen at the gate in the cell, and no insert is in the tree
pub record CanDrain (gate_at : ℕ) (gate : CellValue) (a : ActorValue) : Type 0 where
  pub job : JobValue
  pub frozen : Frozen
  pub has : HasJob a job (IsFrozen frozen)
  pub here : frozen.gate ≡ gate_at
  pub drained : active_in gate ≡ 0

-- a job that is frozen
pub record IsFrozenJob (job : JobValue) : Type 0 where
  pub frozen : Frozen
  pub stage_is : job.stage ≡ IsFrozen frozen

-- it collects from then on, and the gate's root is noted
pub record BeginsCollecting (gate : Gate) (job job_now : JobValue) : Type 0 where
  pub frozen : Frozen
  pub was : job.stage ≡ IsFrozen frozen
  pub is : job_now ≡ record job { stage = Collects (record { frozen = frozen; items = root_item gate ∷ []; read = []; queued = 0; rows = [] }) }
