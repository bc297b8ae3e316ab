-- What the steps that collect a frozen shard's rows ask of the cell that they are given and of their actor, and what their calls do.
use Rattle.std.specs.Prelude.{ℕ, ◌≡◌, ◌≢◌, ◌+◌, ◌<◌, List, [], ◌∷◌, ◌++◌, Some, length, slice_get}
use Rattle.dc_node.specs.{Block.rows_in, declared.block.Block.Block, declared.todo.Item.Item}
use Rattle.dim_hierarchy.specs.declared.row.Row.{Row}
use Rattle.core_tree.specs.link_descent.specs.Visit.{noted_right}
use Rattle.core_tree.specs.shard_store.specs.declared.gate.Gate.{Gate}
use Rattle.core_tree.specs.shard_store.specs.declared.gate.Phase.TheVariants as phase
use Rattle.core_tree.specs.tree_shape.specs.Collecting.{entry_items}
use Rattle.core_tree.specs.volap_cell.specs.{AdminKinds.HasJob, Cells.{CellValue, phase_of}, Values.{ActorValue, CollectingValue, JobValue, Collects}}

-- Blocks.

-- the block that the actor's job noted last is in the cell
pub record CanCollectBlock (at : ℕ) (a : ActorValue) : Type 0 where
  pub job : JobValue
  pub collecting : CollectingValue
  pub has : HasJob a job (Collects collecting)
  pub items : List Item
  pub item : Item
  pub noted : collecting.items ≡ items ++ item ∷ []
  pub here : item.cell ≡ at

-- a block is noted for the job
pub record HasNoted (job : JobValue) : Type 0 where
  pub collecting : CollectingValue
  pub stage_is : job.stage ≡ Collects collecting
  pub some : collecting.items ≢ []

-- the block that was noted last is read: its entries and its right link are noted, and its rows are collected
pub record ReadsInto (block : Block) (noted noted_now : List Item) (read read_now : List ℕ) (rows rows_now : List Row) : Type 0 where
  pub items : List Item
  pub item : Item
  pub was : noted ≡ items ++ item ∷ []
  pub is : noted_now ≡ items ++ entry_items block.body ++ noted_right block item.stamp
  pub read_is : read_now ≡ read ++ item.cell ∷ []
  pub rows_are : rows_now ≡ rows ++ rows_in block.body

-- by a job
pub record ReadsBlock (block : Block) (job job_now : JobValue) : Type 0 where
  pub collecting : CollectingValue
  pub was : job.stage ≡ Collects collecting
  pub items : List Item
  pub read : List ℕ
  pub rows : List Row
  pub reads : ReadsInto block collecting.items items collecting.read read collecting.rows rows
  pub is : job_now ≡ record job { stage = Collects (record collecting { items = items; read = read; rows = rows }) }

-- The queue.

-- nothing is noted for the actor's job any more, and of the queue as it was when the shard was frozen there is a row more
pub record CanCollectRow (gate_at : ℕ) (gate : CellValue) (a : ActorValue) : Type 0 where
  pub job : JobValue
  pub collecting : CollectingValue
  pub has : HasJob a job (Collects collecting)
  pub all_read : collecting.items ≡ []
  pub here : collecting.frozen.gate ≡ gate_at
  pub upto : ℕ
  pub frozen : phase_of gate ≡ Some (phase.Frozen upto)
  pub more : collecting.queued < upto

-- a job that collects, for which there is a row more in the queue
pub record HasMore (gate : Gate) (job : JobValue) : Type 0 where
  pub collecting : CollectingValue
  pub stage_is : job.stage ≡ Collects collecting
  pub more : collecting.queued < length gate.queue.rows

-- the next row is collected
pub record TakesRow (gate : Gate) (was now : CollectingValue) : Type 0 where
  pub row : Row
  pub row_at : slice_get gate.queue.rows was.queued ≡ Some row
  pub is : now ≡ record was { queued = was.queued + 1; rows = was.rows ++ row ∷ [] }

pub record CollectsRow (gate : Gate) (job job_now : JobValue) : Type 0 where
  pub collecting : CollectingValue
  pub now : CollectingValue
  pub was : job.stage ≡ Collects collecting
  pub takes : TakesRow gate collecting now
  pub is : job_now ≡ record job { stage = Collects now }
