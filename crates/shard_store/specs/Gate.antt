-- Gates and queues.
use Rattle.std.specs.Prelude.{ℕ, ◌≡◌, List, [], ◌∷◌, ◌++◌}
use Rattle.dim_hierarchy.specs.{Dimension.Dimension, declared.row.Row.Row}
use Rattle.describing_set.specs.{Sets.IsDescSetOf, declared.set.DescSet.DescSet}
use Rattle.measure_agg.specs.Aggregate.{Aggregate}
use Rattle.dc_node.specs.{Summary.IsSummaryOf, declared.entry.Entry.Entry}
use Rattle.shard_store.specs.{declared.gate.Gate.Gate, declared.gate.Phase.Phase, declared.gate.Phase.TheVariants.{Open, Frozen, Gone}, declared.queue.Queue.Queue}

-- the queue's aggregate and set are those of its rows, all of this hierarchy
pub record IsQueueOf (h : List Dimension) (q : Queue) : Type 0 where
  pub summary : IsSummaryOf h q.rows q.agg q.set
  pub valid : IsDescSetOf h q.set

-- a gate as it is made: open, with nobody inside and an empty queue
pub record IsNewGate (h : List Dimension) (shard root stamp height : ℕ) (total : Aggregate) (set : DescSet) (g : Gate) : Type 0 where
  pub shard_is : g.shard ≡ shard
  pub phase : g.phase ≡ Open
  pub root_is : g.root ≡ root
  pub stamp_is : g.stamp ≡ stamp
  pub height_is : g.height ≡ height
  pub agg_is : g.agg ≡ total
  pub set_is : g.set ≡ set
  pub active : g.active ≡ 0
  pub pins : g.pins ≡ 0
  pub empty : g.queue.rows ≡ []
  pub queue : IsQueueOf h g.queue
  pub gone : g.gone ≡ []

-- inserts go to the queue, and the shard has no successors
abbrev pub IsFrozen : Phase → Type 0
IsFrozen Open = ⊥
IsFrozen (Frozen upto) = Unit {0}
IsFrozen Gone = ⊥

-- the queue has one row more, at its end
pub record Enqueues (h : List Dimension) (row : Row) (before now : Queue) : Type 0 where
  pub rows : now.rows ≡ before.rows ++ row ∷ []
  pub queue : IsQueueOf h now

-- a gate leads to its root's group as an entry leads to its child's
abbrev pub root_entry : Gate → Entry
root_entry g = record { child = g.root; stamp = g.stamp; agg = g.agg; set = g.set }
