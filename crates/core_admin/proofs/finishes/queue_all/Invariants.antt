use Rattle.std.proofs.Common.{◌≡◌, take}
use Rattle.core_tree.specs.shard_store.specs.Gate.{IsQueueOf}
use Rattle.core_admin.proofs.finishes.queue_all.Given as goal

abbrev pub invariant-loop-row : goal.invariant-loop-row
invariant-loop-row l = record {
  so_far : l.gate.queue.rows ≡ take l.row-index l.rows;
  valid : IsQueueOf l.h l.gate.queue;
  same : l.gate ≡ record l.initial.gate { queue = l.gate.queue };
}
