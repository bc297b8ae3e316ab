use Rattle.std.proofs.Common.{◌≡◌, take}
use Rattle.shard_plan.specs.Balancing.{rows_on}
use Rattle.balancer.proofs.workers.rows_on.Given as goal

abbrev pub invariant-loop-load : goal.invariant-loop-load
invariant-loop-load l = l.rows ≡ rows_on (take l.load-index l.loads) l.worker
