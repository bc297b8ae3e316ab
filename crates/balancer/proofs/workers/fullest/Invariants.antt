use Rattle.std.proofs.Common.{◌≡◌}
use Rattle.shard_plan.specs.Balancing.{fullest}
use Rattle.balancer.proofs.workers.fullest.Given as goal

abbrev pub invariant-loop-worker : goal.invariant-loop-worker
invariant-loop-worker l = l.found ≡ fullest l.loads l.worker
