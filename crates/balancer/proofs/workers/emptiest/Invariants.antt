use Rattle.std.proofs.Common.{◌≡◌}
use Rattle.shard_plan.specs.Balancing.{emptiest}
use Rattle.balancer.proofs.workers.emptiest.Given as goal

abbrev pub invariant-loop-worker : goal.invariant-loop-worker
invariant-loop-worker l = l.found ≡ emptiest l.loads l.worker
