use Rattle.std.proofs.Common.{◌≡◌, ◌==◌, take, filter}
use Rattle.shard_plan.specs.{Balancing.largest, declared.action.Load.Load}
use Rattle.balancer.proofs.shards.largest_on.Given as goal

abbrev pub invariant-loop-load : goal.invariant-loop-load
invariant-loop-load l = l.found ≡ largest (filter (λ (load : Load). load.worker == l.worker) (take l.load-index l.loads))
