use Rattle.std.proofs.Common.{◌≡◌, ◌++◌, take, drop}
use Rattle.shard_plan.specs.Balancing.{after_move}
use Rattle.balancer.proofs.balance.move_shard.Given as goal

abbrev pub invariant-loop-load : goal.invariant-loop-load
invariant-loop-load l = l.loads ≡ after_move (take l.load-index l.initial.loads) l.shard l.worker ++ drop l.load-index l.initial.loads
