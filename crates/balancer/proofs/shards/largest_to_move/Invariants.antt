use Rattle.std.proofs.Common.{◌≡◌, take, filter}
use Rattle.shard_plan.specs.Balancing.{largest}
use Rattle.balancer.specs.Turn.{fits_gap}
use Rattle.balancer.proofs.shards.largest_to_move.Given as goal

abbrev pub invariant-loop-load : goal.invariant-loop-load
invariant-loop-load l = l.found ≡ largest (filter (fits_gap l.worker l.gap) (take l.load-index l.loads))
