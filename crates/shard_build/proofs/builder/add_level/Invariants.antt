use Rattle.std.proofs.Common.{◌-◌}
use Rattle.shard_build.specs.Building.{AddsLevel}
use Rattle.shard_build.proofs.builder.add_level.Given as goal

abbrev pub invariant-loop-at : goal.invariant-loop-at
invariant-loop-at l = AddsLevel l.h l.from l.at l.fn.site l.site l.fn.purse l.purse

abbrev pub decreases-loop-at : goal.decreases-loop-at
decreases-loop-at l = l.to - l.at
