use Rattle.std.proofs.Common.{arith}
use Rattle.shard_plan.proofs.Levels.{count-more, count-below}
use Rattle.shard_plan.proofs.building.levels_for.Goals as goal

pub overflow_add-levels : goal.overflow_add-levels
overflow_add-levels c = omega (arith, count-below c.args.n c.loop-level.level c.loop-level.levels c.requires c.loop-level.invariant)

pub loop-level-preserved : goal.loop-level-preserved
loop-level-preserved c =
    rw c.div_ceil-level.ensures (count-more c.args.n c.loop-level.level c.loop-level.levels c.loop-level-test.true c.loop-level.invariant)
