use Rattle.std.proofs.Common.{arith}
use Rattle.shard_plan.proofs.Levels.{cells-more}
use Rattle.shard_plan.proofs.building.cells_for.Goals as goal

pub loop-level-preserved : goal.loop-level-preserved
loop-level-preserved c = record {
  counted = rw c.div_ceil-level.ensures (cells-more c.args.n c.loop-level.level c.loop-level.cells c.loop-level-test.true c.loop-level.invariant.counted);
  bound = omega arith;
}
