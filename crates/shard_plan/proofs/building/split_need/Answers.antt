use Rattle.std.proofs.Common.{arith}
use Rattle.shard_plan.proofs.Levels.{cells_for-bound, levels_for-bound}
use Rattle.shard_plan.proofs.building.split_need.Goals as goal

pub overflow_add-result : goal.overflow_add-result
overflow_add-result c = omega (arith, cells_for-bound c.args.n c.requires)

pub overflow_add-result-2 : goal.overflow_add-result-2
overflow_add-result-2 c = omega (arith, cells_for-bound c.args.n c.requires, levels_for-bound c.args.n c.requires)
