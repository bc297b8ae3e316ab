use Rattle.std.proofs.Common.{arith}
use Rattle.shard_plan.proofs.Levels.{cells_for-bound, levels_for-bound}
use Rattle.core_admin.proofs.freezes.need_for.Goals as goal

pub overflow_add-result : goal.overflow_add-result
overflow_add-result c = omega (arith, cells_for-bound c.args.rows (omega arith))

pub returns-in-None-clause-few : goal.returns-in-None-clause-few
returns-in-None-clause-few c = omega (arith, cells_for-bound c.args.rows (omega arith), levels_for-bound c.args.rows (omega arith))

pub returns-in-Some-clause-few : goal.returns-in-Some-clause-few
returns-in-Some-clause-few c = omega (arith, cells_for-bound c.args.rows (omega arith))
