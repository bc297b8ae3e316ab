use Rattle.std.proofs.Common.{arith, ◌==◌}
use Rattle.shard_plan.specs.declared.action.Load.{Load}
use Rattle.balancer.proofs.Loads.{sum_by-filter_bound}
use Rattle.balancer.proofs.workers.rows_on.Goals as goal

pub overflow_add-rows : goal.overflow_add-rows
overflow_add-rows c =
    let none : Load = record { shard = 0; worker = 0; rows = 0 } in
    omega (
      arith,
      sum_by-filter_bound (λ (l : Load). l.rows) (λ (l : Load). l.worker == c.args.worker) c.args.loads.now c.loop-load.load-index none c.loop-load-test.true,
    )
