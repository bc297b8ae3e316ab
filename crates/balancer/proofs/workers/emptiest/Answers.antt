use Rattle.std.proofs.Common.{◌∙◌}
use Rattle.balancer.proofs.{Fullest.{emptiest-takes, emptiest-stays}, workers.emptiest.Goals.{then-rows_on, else-rows_on}}
use Rattle.balancer.proofs.workers.emptiest.Goals as goal

pub loop-worker-preserved : goal.loop-worker-preserved
loop-worker-preserved c =
    elim c.if-rows_on.branch [
      | then-rows_on w ↦ w.found-is ∙ emptiest-takes c.args.loads.now c.loop-worker.worker c.loop-worker.found c.rows_on.result c.rows_on-in-loop-worker.result c.loop-worker.invariant c.rows_on.ensures c.rows_on-in-loop-worker.ensures w.if-rows_on.true
      | else-rows_on w ↦ w.found-is ∙ emptiest-stays c.args.loads.now c.loop-worker.worker c.loop-worker.found c.rows_on.result c.rows_on-in-loop-worker.result c.loop-worker.invariant c.rows_on.ensures c.rows_on-in-loop-worker.ensures w.if-rows_on.false
    ]
