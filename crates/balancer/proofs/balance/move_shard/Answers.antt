use Rattle.std.proofs.Common.{◌∙◌, arith}
use Rattle.shard_plan.specs.declared.action.Load.{Load}
use Rattle.balancer.proofs.{Loads.{after_move-here, after_move-elsewhere}, balance.move_shard.Goals.{then-load-shard, else-load-shard}}
use Rattle.balancer.proofs.balance.move_shard.Goals as goal

pub loop-load-preserved : goal.loop-load-preserved
loop-load-preserved c =
    let none : Load = record { shard = 0; worker = 0; rows = 0 } in
    elim c.if-load-shard.branch [
      | then-load-shard w ↦ w.loads-is ∙ after_move-here c.args.loads.now c.loop-load.loads c.loop-load.load-index c.args.shard c.args.worker none c.loop-load-test.true (omega arith) c.loop-load.invariant w.if-load-shard.true
      | else-load-shard w ↦ w.loads-is ∙ after_move-elsewhere c.args.loads.now c.loop-load.loads c.loop-load.load-index c.args.shard c.args.worker none c.loop-load-test.true (omega arith) c.loop-load.invariant w.if-load-shard.false
    ]
