use Rattle.std.proofs.Common.{refl}
use Rattle.hall_calls.proofs.Tellings.{on-from}
use Rattle.hall_tests.proofs.work.work.Goals as goal

pub loop-init : goal.loop-init
loop-init g c = refl

pub loop-preserved : goal.loop-preserved
loop-preserved g c = on-from c.new-session.result c.loop.session c.do_task.new.session c.loop.invariant c.do_task.ensures.same
