use Rattle.std.proofs.Common.{refl}
use Rattle.hall_calls.proofs.Tellings.{on-from}
use Rattle.hall_bench.proofs.deal.insert_each.Goals as goal

pub loop-place-init : goal.loop-place-init
loop-place-init g c = refl

pub loop-place-preserved : goal.loop-place-preserved
loop-place-preserved g c = on-from c.new-session.result c.loop-place.session c.insert_one-is_acked.new.session c.loop-place.invariant c.insert_one-is_acked.ensures.same
