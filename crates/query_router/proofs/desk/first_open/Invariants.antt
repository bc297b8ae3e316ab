use Rattle.std.proofs.Common.{length, ◌-◌}
use Rattle.query_router.specs.Progress.{HasEnded}
use Rattle.query_router.proofs.desk.first_open.Given as goal

abbrev pub invariant-loop-ended : goal.invariant-loop-ended
invariant-loop-ended l = HasEnded l.parts l.ended

abbrev pub decreases-loop-ended : goal.decreases-loop-ended
decreases-loop-ended l = length l.parts - l.ended
