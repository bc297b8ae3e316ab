use Rattle.seeded_run.specs.Machine.{HasBegunTo}
use Rattle.seeded_run.proofs.machine.Running.first_waiting.Given as goal

abbrev pub invariant-loop-place : goal.invariant-loop-place
invariant-loop-place l = HasBegunTo l.self l.place
