use Rattle.seeded_run.specs.Machine.{AreFirstCursors}
use Rattle.seeded_run.proofs.phase.first_cursors.Given as goal

abbrev pub invariant-loop-session : goal.invariant-loop-session
invariant-loop-session l = AreFirstCursors l.with l.phase l.session l.next.items
