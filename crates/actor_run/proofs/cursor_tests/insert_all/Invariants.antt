use Rattle.std.proofs.Common.{◌≡◌}
use Rattle.actor_run.proofs.cursor_tests.insert_all.Given as goal

abbrev pub invariant-loop : goal.invariant-loop
invariant-loop g l = l.session.floor ≡ l.initial.session.floor
