use Rattle.std.proofs.Common.{◌≡◌}
use Rattle.hall_tests.proofs.work.work.Given as goal

abbrev pub invariant-loop : goal.invariant-loop
invariant-loop g l = l.session ≡ record l.initial.session { seen = l.session.seen }
