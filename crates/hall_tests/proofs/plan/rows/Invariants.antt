use Rattle.std.specs.Prelude.{All}
use Rattle.hall_tests.specs.Plans.{IsRow}
use Rattle.hall_tests.proofs.plan.rows.Given as goal

abbrev pub invariant-loop-round : goal.invariant-loop-round
invariant-loop-round l = All IsRow l.rows.items
