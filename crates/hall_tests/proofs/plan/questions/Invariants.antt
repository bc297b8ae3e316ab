use Rattle.std.specs.Prelude.{All}
use Rattle.hall_tests.specs.Plans.{IsQuestion}
use Rattle.hall_tests.proofs.plan.questions.Given as goal

abbrev pub invariant-loop-round : goal.invariant-loop-round
invariant-loop-round l = All IsQuestion l.questions.items
