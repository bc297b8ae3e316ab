use Rattle.std.proofs.lemmas.List.Elements.{All-push}
use Rattle.hall_tests.specs.Plans.{IsRow}
use Rattle.hall_tests.proofs.plan.rows.Goals as goal

pub loop-round-preserved : goal.loop-round-preserved
loop-round-preserved c = rw c.in_ok-push.ensures.items (All-push IsRow _ _ c.loop-round.invariant c.in_ok-row.ensures)
