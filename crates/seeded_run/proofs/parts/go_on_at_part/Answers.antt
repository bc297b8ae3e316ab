use Rattle.core_due.specs.Parts.{due_may_fail}
use Rattle.seeded_run.proofs.{PartsMade.ends-instead, States.may-fail}
use Rattle.seeded_run.proofs.parts.go_on_at_part.Goals as goal

pub returns-in-Err : goal.returns-in-Err
returns-in-Err c =
    let due = c.args.due in
    let fails = may-fail (due_may_fail due) c.make_at_part.result c.in-Err.field-0 c.in-Err.is c.make_at_part.ensures.sure in
    record { made = ends-instead c.args.h.now due c.args.number c.args.state.now c.make_at_part.new.state c.end_part.new.state fails c.in-Err.ensures.same c.end_part.ensures }
