use Rattle.std.proofs.Common.{rules, ◌∙◌, Some}
use Rattle.seeded_run.specs.Machine.{HoldsNow}
use Rattle.seeded_run.proofs.Phases.ByHand.{cannot-another, moves-as-told, same-told}
use Rattle.seeded_run.proofs.machine.Running.make_move.Goals as goal

pub returns-then-ne-clause-cannot : goal.returns-then-ne-clause-cannot
unfolding HoldsNow
returns-then-ne-clause-cannot c = λ same. cannot-another c.args.self.now c.args.actor c.args.kind (search rules) (search rules)

pub returns-clause-moved : goal.returns-clause-moved
unfolding HoldsNow
returns-clause-moved c = λ same. moves-as-told c.args.self.now c.args.actor c.step.new.self c.args.kind (c.kind_of.ensures.due.due_is ∙ same-told (Some c.kind_of.result) c.args.kind c.if-ne.ensures) (search rules) c.in_ok-step.ensures.step
