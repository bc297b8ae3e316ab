use Rattle.std.proofs.Common.{◌∙◌, arith, sym}
use Rattle.seeded_run.proofs.IdleHands.{any-order, hand-step}
use Rattle.seeded_run.proofs.machine.Running.step_by.Goals as goal

pub returns-in-Some-clause-step : goal.returns-in-Some-clause-step
returns-in-Some-clause-step c =
    let m = c.args.self.now in
    hand-step m c.args.number c.in-Some.worker c.args.survey.now c.requires.held c.requires.any (omega (arith, c.requires.within, c.requires.held.kept.count))
    (sym c.worker_of.ensures ∙ c.in-Some.is) c.requires.told c.if-worker-self.true
    ∙ sym c.part_taken.ensures

pub returns-in_default-clause-step : goal.returns-in_default-clause-step
returns-in_default-clause-step c = any-order c.args.self.now c.args.number c.requires.any ∙ c.step_on_turn.ensures.step
