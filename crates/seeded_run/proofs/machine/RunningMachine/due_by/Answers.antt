use Rattle.std.proofs.Common.{◌∙◌, ap, is_some, sym}
use Rattle.seeded_run.specs.Machine.{HoldsNow, about_in, phase_of, world_of}
use Rattle.seeded_run.proofs.{Due.DueSteps.steps-if-can, IdleHands.step-found}
use Rattle.seeded_run.proofs.machine.RunningMachine.due_by.Goals as goal

pub returns-clause-can : goal.returns-clause-can
unfolding HoldsNow
returns-clause-can c =
    let m = c.args.self.now in
    ap is_some (sym c.step_by.ensures.step) ∙ steps-if-can m.in_order (about_in m) (phase_of m) (world_of m) c.args.actor c.requires.holds.kept.core.inv

pub returns-clause-due : goal.returns-clause-due
unfolding HoldsNow
returns-clause-due c = step-found c.args.self.now c.args.actor c.step_by.result c.step_by.ensures.step c.step_by.ensures.bytes
