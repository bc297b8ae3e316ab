use Rattle.std.proofs.Common.{subst, sym}
use Rattle.seeded_run.specs.Machine.{IsDueStep}
use Rattle.seeded_run.proofs.Begun.{begins-next, begins-now}
use Rattle.seeded_run.proofs.machine.Running.take_turn.Goals as goal

pub begin-requires-clause-begins : goal.begin-requires-clause-begins
begin-requires-clause-begins c =
    let m = c.args.self.now in
    begins-now m c.requires.held.kept c.args.number c.requires.within (subst (IsDueStep m c.args.number) c.in-Begins.is c.requires.due)

pub take_part-requires-clause-due : goal.take_part-requires-clause-due
take_part-requires-clause-due c = subst (IsDueStep c.args.self.now c.args.number) c.in-Takes.is c.requires.due

pub reuse-requires-clause-due : goal.reuse-requires-clause-due
reuse-requires-clause-due c = subst (IsDueStep c.args.self.now c.args.number) c.in-Reuses.is c.requires.due

pub go_on_at_part-requires-clause-due : goal.go_on_at_part-requires-clause-due
go_on_at_part-requires-clause-due c = subst (IsDueStep c.args.self.now c.args.number) c.in-AtPart.is c.requires.due

pub go_on_with_work-requires-clause-due : goal.go_on_with_work-requires-clause-due
go_on_with_work-requires-clause-due c = subst (IsDueStep c.args.self.now c.args.number) c.in-AtWork.is c.requires.due

pub unreachable-requires : goal.unreachable-requires
unreachable-requires c =
    let m = c.args.self.now in
    let b = begins-now m c.requires.held.kept c.args.number c.requires.within (subst (IsDueStep m c.args.number) c.in-Begins.is c.requires.due) in
    begins-next m c.requires.held.kept c.args.number b.kind b.due c.requires.within b.begins (sym c.in_default.ensures)
