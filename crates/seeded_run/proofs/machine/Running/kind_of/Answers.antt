use Rattle.std.proofs.Common.{arith, subst, sym}
use Rattle.seeded_run.specs.Machine.{HoldsNow, IsDueNow, IsDueStep}
use Rattle.seeded_run.proofs.{Begun.begins-now, Goings.{hand-now, part-now, reuse-now, work-now}}
use Rattle.seeded_run.proofs.machine.Running.kind_of.Goals as goal

pub kind_begun-requires-clause-begins : goal.kind_begun-requires-clause-begins
unfolding HoldsNow
kind_begun-requires-clause-begins c =
    let m = c.args.self.now in
    let kept = c.requires.holds.kept in
    begins-now m kept c.args.actor (omega (arith, c.requires.within, kept.count)) (subst (IsDueStep m c.args.actor) c.in-Begins.is c.requires.due)

pub returns-in-Takes : goal.returns-in-Takes
unfolding HoldsNow
returns-in-Takes c =
    let m = c.args.self.now in
    record { due = hand-now m c.requires.holds.kept c.args.actor c.in-Takes.worker (subst (IsDueStep m c.args.actor) c.in-Takes.is c.requires.due) }

pub returns-in-Reuses : goal.returns-in-Reuses
unfolding HoldsNow
returns-in-Reuses c =
    let m = c.args.self.now in
    record { due = reuse-now m c.requires.holds.kept c.args.actor c.in-Reuses.field-0 (subst (IsDueStep m c.args.actor) c.in-Reuses.is c.requires.due) }

pub returns-in-AtPart : goal.returns-in-AtPart
unfolding HoldsNow
returns-in-AtPart c =
    let m = c.args.self.now in
    record { due = subst (IsDueNow m c.args.actor) (sym c.kind_of_part.ensures) (part-now m c.requires.holds.kept c.args.actor c.in-AtPart.due (subst (IsDueStep m c.args.actor) c.in-AtPart.is c.requires.due)) }

pub returns-in-AtWork : goal.returns-in-AtWork
unfolding HoldsNow
returns-in-AtWork c =
    let m = c.args.self.now in
    record { due = subst (IsDueNow m c.args.actor) (sym c.kind_of_work.ensures) (work-now m c.requires.holds.kept c.args.actor c.in-AtWork.due (subst (IsDueStep m c.args.actor) c.in-AtWork.is c.requires.due)).now_due }
