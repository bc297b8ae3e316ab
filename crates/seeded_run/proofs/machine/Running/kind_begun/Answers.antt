use Rattle.std.proofs.Common.{subst, sym}
use Rattle.seeded_run.specs.Machine.{IsDueNow}
use Rattle.seeded_run.proofs.{Begun.begins-next, Phases.ByHand.begun-kind}
use Rattle.seeded_run.proofs.machine.Running.kind_begun.Goals as goal

pub unreachable-requires : goal.unreachable-requires
unreachable-requires c =
    let b = c.requires.begins in
    begins-next c.args.self.now c.requires.held.kept c.args.number b.kind b.due c.requires.within b.begins (sym c.in_default.ensures)

pub returns : goal.returns
returns c =
    let m = c.args.self.now in
    record {
      due = subst (IsDueNow m c.args.number) (sym c.kind_of_beginning.ensures)
          (begun-kind m c.requires.held.kept c.args.number c.requires.within c.in-Some.command.now (sym c.in-Some.ensures) c.requires.begins);
    }
