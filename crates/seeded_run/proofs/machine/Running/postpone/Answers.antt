use Rattle.std.proofs.Common.{refl}
use Rattle.seeded_run.proofs.{Goings.sound-now, Phases.ByHand.{has-given-up, may-give-up}, States.made-so}
use Rattle.seeded_run.proofs.machine.Running.postpone.Goals as goal

pub make-requires-clause-sound : goal.make-requires-clause-sound
make-requires-clause-sound c = sound-now c.args.self.now c.requires.held.kept

pub make-requires-clause-may : goal.make-requires-clause-may
make-requires-clause-may c = may-give-up c.args.self.now c.requires.held.kept c.args.number c.args.due.now c.requires.due c.requires.frozen

pub returns : goal.returns
returns c =
    let m = c.args.self.now in
    record {
      turned = has-given-up m c.requires.held.kept c.args.number c.requires.within c.args.due.now c.requires.due c.requires.of_job c.make.new.state
          (made-so c.make.result _ (c.make.ensures.sure refl) c.make.ensures.further);
    }
