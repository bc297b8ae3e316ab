use Rattle.std.proofs.Common.{inl, refl}
use Rattle.core_pages.specs.volap_cell.specs.declared.kind.Kind.TheVariants.{Reuse}
use Rattle.seeded_run.proofs.{Goings.{reuse-goes, reuse-now, sound-now}, Phases.Turns.has-gone-on-at-part, States.made-so}
use Rattle.seeded_run.proofs.machine.Running.reuse.Goals as goal

pub make-requires-clause-sound : goal.make-requires-clause-sound
make-requires-clause-sound c = sound-now c.args.self.now c.requires.held.kept

pub make-requires-clause-may : goal.make-requires-clause-may
make-requires-clause-may c = reuse-goes c.args.self.now c.requires.held.kept c.args.number c.args.step c.requires.due

pub returns : goal.returns
returns c =
    let m = c.args.self.now in
    let kept = c.requires.held.kept in
    record {
      turned = has-gone-on-at-part m kept c.args.number Reuse (reuse-now m kept c.args.number c.args.step c.requires.due) c.make.new.state c.requires.within
          (Reuse, refl, made-so c.make.result _ (c.make.ensures.sure refl) c.make.ensures.further, inl refl);
    }
