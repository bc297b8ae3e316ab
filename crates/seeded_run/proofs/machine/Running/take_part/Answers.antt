use Rattle.std.proofs.Common.{inl, refl}
use Rattle.core_pages.specs.volap_cell.specs.declared.kind.Kind.TheVariants.{TakePart}
use Rattle.seeded_run.proofs.{Goings.{hand-goes, hand-now, sound-now}, Phases.Turns.has-gone-on-at-part}
use Rattle.seeded_run.proofs.machine.Running.take_part.Goals as goal

pub take_part-requires-clause-sound : goal.take_part-requires-clause-sound
take_part-requires-clause-sound c = sound-now c.args.self.now c.requires.held.kept

pub take_part-requires-clause-may : goal.take_part-requires-clause-may
take_part-requires-clause-may c = hand-goes c.args.self.now c.requires.held.kept c.args.number c.requires.within c.args.worker c.requires.due

pub returns : goal.returns
returns c = (
    let m = c.args.self.now in
    let kept = c.requires.held.kept in
    record {
      turned = has-gone-on-at-part m kept c.args.number TakePart (hand-now m kept c.args.number c.args.worker c.requires.due) c.take_part.new.state c.requires.within (TakePart, refl, c.take_part.ensures.made, inl refl);
    }
    )
