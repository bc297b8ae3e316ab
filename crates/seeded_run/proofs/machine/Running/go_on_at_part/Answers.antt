use Rattle.core_due.specs.Parts.{due_kind}
use Rattle.seeded_run.proofs.{Goings.{part-goes, part-now, sound-now}, Phases.Turns.has-gone-on-at-part}
use Rattle.seeded_run.proofs.machine.Running.go_on_at_part.Goals as goal

pub go_on_at_part-requires-clause-sound : goal.go_on_at_part-requires-clause-sound
go_on_at_part-requires-clause-sound c = sound-now c.args.self.now c.requires.held.kept

pub go_on_at_part-requires-clause-may : goal.go_on_at_part-requires-clause-may
go_on_at_part-requires-clause-may c = (part-goes c.args.self.now c.requires.held.kept c.args.number c.args.due c.requires.due).0

pub go_on_at_part-requires-clause-instead : goal.go_on_at_part-requires-clause-instead
go_on_at_part-requires-clause-instead c = (part-goes c.args.self.now c.requires.held.kept c.args.number c.args.due c.requires.due).1

pub returns : goal.returns
returns c =
    let m = c.args.self.now in
    let kept = c.requires.held.kept in
    record {
      turned = has-gone-on-at-part m kept c.args.number (due_kind c.args.due) (part-now m kept c.args.number c.args.due c.requires.due) c.go_on_at_part.new.state c.requires.within c.go_on_at_part.ensures.made;
    }
