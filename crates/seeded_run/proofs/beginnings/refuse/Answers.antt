use Rattle.core_due.specs.core_steps.specs.{Notes.note_asks, declared.notes.NoteStep.TheVariants.Refused}
use Rattle.core_pages.specs.volap_cell.proofs.Outcomes.{on-ok}
use Rattle.seeded_run.proofs.{Ready.BeginsReady.{begun-refused, noting, refused-asked}, States.core-sound}
use Rattle.seeded_run.proofs.beginnings.refuse.Goals as goal

pub make-requires-clause-sound : goal.make-requires-clause-sound
make-requires-clause-sound c = core-sound c.args.h.now c.args.with.now c.args.state.now c.requires.core

pub make-requires-clause-may : goal.make-requires-clause-may
make-requires-clause-may c =
    noting c.args.h.now c.args.with.now c.args.state.now c.requires.core c.args.number c.args.command.now c.requires.begins (note_asks Refused)
    (refused-asked c.args.h.now c.args.with.now c.args.state.now c.requires.core c.args.number c.args.command.now c.requires.begins)

pub returns-clause-begun : goal.returns-clause-begun
returns-clause-begun c =
    on-ok c.make.result c.make.ensures.told (λ told.
    begun-refused c.args.h.now c.args.with.now c.args.state.now c.requires.core c.args.number c.args.command.now c.requires.begins c.make.new.state c.requires.refused told)
