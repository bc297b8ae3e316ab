use Rattle.std.proofs.Common.{ap, sym, ◌∙◌, refl}
use Rattle.volap_cell.specs.{Cells.{cell_of}, Lending.with_ledger, Values.actor_of}
use Rattle.volap_cell.proofs.{Outcomes.as-err}
use Rattle.core_image.proofs.{Here.Telling.tells, EachStep.NotesCall.called-makes}
use Rattle.core_image.proofs.calls.note_called.Goals as goal
use Rattle.core_image.specs.{NotesDue.work_alone, Told.called_by}

pub returns-clause-made : goal.returns-clause-made
returns-clause-made c =
    called-makes c.args.h.now c.args.ledger_at c.args.call.now (cell_of c.args.ledger.now) (actor_of c.args.actor.now) c.requires.due
    c.ledger_in-ledger.result.now (ap cell_of c.ledger_in-ledger.ensures.value) c.push_called.new.ledger
    _ c.len-of.ensures.value
    _ (c.begun-work.ensures ∙ ap work_alone c.class.ensures) c.in_ok-push_called.ensures.ok _ c.len-actor.ensures.value

pub returns-clause-told : goal.returns-clause-told
returns-clause-told c =
    tells (called_by c.args.call.now) (actor_of c.args.actor.now) (cell_of c.args.ledger.now) c.ledger_in-ledger.result.now c.push_called.new.ledger
    (ap cell_of c.ledger_in-ledger.ensures.value) c.in_ok-push_called.ensures.ok.history

pub returns-in_err-push_called-clause-refused : goal.returns-in_err-push_called-clause-refused
returns-in_err-push_called-clause-refused c =
    as-err c.from_residual.result (ap (with_ledger c.args.ledger.now) c.in_err-push_called.ensures.err ∙ sym c.ledger_in-ledger.ensures.value, refl)
