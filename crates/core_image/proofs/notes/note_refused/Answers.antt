use Rattle.std.proofs.Common.{ap, sym, ◌∙◌, refl}
use Rattle.volap_cell.specs.{Cells.{cell_of}, Lending.with_ledger, Values.actor_of}
use Rattle.volap_cell.proofs.{Outcomes.as-err}
use Rattle.core_image.proofs.{Here.Telling.tells, EachStep.NotesRefusal.refused-makes}
use Rattle.core_image.proofs.notes.note_refused.Goals as goal
use Rattle.core_image.specs.Told.{refused_by}

pub returns-clause-made : goal.returns-clause-made
returns-clause-made c =
    refused-makes c.args.h.now c.args.ledger_at (cell_of c.args.ledger.now) (actor_of c.args.actor.now) c.requires.due
    c.ledger_in-ledger.result.now (ap cell_of c.ledger_in-ledger.ensures.value) c.push_refused.new.ledger
    c.in_ok-push_refused.ensures.ok _ c.len-actor.ensures.value

pub returns-clause-told : goal.returns-clause-told
returns-clause-told c =
    tells refused_by (actor_of c.args.actor.now) (cell_of c.args.ledger.now) c.ledger_in-ledger.result.now c.push_refused.new.ledger
    (ap cell_of c.ledger_in-ledger.ensures.value) c.in_ok-push_refused.ensures.ok.history

pub returns-in_err-push_refused-clause-refused : goal.returns-in_err-push_refused-clause-refused
returns-in_err-push_refused-clause-refused c =
    as-err c.from_residual.result (ap (with_ledger c.args.ledger.now) c.in_err-push_refused.ensures.err ∙ sym c.ledger_in-ledger.ensures.value, refl)
