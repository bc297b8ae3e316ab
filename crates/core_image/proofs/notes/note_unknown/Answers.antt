use Rattle.std.proofs.Common.{ap, sym, ◌∙◌, refl}
use Rattle.volap_cell.specs.{Cells.{cell_of}, Lending.with_ledger, Values.actor_of}
use Rattle.volap_cell.proofs.{Outcomes.as-err}
use Rattle.core_image.proofs.{Here.Telling.tells-unknown, EachStep.NotesRefusal.unknown-makes}
use Rattle.core_image.proofs.notes.note_unknown.Goals as goal

pub returns-clause-made : goal.returns-clause-made
returns-clause-made c =
    unknown-makes c.args.h.now c.args.ledger_at (cell_of c.args.ledger.now) (actor_of c.args.actor.now) c.requires.due c.args.dim
    c.ledger_in-ledger.result.now (ap cell_of c.ledger_in-ledger.ensures.value) c.push_unknown.new.ledger
    c.server_of.result c.server_of.ensures c.in_ok-push_unknown.ensures.ok _ c.len-actor.ensures.value

pub returns-clause-told : goal.returns-clause-told
returns-clause-told c =
    tells-unknown c.args.dim (actor_of c.args.actor.now) (cell_of c.args.ledger.now) c.ledger_in-ledger.result.now c.push_unknown.new.ledger
    (ap cell_of c.ledger_in-ledger.ensures.value) c.server_of.result c.server_of.ensures c.in_ok-push_unknown.ensures.ok

pub returns-in_err-push_unknown-clause-refused : goal.returns-in_err-push_unknown-clause-refused
returns-in_err-push_unknown-clause-refused c =
    as-err c.from_residual.result (ap (with_ledger c.args.ledger.now) c.in_err-push_unknown.ensures.err ∙ sym c.ledger_in-ledger.ensures.value, refl)
