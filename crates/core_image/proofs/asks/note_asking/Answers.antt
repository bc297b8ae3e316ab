use Rattle.std.proofs.Common.{ap, option_map, subst, sym, ◌∙◌, refl}
use Rattle.row_ledger.specs.{declared.class.Class.Class}
use Rattle.volap_cell.specs.{Cells.{cell_of}, Lending.with_ledger, Values.{actor_of, job_of}}
use Rattle.volap_cell.proofs.{Outcomes.as-err}
use Rattle.core_image.proofs.{Here.Telling.tells, EachStep.NotesAsk.asking-makes}
use Rattle.core_image.proofs.asks.note_asking.Goals as goal
use Rattle.core_image.specs.{NotesDue.BeginsAsking, Told.called_by}

pub returns-clause-made : goal.returns-clause-made
returns-clause-made c =
    asking-makes c.args.h.now c.args.registry_at c.args.ledger_at c.args.call.now c.args.workers (cell_of c.args.registry.now) (cell_of c.args.ledger.now) (actor_of c.args.actor.now) c.requires.due
    c.registry_in-registry.result.now (ap cell_of c.registry_in-registry.ensures.value) c.registry_in-registry.result.now refl
    c.ledger_in-ledger.result.now (ap cell_of c.ledger_in-ledger.ensures.value) c.push_called.new.ledger
    _ c.len-of.ensures.value
    _ _ (subst (λ (k : Class). BeginsAsking c.args.workers c.registry_in-registry.result.now k c.in_ok-work.field-0.work (option_map (λ j. job_of j.value) c.in_ok-work.field-0.job)) c.class.ensures c.in_ok-work.ensures) c.in_ok-push_called.ensures.ok _ c.len-actor.ensures.value

pub returns-clause-told : goal.returns-clause-told
returns-clause-told c =
    tells (called_by c.args.call.now) (actor_of c.args.actor.now) (cell_of c.args.ledger.now) c.ledger_in-ledger.result.now c.push_called.new.ledger
    (ap cell_of c.ledger_in-ledger.ensures.value) c.in_ok-push_called.ensures.ok.history

pub returns-in_err-push_called-clause-refused : goal.returns-in_err-push_called-clause-refused
returns-in_err-push_called-clause-refused c =
    as-err c.from_residual-in_err-push_called.result (sym c.registry_in-registry.ensures.value, ap (with_ledger c.args.ledger.now) c.in_err-push_called.ensures.err ∙ sym c.ledger_in-ledger.ensures.value, refl)
