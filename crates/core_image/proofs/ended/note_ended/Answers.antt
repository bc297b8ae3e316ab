use Rattle.std.proofs.Common.{◌≡◌, ◌∙◌, ◌∷◌, Option, refl, sym, ap}
use Rattle.std.specs.Option.{option_map_or}
use Rattle.volap_cell.specs.{Cells.{cell_of}, Values.actor_of}
use Rattle.core_image.proofs.{EachStep.NotesEnd.{ended-makes, left-promised, some-left}, Here.Telling.tells}
use Rattle.core_image.specs.Told.{ended_by, open_of}
use Rattle.row_ledger.specs.declared.event.Event.TheVariants.{Ended}
use Rattle.volap_cell.specs.declared.command.Command.{Command}
use Rattle.core_image.proofs.ended.note_ended.Goals as goal

pub push_ended-requires-clause-some : goal.push_ended-requires-clause-some
push_ended-requires-clause-some c =
    some-left c.args.h.now c.args.ledger_at c.args.how (cell_of c.args.ledger.now) (actor_of c.args.actor.now) c.requires.here c.requires.due c.there-command.result.now c.there-command.ensures
    c.ledger_in-ledger.result.now (ap cell_of c.ledger_in-ledger.ensures.value) _ c.owed.ensures.value

pub push_ended-requires-clause-promised : goal.push_ended-requires-clause-promised
push_ended-requires-clause-promised c =
    left-promised c.args.h.now c.args.ledger_at c.args.how (cell_of c.args.ledger.now) (actor_of c.args.actor.now) c.requires.here c.requires.due c.there-command.result.now c.there-command.ensures
    c.ledger_in-ledger.result.now (ap cell_of c.ledger_in-ledger.ensures.value) _ c.owed.ensures.value

pub returns : goal.returns
returns c =
    let place : c.there-command.result.now.of ≡ open_of (actor_of c.args.actor.now) = ap (λ (o : Option Command). option_map_or (λ (x : Command). x.of) o 0) (sym c.there-command.ensures) in
    record {
      made = ended-makes c.args.h.now c.args.ledger_at c.args.how (cell_of c.args.ledger.now) (actor_of c.args.actor.now) c.requires.here c.requires.due c.there-command.result.now c.there-command.ensures
          c.ledger_in-ledger.result.now (ap cell_of c.ledger_in-ledger.ensures.value) _ c.owed.ensures.value
          c.push_ended.new.ledger c.push_ended.ensures.ended _ c.len-actor.ensures.value;
      told = tells (ended_by c.args.how) (actor_of c.args.actor.now) (cell_of c.args.ledger.now) c.ledger_in-ledger.result.now c.push_ended.new.ledger
          (ap cell_of c.ledger_in-ledger.ensures.value) (c.push_ended.ensures.ended.history ∙ (λ k. Ended (place k) c.args.how ∷ c.ledger_in-ledger.result.now.history));
      over = refl;
    }
