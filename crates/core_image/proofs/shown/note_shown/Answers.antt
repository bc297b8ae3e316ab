use Rattle.std.proofs.Common.{◌∷◌, Option, ap, sym, ◌∙◌}
use Rattle.row_ledger.specs.{declared.event.Event.TheVariants.Shown}
use Rattle.volap_cell.specs.{Cells.{cell_of}, Values.actor_of, declared.command.Command.Command}
use Rattle.core_image.specs.ToldPages.{began_at, shown_by}
use Rattle.core_image.proofs.{Here.Telling.tells, EachStep.NotesShown.{shown-due, shown-makes, shown-promised}}
use Rattle.core_image.proofs.shown.note_shown.Goals as goal

pub push-requires : goal.push-requires
push-requires c =
    shown-promised c.args.h.now c.args.ledger_at c.args.page (cell_of c.args.ledger.now) (actor_of c.args.actor.now) c.requires.here c.requires.due
    c.ledger_in-ledger.result.now (ap cell_of c.ledger_in-ledger.ensures.value)

pub show-requires : goal.show-requires
show-requires c =
    shown-due c.args.h.now c.args.ledger_at c.args.page (cell_of c.args.ledger.now) (actor_of c.args.actor.now) c.requires.here c.requires.due
    c.ledger_in-ledger.result.now (ap cell_of c.ledger_in-ledger.ensures.value)

pub returns : goal.returns
returns c =
    record {
      made = shown-makes c.args.h.now c.args.ledger_at c.args.page (cell_of c.args.ledger.now) (actor_of c.args.actor.now) c.requires.here c.requires.due
          c.ledger_in-ledger.result.now (ap cell_of c.ledger_in-ledger.ensures.value)
          c.there-command.result.now c.there-command.ensures c.push.new.self c.push.ensures.history c.push.ensures.promised
          _ c.show.ensures _ c.len-actor.ensures.value;
      told = tells (shown_by c.args.page) (actor_of c.args.actor.now) (cell_of c.args.ledger.now) c.ledger_in-ledger.result.now c.push.new.self
          (ap cell_of c.ledger_in-ledger.ensures.value)
          (c.push.ensures.history ∙ ap (λ (o : Option Command). Shown (began_at o) c.args.page ∷ c.ledger_in-ledger.result.now.history) (sym c.there-command.ensures));
    }
