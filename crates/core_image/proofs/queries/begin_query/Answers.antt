use Rattle.std.proofs.Common.{ℕ, ◌∙◌, refl, ap, sym, subst}
use Rattle.std.specs.Prelude.{IsSome}
use Rattle.volap_cell.specs.{Cells.{Tag, DeskCell, ImageCell, LedgerCell, cell_of, owned_by}, Lending.{owner_of, with_ledger, with_desk}, ImageKinds.doing, Values.actor_of, declared.command.Work.TheVariants.Query}
use Rattle.volap_cell.proofs.{Outcomes.as-err}
use Rattle.core_image.specs.Asking.{OpensQuery}
use Rattle.core_image.proofs.{Here.AskedHere.{can-ask, has-asked}, Here.Telling.tells-asked}
use Rattle.core_image.proofs.queries.begin_query.Goals as goal

pub owner_in-server-requires : goal.owner_in-server-requires
owner_in-server-requires c = subst (λ (t : Tag). IsSome (owned_by t)) (sym c.requires.due.desk_is) refl

-- src/queries.rt:55:5
pub ask-requires : goal.ask-requires
ask-requires c = record {
  due = can-ask c.args.h.now c.args.desk_at c.args.image_at c.args.ledger_at (cell_of c.args.desk.now) (cell_of c.args.image.now) (cell_of c.args.ledger.now) (actor_of c.args.actor.now) c.args.filter c.requires.here c.requires.due
      (owner_of c.args.desk.now) c.desk_in-desk.result.now (ap cell_of c.desk_in-desk.ensures.value)
      (owner_of c.args.image.now) c.image_in-image.result.now (ap cell_of c.image_in-image.ensures.value)
      c.ledger_in-ledger.result.now (ap cell_of c.ledger_in-ledger.ensures.value);
}

-- src/queries.rt:22:1
pub returns-clause-made : goal.returns-clause-made
returns-clause-made c =
    has-asked c.args.h.now c.args.desk_at c.args.image_at c.args.ledger_at (cell_of c.args.desk.now) (cell_of c.args.image.now) (cell_of c.args.ledger.now) (actor_of c.args.actor.now) c.args.filter c.requires.here c.requires.due
    (owner_of c.args.desk.now) c.desk_in-desk.result.now (ap cell_of c.desk_in-desk.ensures.value)
    (owner_of c.args.image.now) c.image_in-image.result.now (ap cell_of c.image_in-image.ensures.value)
    c.ledger_in-ledger.result.now (ap cell_of c.ledger_in-ledger.ensures.value)
    c.ask.new.desk c.ask.new.ledger (DeskCell (owner_of c.args.desk.now) c.ask.new.desk) (ImageCell (owner_of c.args.image.now) c.image_in-image.result.now) (LedgerCell c.ask.new.ledger) _
    (subst (λ (s : ℕ). OpensQuery c.args.h.now (actor_of c.args.actor.now).number s c.args.filter c.image_in-image.result.now c.desk_in-desk.result.now c.ask.new.desk c.ledger_in-ledger.result.now c.ask.new.ledger)
    c.owner_in-server.ensures c.in_ok-ask.ensures.ok) refl refl refl
    (λ k. record (actor_of c.args.actor.now) { command = doing (c.len-of.ensures.value k) Query; seen = c.len-actor.ensures.value k })

pub returns-clause-told : goal.returns-clause-told
returns-clause-told c =
    tells-asked c.args.h.now c.args.filter (actor_of c.args.actor.now) (cell_of c.args.desk.now) (cell_of c.args.ledger.now) c.requires.due.server c.requires.due.role c.requires.due.desk_is
    (owner_of c.args.desk.now) c.desk_in-desk.result.now (ap cell_of c.desk_in-desk.ensures.value)
    _ c.ledger_in-ledger.result.now (ap cell_of c.ledger_in-ledger.ensures.value)
    c.ask.new.desk c.ask.new.ledger
    (subst (λ (s : ℕ). OpensQuery c.args.h.now (actor_of c.args.actor.now).number s c.args.filter c.image_in-image.result.now c.desk_in-desk.result.now c.ask.new.desk c.ledger_in-ledger.result.now c.ask.new.ledger)
    c.owner_in-server.ensures c.in_ok-ask.ensures.ok)

pub returns-in_err-ask-clause-refused : goal.returns-in_err-ask-clause-refused
returns-in_err-ask-clause-refused c =
    let k = c.in_err-ask.ensures.err in
    as-err c.from_residual.result (ap (with_desk c.args.desk.now) k.0 ∙ sym c.desk_in-desk.ensures.value, sym c.image_in-image.ensures.value, ap (with_ledger c.args.ledger.now) k.1 ∙ sym c.ledger_in-ledger.ensures.value, refl)
