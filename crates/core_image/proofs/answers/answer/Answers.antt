use Rattle.std.proofs.Common.{ℕ, None, refl, ap, subst}
use Rattle.core_image.specs.Asking.{GivesAnswer}
use Rattle.volap_cell.specs.{Cells.{DeskCell, LedgerCell, cell_of}, Lending.owner_of, Values.actor_of}
use Rattle.core_image.proofs.Here.AnsweredHere.{at-query, can-give, has-answered}
use Rattle.core_image.proofs.answers.answer.Goals as goal

-- src/answers.rt:40:5
pub give-requires : goal.give-requires
give-requires c = record {
  due = can-give c.args.h.now c.args.desk_at c.args.ledger_at (cell_of c.args.desk.now) (cell_of c.args.ledger.now) (actor_of c.args.actor.now) c.requires.here c.requires.due
      (owner_of c.args.desk.now) c.desk_in-desk.result.now (ap cell_of c.desk_in-desk.ensures.value)
      c.ledger_in-ledger.result.now (ap cell_of c.ledger_in-ledger.ensures.value);
}

-- src/answers.rt:16:1
pub returns : goal.returns
returns c =
    let desk_is = ap cell_of c.desk_in-desk.ensures.value in
    let ledger_is = ap cell_of c.ledger_in-ledger.ensures.value in
    let of = at-query c.args.h.now c.args.desk_at c.args.ledger_at (cell_of c.args.desk.now) (cell_of c.args.ledger.now) (actor_of c.args.actor.now) c.requires.here c.requires.due
    (owner_of c.args.desk.now) c.desk_in-desk.result.now desk_is c.ledger_in-ledger.result.now ledger_is c.there-command.result.now c.there-command.ensures in
    record {
      made = has-answered c.args.h.now c.args.desk_at c.args.ledger_at (cell_of c.args.desk.now) (cell_of c.args.ledger.now) (actor_of c.args.actor.now) c.requires.here c.requires.due
          (owner_of c.args.desk.now) c.desk_in-desk.result.now desk_is c.ledger_in-ledger.result.now ledger_is
          c.give.new.desk c.give.new.ledger (DeskCell (owner_of c.args.desk.now) c.give.new.desk) (LedgerCell c.give.new.ledger) _
          (subst (λ (x : ℕ). GivesAnswer x c.desk_in-desk.result.now c.give.new.desk c.ledger_in-ledger.result.now c.give.new.ledger) of c.give.ensures.given) refl refl
          (λ k. record (actor_of c.args.actor.now) { command = None; seen = c.len-actor.ensures.value k });
    }
