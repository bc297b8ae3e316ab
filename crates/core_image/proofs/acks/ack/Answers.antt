use Rattle.std.proofs.Common.{ℕ, None, true, refl, ap, sym, subst}
use Rattle.dim_hierarchy.specs.declared.row.Row.{Row}
use Rattle.core_image.specs.Due.{CanBook, Books}
use Rattle.volap_cell.specs.{Cells.{DeskCell, ImageCell, LedgerCell, cell_of}, Lending.owner_of, Values.actor_of}
use Rattle.core_image.proofs.Here.Ready.{at-command, can-book, has-acked}
use Rattle.core_image.proofs.acks.ack.Goals as goal

-- src/acks.rt:52:5
pub book-requires : goal.book-requires
book-requires c =
    let same = at-command c.there-command.result.now c.in-Insert.row c.in-Insert.routed c.args.actor.now.command c.there-command.ensures c.in-Insert.is c.requires.due.of c.requires.due.row true c.requires.due.command in
    record {
      due = subst (λ (r : Row). CanBook c.args.h.now r.at c.desk_in-desk.result.now c.image_in-image.result.now c.ledger_in-ledger.result.now) (sym same.1)
          (can-book c.args.h.now c.args.desk_at c.args.image_at c.args.ledger_at (cell_of c.args.desk.now) (cell_of c.args.image.now) (cell_of c.args.ledger.now) (actor_of c.args.actor.now) c.requires.here c.requires.due
          (owner_of c.args.desk.now) c.desk_in-desk.result.now (ap cell_of c.desk_in-desk.ensures.value)
          (owner_of c.args.image.now) c.image_in-image.result.now (ap cell_of c.image_in-image.ensures.value)
          c.ledger_in-ledger.result.now (ap cell_of c.ledger_in-ledger.ensures.value));
    }

-- src/acks.rt:18:1
pub returns : goal.returns
returns c =
    let same = at-command c.there-command.result.now c.in-Insert.row c.in-Insert.routed c.args.actor.now.command c.there-command.ensures c.in-Insert.is c.requires.due.of c.requires.due.row true c.requires.due.command in
    let hs = c.args.h.now in
    record {
      made = has-acked hs c.args.desk_at c.args.image_at c.args.ledger_at (cell_of c.args.desk.now) (cell_of c.args.image.now) (cell_of c.args.ledger.now) (actor_of c.args.actor.now) c.requires.here c.requires.due
          (owner_of c.args.desk.now) c.desk_in-desk.result.now (ap cell_of c.desk_in-desk.ensures.value)
          (owner_of c.args.image.now) c.image_in-image.result.now (ap cell_of c.image_in-image.ensures.value)
          c.ledger_in-ledger.result.now (ap cell_of c.ledger_in-ledger.ensures.value)
          c.book.new.desk c.book.new.image c.book.new.ledger (DeskCell (owner_of c.args.desk.now) c.book.new.desk) (ImageCell (owner_of c.args.image.now) c.book.new.image) (LedgerCell c.book.new.ledger) _
          (subst (λ (of : ℕ). Books hs of c.requires.due.row.at c.desk_in-desk.result.now c.book.new.desk c.image_in-image.result.now c.book.new.image c.ledger_in-ledger.result.now c.book.new.ledger) same.0
          (subst (λ (r : Row). Books hs c.there-command.result.now.of r.at c.desk_in-desk.result.now c.book.new.desk c.image_in-image.result.now c.book.new.image c.ledger_in-ledger.result.now c.book.new.ledger) same.1 c.book.ensures.booked))
          refl refl refl (λ k. record (actor_of c.args.actor.now) { command = None; seen = c.len-actor.ensures.value k });
    }
