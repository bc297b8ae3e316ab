use Rattle.std.proofs.Common.{◌<◌, length, sym, subst}
use Rattle.row_ledger.specs.declared.event.Event.{Event}
use Rattle.call_steps.specs.seat_steps.proofs.Left.{less-without}
use Rattle.turn_table.proofs.Numbered.{find_same}
use Rattle.turn_table.specs.Seat.{SeatValue}
use Rattle.core_pages.specs.volap_cell.specs.declared.{actor.Actor.Actor, cell.Cell.Cell}
use Rattle.whole_steps.proofs.Turned.{gave-everyone, gave-turned, turned-on, turned-self}
use Rattle.whole_steps.proofs.turns.give_turns.Goals as goal

pub loop-cell-init : goal.loop-cell-init
loop-cell-init c = record { everyone = c.requires.everyone; turned = turned-self c.args.seat.now }

pub release-requires-clause-held : goal.release-requires-clause-held
release-requires-clause-held c =
    let seat = c.loop-cell.seat in
    let told = c.in-Some.ensures.some in
    find_same seat.ranks seat.view.held c.in-Some.cell told.0 (sym c.loop-cell.invariant.everyone.rows) told.1

pub release-requires-clause-free : goal.release-requires-clause-free
release-requires-clause-free c j x has needs = c.loop-cell.invariant.everyone.free j x c.in-Some.cell has needs

pub loop-cell-preserved : goal.loop-cell-preserved
loop-cell-preserved c =
    let was = c.loop-cell.seat in
    let now = c.release.new.seat in
    let k = c.loop-cell.invariant in
    let e = c.release.ensures.seat in
    record {
      everyone = gave-everyone c.args.table.now was now k.everyone c.in-Some.cell e c.release.ensures.possible;
      turned = turned-on c.args.seat.now was now k.turned (gave-turned c.args.table.now was now k.everyone c.in-Some.cell e);
    }

pub loop-cell-smaller : goal.loop-cell-smaller
loop-cell-smaller c =
    let ranks = c.loop-cell.seat.ranks in
    let told = c.in-Some.ensures.some in
    subst (λ (s : SeatValue Cell Actor Event). length s.ranks < length ranks) (sym c.release.ensures.seat) (less-without ranks c.in-Some.cell told.0 told.1)
