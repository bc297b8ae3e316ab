use Rattle.std.proofs.Common.{◌∷◌, [], Some, ap}
use Rattle.row_ledger.specs.declared.event.Event.{Event}
use Rattle.seat_steps.proofs.Taken.{seated-still, took-holds}
use Rattle.turn_table.specs.Seat.{SeatValue}
use Rattle.core_due.specs.volap_cell.specs.declared.{actor.Actor.Actor, cell.Cell.Cell}
use Rattle.seat_steps.proofs.takes.take.Goals as goal

pub returns-clause-seated : goal.returns-clause-seated
returns-clause-seated g c =
    let s = c.requires.seated in
    let t = c.take.ensures.took in
    let now = c.take.new.seat in
    seated-still c.args.floor.now c.args.player.now now ((c.args.cell, Some c.args.rank) ∷ []) s (took-holds s.holds now c.args.cell (Some c.args.rank) t.1 t.2 t.0 t.3 c.take.ensures.possible)
    (ap (λ (z : SeatValue Cell Actor Event). z.ranks) t.3) (ap (λ (z : SeatValue Cell Actor Event). z.view.actors) t.3)
