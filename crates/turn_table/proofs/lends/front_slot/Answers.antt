use Rattle.std.proofs.Common.{List, ℕ, refl, sym, ap}
use Rattle.atomic_table.specs.declared.shared.Seat.{Seat}
use Rattle.turn_table.proofs.lends.front_slot.Goals as goal

-- what was lent is what the slot has, so the seat has it still
pub returns : goal.returns
returns g c =
    let S : Type 0 = Seat g.row.S.Denot g.row.V.Denot in
    let place : S = c.args.place.now in
    let kept = ap (λ (l : List (ℕ × g.row.S.Denot)). let s : S = record place { me = (place.me.0, l) } in s) (sym c.slot_mut.ensures.value) in
    ((refl, (λ _. tt), kept), record { same = tt; value = c.slot_mut.ensures.value })
