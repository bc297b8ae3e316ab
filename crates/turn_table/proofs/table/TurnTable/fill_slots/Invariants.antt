use Rattle.std.proofs.Common.{◌≡◌, true, false, List, ℕ, ◌++◌, length}
use Rattle.turn_table.specs.Seat.{slots_of}
use Rattle.turn_table.proofs.table.TurnTable.fill_slots.Given as goal

abbrev pub invariant-loop-next : goal.invariant-loop-next
invariant-loop-next g l = record {
  table : l.place.table_id ≡ l.initial.place.table_id;
  id : l.place.id ≡ l.initial.place.id;
  slots : (done : List (ℕ × g.row.C-Cell.Denot)) × (done ++ l.left ≡ l.initial.left) × (l.place.me ≡ (l.initial.place.me.0, slots_of true l.left ++ slots_of false done));
}

abbrev pub decreases-loop-next : goal.decreases-loop-next
decreases-loop-next g l = length l.left
