use Rattle.std.proofs.Common.{◌≡◌, true, false, take, drop, ◌++◌}
use Rattle.turn_table.specs.Seat.{slots_of, values_of}
use Rattle.turn_table.proofs.table.TurnTable.empty_slots.Given as goal

abbrev pub invariant-loop-told : goal.invariant-loop-told
invariant-loop-told g l = record {
  table : l.place.table_id ≡ l.initial.place.table_id;
  id : l.place.id ≡ l.initial.place.id;
  slots : l.place.me ≡ (l.initial.place.me.0, slots_of false (drop l.told-index (values_of l.initial.place.me.1)) ++ slots_of true (take l.told-index (values_of l.initial.place.me.1)));
  held : l.held ≡ take l.told-index (values_of l.initial.place.me.1);
}
