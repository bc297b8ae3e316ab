use Rattle.std.proofs.Common.{◌≡◌, ◌++◌, take, drop}
use Rattle.turn_table.proofs.moves.turn_by.Given as goal

abbrev pub invariant-loop : goal.invariant-loop
invariant-loop g l = record {
  table : l.place.table_id ≡ l.initial.place.table_id;
  id : l.place.id ≡ l.initial.place.id;
  slots : l.place.me ≡ (l.initial.place.me.0, drop l.counter l.initial.place.me.1 ++ take l.counter l.initial.place.me.1);
}
