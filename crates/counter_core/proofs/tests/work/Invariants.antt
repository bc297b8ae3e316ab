use Rattle.std.proofs.Common.{◌≡◌, [], false}
use Rattle.counter_core.proofs.tests.work.Given as goal

abbrev pub invariant-loop : goal.invariant-loop
invariant-loop g l = record {
  table : l.seat.table_id ≡ l.initial.seat.table_id;
  held : l.seat.view.held ≡ [];
  ranks : l.seat.ranks ≡ [];
  home : l.seat.lifted ≡ false;
  actors : l.seat.view.actors ≡ l.initial.seat.view.actors;
  count : l.seat.view.actor_count ≡ l.initial.seat.view.actor_count;
}
