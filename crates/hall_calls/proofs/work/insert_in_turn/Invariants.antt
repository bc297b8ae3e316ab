use Rattle.std.proofs.Common.{◌≡◌, ◌≤◌}
use Rattle.hall_calls.specs.Tells.{HasOwn}
use Rattle.hall_calls.proofs.work.insert_in_turn.Given as goal

abbrev pub invariant-loop-i : goal.invariant-loop-i
invariant-loop-i g l = record {
  same : l.session ≡ record l.initial.session { seen = l.session.seen };
  own : HasOwn l.session l.acked;
  few : l.acked ≤ l.i;
}
