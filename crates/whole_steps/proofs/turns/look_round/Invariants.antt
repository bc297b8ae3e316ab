use Rattle.std.proofs.Common.{ℕ, ◌≡◌, ◌<◌, []}
use Rattle.whole_steps.specs.Seats.{HasEveryone, HasTurned, Knows}
use Rattle.whole_steps.proofs.turns.look_round.Given as goal

abbrev pub invariant-loop-at : goal.invariant-loop-at
invariant-loop-at g l = record {
  everyone : HasEveryone l.table l.seat;
  turned : HasTurned l.fn.seat l.seat;
  bare : l.seat.ranks ≡ [];
  knows : (k : ℕ) → k < l.at → Knows l.seat k;
}
