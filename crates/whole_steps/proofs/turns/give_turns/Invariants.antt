use Rattle.std.proofs.Common.{length}
use Rattle.whole_steps.specs.Seats.{HasEveryone, HasTurned}
use Rattle.whole_steps.proofs.turns.give_turns.Given as goal

abbrev pub invariant-loop-cell : goal.invariant-loop-cell
invariant-loop-cell l = record {
  everyone : HasEveryone l.table l.seat;
  turned : HasTurned l.fn.seat l.seat;
}

abbrev pub decreases-loop-cell : goal.decreases-loop-cell
decreases-loop-cell l = length l.seat.ranks
