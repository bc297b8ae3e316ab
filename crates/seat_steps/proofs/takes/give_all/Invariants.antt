use Rattle.std.proofs.Common.{length}
use Rattle.seat_steps.specs.{Floors.IsSeated, Takes.GaveAll}
use Rattle.seat_steps.proofs.takes.give_all.Given as goal

abbrev pub invariant-loop-cell : goal.invariant-loop-cell
invariant-loop-cell l = record {
  seated : IsSeated l.floor l.player;
  gave : GaveAll l.fn.player l.player;
}

abbrev pub decreases-loop-cell : goal.decreases-loop-cell
decreases-loop-cell l = length l.player.seat.ranks
