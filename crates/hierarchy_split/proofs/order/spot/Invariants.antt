use Rattle.std.proofs.Common.{ℕ, ◌<◌, ◌≤◌, length, get_or}
use Rattle.hierarchy_split.proofs.order.spot.Given as goal

abbrev pub invariant-loop-at : goal.invariant-loop-at
invariant-loop-at l = (l.at ≤ length l.order) × ((k : ℕ) → l.at ≤ k → k < length l.order → get_or l.leasts l.place 0 < get_or l.leasts (get_or l.order k 0) 0)

abbrev pub decreases-loop-at : goal.decreases-loop-at
decreases-loop-at l = l.at
