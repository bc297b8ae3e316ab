use Rattle.std.proofs.Common.{◌≡◌, ◌++◌, length}
use Rattle.turn_table.proofs.held.Held.and.Given as goal

abbrev pub invariant-loop-next : goal.invariant-loop-next
invariant-loop-next g l = l.all ++ l.left ≡ l.initial.all ++ l.initial.left

abbrev pub decreases-loop-next : goal.decreases-loop-next
decreases-loop-next g l = length l.left
