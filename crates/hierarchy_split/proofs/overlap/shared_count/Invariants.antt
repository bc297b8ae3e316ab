use Rattle.std.proofs.Common.{◌≡◌, ◌+◌, ◌≤◌, drop}
use Rattle.hierarchy_split.specs.Order.{shared_count}
use Rattle.hierarchy_split.proofs.overlap.shared_count.Given as goal

abbrev pub invariant-loop-i : goal.invariant-loop-i
invariant-loop-i l = (l.count + shared_count (drop l.i l.left) l.right ≡ shared_count l.left l.right) × (l.count ≤ l.i)
