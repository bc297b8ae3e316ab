use Rattle.std.proofs.Common.{◌≤◌, ◌*◌}
use Rattle.describing_set.specs.Sets.{size_at}
use Rattle.describing_set.proofs.Covering.{IsSumBelow}
use Rattle.describing_set.proofs.set.DescSet.size.Given as goal

abbrev pub invariant-loop-dim : goal.invariant-loop-dim
invariant-loop-dim l = IsSumBelow (size_at l.h l.self) l.dim l.size × (l.size ≤ 2100 * l.dim)
