use Rattle.std.proofs.Common.{◌≤◌}
use Rattle.describing_set.specs.Sets.{growth_at}
use Rattle.describing_set.proofs.Covering.{IsSumBelow}
use Rattle.describing_set.proofs.set.DescSet.growth_within.Given as goal

abbrev pub invariant-loop-dim : goal.invariant-loop-dim
invariant-loop-dim l = IsSumBelow (growth_at l.h l.self l.fn.at.coord) l.dim l.growth × (l.growth ≤ l.most)
