use Rattle.std.proofs.Common.{ℕ, ◌<◌}
use Rattle.dim_hierarchy.specs.{Dimension.tree, Row.concept_at}
use Rattle.describing_set.specs.{DescSet.part_at, Parts.GrowsPart}
use Rattle.describing_set.proofs.set.DescSet.keeps.Given as goal

abbrev pub invariant-loop-dim : goal.invariant-loop-dim
invariant-loop-dim l = (k : ℕ) → k < l.dim → GrowsPart (tree l.h k) (concept_at l.at k) (part_at l.self k) (part_at l.self k)
