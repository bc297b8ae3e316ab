use Rattle.std.proofs.Common.{ℕ, ◌≡◌, ◌<◌, [], length, get_or}
use Rattle.dim_hierarchy.specs.Dimension.{tree}
use Rattle.describing_set.specs.{DescSet.part_at, Part.part, Parts.JoinsParts}
use Rattle.describing_set.proofs.set.DescSet.join.Given as goal

abbrev pub invariant-loop-dim : goal.invariant-loop-dim
invariant-loop-dim l = (length l.parts.items ≡ l.dim) × ((k : ℕ) → k < l.dim → JoinsParts (tree l.h k) (part_at l.fn.self k) (part_at l.fn.other k) (get_or l.parts.items k (part 0 [])))
