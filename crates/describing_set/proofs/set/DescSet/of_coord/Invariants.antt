use Rattle.std.proofs.Common.{ℕ, ◌≡◌, ◌<◌, [], ◌∷◌, length, get_or}
use Rattle.dim_hierarchy.specs.{Dimension.tree, Row.concept_at, Tree.leaf_level}
use Rattle.describing_set.specs.Part.{part}
use Rattle.describing_set.proofs.set.DescSet.of_coord.Given as goal

abbrev pub invariant-loop-dim : goal.invariant-loop-dim
invariant-loop-dim l = (length l.parts.items ≡ l.dim) × ((k : ℕ) → k < l.dim → get_or l.parts.items k (part 0 []) ≡ part (leaf_level (tree l.h k)) (concept_at l.at k ∷ []))
