use Rattle.std.proofs.Common.{ℕ, ◌≡◌, ◌<◌, true}
use Rattle.dim_hierarchy.specs.declared.filter.Pick.TheVariants.{All}
use Rattle.describing_set.specs.Filter.{is_part_inside}
use Rattle.describing_set.proofs.Covering.{test_at}
use Rattle.describing_set.proofs.set.DescSet.inside.Given as goal

abbrev pub invariant-loop-dim : goal.invariant-loop-dim
invariant-loop-dim l = (k : ℕ) → k < l.dim → test_at is_part_inside l.h l.self.parts.items l.filter All k ≡ true
