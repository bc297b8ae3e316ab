use Rattle.std.proofs.Common.{ℕ, ◌≡◌, ◌<◌, true}
use Rattle.describing_set.specs.Part.{has_ancestor}
use Rattle.describing_set.proofs.Covering.{test_at}
use Rattle.describing_set.proofs.set.DescSet.covers.Given as goal

abbrev pub invariant-loop-dim : goal.invariant-loop-dim
invariant-loop-dim l = (k : ℕ) → k < l.dim → test_at has_ancestor l.h l.self.parts.items l.fn.at.coord.at 0 k ≡ true
