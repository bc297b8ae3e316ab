use Rattle.describing_set.proofs.Sets.{Growing}
use Rattle.describing_set.proofs.set.DescSet.grow.Given as goal

abbrev pub invariant-loop-dim : goal.invariant-loop-dim
invariant-loop-dim l = Growing l.h l.at l.fn.self.parts.items l.self.parts.items l.dim
