use Rattle.dim_hierarchy.specs.Dimension.{tree}
use Rattle.describing_set.proofs.Parts.{Adding}
use Rattle.describing_set.proofs.part.Part.add.Given as goal

abbrev pub invariant-loop-id : goal.invariant-loop-id
invariant-loop-id l = Adding (tree l.h l.dim) l.id l.fn.self l.self

abbrev pub decreases-loop-id : goal.decreases-loop-id
decreases-loop-id l = l.self.level
