use Rattle.dim_hierarchy.specs.Dimension.{tree}
use Rattle.describing_set.proofs.Parts.{JoinsParts-swap}
use Rattle.describing_set.proofs.part.Part.join.Goals as goal

pub returns-then-other-self : goal.returns-then-other-self
returns-then-other-self c = JoinsParts-swap (tree c.args.h.now c.args.dim) c.args.other.now c.args.self.now c.join_deeper.result c.join_deeper.ensures
