use Rattle.dim_hierarchy.specs.Dimension.{tree}
use Rattle.describing_set.proofs.Parts.{Joining}
use Rattle.describing_set.proofs.part.Part.join_deeper.Given as goal

abbrev pub invariant-loop-id : goal.invariant-loop-id
invariant-loop-id l = Joining (tree l.h l.dim) l.fn.self l.id-items l.id-index l.part
