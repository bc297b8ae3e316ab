use Rattle.hierarchy_split.proofs.Cuts.{Choosing}
use Rattle.hierarchy_split.proofs.cut.choose.Given as goal

abbrev pub invariant-loop-dim : goal.invariant-loop-dim
invariant-loop-dim l = Choosing l.h l.sets l.dim l.best
