use Rattle.hierarchy_split.specs.Best.{IsBestWith}
use Rattle.hierarchy_split.proofs.Groups.{IsFlaggedBelow}
use Rattle.hierarchy_split.proofs.head.HeadCuts.best.Given as goal

abbrev pub invariant-loop-dim : goal.invariant-loop-dim
invariant-loop-dim l = IsBestWith (IsFlaggedBelow l.h l.self.head.now l.self.dims.items l.dim) l.best
