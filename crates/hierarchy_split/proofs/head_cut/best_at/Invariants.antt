use Rattle.hierarchy_split.proofs.Heads.{IsBestBelow}
use Rattle.hierarchy_split.proofs.head_cut.best_at.Given as goal

abbrev pub invariant-loop-concept : goal.invariant-loop-concept
invariant-loop-concept l = IsBestBelow l.dim l.level l.leasts l.crossed l.concept-index l.best
