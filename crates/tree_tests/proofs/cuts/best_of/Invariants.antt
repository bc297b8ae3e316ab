use Rattle.hierarchy_split.specs.Flags.{AreHeadCuts}
use Rattle.tree_tests.proofs.cuts.best_of.Given as goal

abbrev pub invariant-loop-set : goal.invariant-loop-set
invariant-loop-set l = AreHeadCuts l.h l.cuts
