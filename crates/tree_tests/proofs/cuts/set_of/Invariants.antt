use Rattle.describing_set.specs.Sets.{IsDescSetOf}
use Rattle.tree_tests.proofs.cuts.set_of.Given as goal

abbrev pub invariant-loop-row : goal.invariant-loop-row
invariant-loop-row l = IsDescSetOf l.h l.set
