use Rattle.std.specs.Prelude.{All}
use Rattle.describing_set.specs.Sets.{IsDescSetOf}
use Rattle.tree_tests.proofs.cuts.sets_of.Given as goal

abbrev pub invariant-loop-kind : goal.invariant-loop-kind
invariant-loop-kind l = All (IsDescSetOf l.h) l.sets.items
