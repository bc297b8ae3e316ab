use Rattle.std.specs.Prelude.{All}
use Rattle.describing_set.specs.Sets.{IsDescSetOf}
use Rattle.tree_tests.proofs.cuts.add_kind.Given as goal

abbrev pub invariant-loop : goal.invariant-loop
invariant-loop l = All (IsDescSetOf l.h) l.sets.items
