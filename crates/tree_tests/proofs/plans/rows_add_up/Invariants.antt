use Rattle.std.proofs.Common.{◌≡◌, take}
use Rattle.balancer.specs.Turn.{rows_of_all}
use Rattle.tree_tests.proofs.plans.rows_add_up.Given as goal

abbrev pub invariant-loop-load : goal.invariant-loop-load
invariant-loop-load l = l.rows ≡ rows_of_all (take l.load-index l.loads)
