use Rattle.dim_hierarchy.proofs.NameBytes.{IsBehind}
use Rattle.dim_hierarchy.proofs.row_names.RowNames.get.Given as goal

abbrev pub invariant-loop-before : goal.invariant-loop-before
invariant-loop-before l = IsBehind l.self l._before l.rest
