use Rattle.dim_hierarchy.specs.Column.{is_marked}
use Rattle.dim_hierarchy.proofs.Sifting.{Sifting}
use Rattle.dim_hierarchy.proofs.column.sift.Given as goal

abbrev pub invariant-loop-at : goal.invariant-loop-at
invariant-loop-at l = Sifting (is_marked l.column l.marks) l.fn.all l.all l.kept l.at
