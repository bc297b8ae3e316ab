use Rattle.dim_hierarchy.specs.FewMarks.{has_few_mark}
use Rattle.dim_hierarchy.proofs.Sifting.{Sifting}
use Rattle.dim_hierarchy.proofs.column.sift_few.Given as goal

abbrev pub invariant-loop-at : goal.invariant-loop-at
invariant-loop-at l = Sifting (has_few_mark l.column l.marks) l.fn.all l.all l.kept l.at
