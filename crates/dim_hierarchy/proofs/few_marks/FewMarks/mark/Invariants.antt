use Rattle.std.proofs.Common.{◌≡◌}
use Rattle.dim_hierarchy.specs.FewMarks.{mark_down}
use Rattle.dim_hierarchy.proofs.few_marks.FewMarks.mark.Given as goal

abbrev pub invariant-loop-level : goal.invariant-loop-level
invariant-loop-level l = l.mark ≡ mark_down l.self.marks l.lineage l.level
