use Rattle.std.proofs.Common.{take}
use Rattle.dim_hierarchy.specs.FewMarks.{AreNoted}
use Rattle.dim_hierarchy.proofs.dimension.DimensionTable.few_marks.Given as goal

abbrev pub invariant-loop-id : goal.invariant-loop-id
invariant-loop-id l = AreNoted l.self.tree (take l.id-index l.ids) l.marks
