use Rattle.dim_hierarchy.proofs.FewMarking.{NotesAbove}
use Rattle.dim_hierarchy.proofs.dimension.DimensionTable.note_way.Given as goal

abbrev pub invariant-loop-level : goal.invariant-loop-level
invariant-loop-level l = NotesAbove l.self.tree l.id l.level l.fn.marks l.marks
