use Rattle.std.proofs.Common.{take}
use Rattle.dim_hierarchy.specs.Marks.{AreListed}
use Rattle.dim_hierarchy.proofs.dimension.DimensionTable.note_all.Given as goal

abbrev pub invariant-loop-id : goal.invariant-loop-id
invariant-loop-id l = AreListed l.self.tree l.level (take l.id-index l.ids) l.marks
