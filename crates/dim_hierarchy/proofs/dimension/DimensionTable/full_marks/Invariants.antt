use Rattle.dim_hierarchy.specs.{Marks.AreUpperMarks, declared.filter.Pick.TheVariants.Ids}
use Rattle.dim_hierarchy.proofs.dimension.DimensionTable.full_marks.Given as goal

abbrev pub invariant-loop-level : goal.invariant-loop-level
invariant-loop-level l = AreUpperMarks l.self.tree (Ids l.ids) l.level l.levels.items
