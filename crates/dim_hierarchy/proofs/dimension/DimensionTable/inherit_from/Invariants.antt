use Rattle.dim_hierarchy.proofs.Marking.{Inheriting}
use Rattle.dim_hierarchy.proofs.dimension.DimensionTable.inherit_from.Given as goal

abbrev pub invariant-loop-number : goal.invariant-loop-number
invariant-loop-number l = Inheriting l.self.tree l.level l.upper l.number l.fn.marks l.marks
