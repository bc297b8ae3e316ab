use Rattle.std.proofs.Common.{rules}
use Rattle.dim_hierarchy.proofs.Marking.{Inheriting-more}
use Rattle.dim_hierarchy.proofs.dimension.DimensionTable.inherit_from.Goals as goal

pub loop-number-preserved : goal.loop-number-preserved
loop-number-preserved c =
    Inheriting-more c.args.self.now.tree c.args.level c.args.upper.now c.loop-number.number c.new-id.result c.args.marks.now c.loop-number.marks c.inherit_one.new.marks
    (search rules) c.new-id.ensures (search rules) c.inherit_one.ensures c.loop-number.invariant
