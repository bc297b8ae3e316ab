use Rattle.dim_hierarchy.specs.declared.filter.Pick.TheVariants.{Ids}
use Rattle.dim_hierarchy.proofs.Marking.{AreUpperMarks-more}
use Rattle.dim_hierarchy.proofs.dimension.DimensionTable.full_marks.Goals as goal

pub loop-level-preserved : goal.loop-level-preserved
loop-level-preserved c =
    rw c.in_ok-push.ensures.items
    (AreUpperMarks-more c.args.self.now.tree (Ids c.args.ids.now) c.loop-level.level c.loop-level.levels.items c.in_ok-marks.marks c.loop-level.invariant c.in_ok-marks.ensures)
