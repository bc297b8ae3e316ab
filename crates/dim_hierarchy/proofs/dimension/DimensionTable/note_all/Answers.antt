use Rattle.dim_hierarchy.proofs.Marking.{AreListed-more}
use Rattle.dim_hierarchy.proofs.dimension.DimensionTable.note_all.Goals as goal

pub loop-id-preserved : goal.loop-id-preserved
loop-id-preserved c =
    AreListed-more c.args.self.now.tree c.args.level c.id-item.result c.loop-id.id-index c.args.ids.now c.loop-id.marks c.note.new.marks c.loop-id-test.true c.id-item.is c.loop-id.invariant c.note.ensures
