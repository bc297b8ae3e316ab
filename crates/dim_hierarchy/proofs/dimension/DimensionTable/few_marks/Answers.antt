use Rattle.dim_hierarchy.proofs.FewMarking.{AreNoted-more}
use Rattle.dim_hierarchy.proofs.dimension.DimensionTable.few_marks.Goals as goal

pub loop-id-preserved : goal.loop-id-preserved
loop-id-preserved c =
    AreNoted-more c.args.self.now.tree c.id-item.result c.loop-id.id-index c.args.ids.now c.loop-id.marks c.note_way.new.marks c.loop-id-test.true c.id-item.is c.loop-id.invariant c.in_ok-note_way.ensures
