use Rattle.dc_node.proofs.Summaries.{IsUnionOf-none, IsUnionOf-more}
use Rattle.dc_node.proofs.summary.set_of_entries.Goals as goal

pub loop-entry-init : goal.loop-entry-init
loop-entry-init c = (IsUnionOf-none c.args.h.now c.empty-set.result c.empty-set.ensures.set_of, c.empty-set.ensures.valid)

pub loop-entry-preserved : goal.loop-entry-preserved
loop-entry-preserved c =
    (IsUnionOf-more c.args.h.now c.args.entries.now c.loop-entry.entry-index c.entry-item.result c.loop-entry.set c.join-set.result c.loop-entry-test.true c.entry-item.is c.join-set.ensures.joined c.loop-entry.invariant.0, c.join-set.ensures.valid)
