use Rattle.std.proofs.Common.{◌∙◌, arith}
use Rattle.core_admin.proofs.Collecting.CollectsHere.{one-more}
use Rattle.core_admin.proofs.collects.collect_leaf.Goals as goal

pub loop-place-preserved : goal.loop-place-preserved
loop-place-preserved c = record {
  items = one-more c.args.leaf.now.items c.args.rows.now.items c.loop-place.rows.items c.collect_one.new.rows.items c.loop-place.place (omega arith) c.collect_one.ensures.row c.loop-place.invariant.items;
  capacity = c.collect_one.ensures.capacity ∙ c.loop-place.invariant.capacity;
}
