use Rattle.std.proofs.Common.{◌+◌, arith, ap}
use Rattle.dc_node.proofs.Summaries.{JoinLaws, joined-more, joined-few}
use Rattle.dc_node.proofs.summary.agg_of_entries.Goals as goal

pub join-agg-requires : goal.join-agg-requires
join-agg-requires c =
    let laws : JoinLaws = record { append = c.laws.ensures.append; associative = c.laws.ensures.associative; empty_left = c.laws.ensures.empty_left; empty_right = c.laws.ensures.empty_right } in
    let more = joined-more laws c.args.entries.now c.loop-entry.entry-index c.entry-item.result c.loop-entry-test.true c.entry-item.is in
    let few = joined-few laws c.args.entries.now (c.loop-entry.entry-index + 1) in
    omega (arith, c.requires, few, ap (λ a. a.count) more, ap (λ a. a.count) c.loop-entry.invariant)

pub loop-entry-preserved : goal.loop-entry-preserved
loop-entry-preserved c =
    let laws : JoinLaws = record { append = c.laws.ensures.append; associative = c.laws.ensures.associative; empty_left = c.laws.ensures.empty_left; empty_right = c.laws.ensures.empty_right } in
    let more = joined-more laws c.args.entries.now c.loop-entry.entry-index c.entry-item.result c.loop-entry-test.true c.entry-item.is in
    cc
