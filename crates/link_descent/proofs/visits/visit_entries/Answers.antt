use Rattle.std.proofs.Common.{arith}
use Rattle.describing_set.specs.Filter.{is_inside}
use Rattle.link_descent.proofs.VisitEntries.{joined_more, joined_room, noted_more}
use Rattle.link_descent.proofs.visits.visit_entries.Goals as goal

pub visit_entry-requires-clause-few : goal.visit_entry-requires-clause-few
visit_entry-requires-clause-few c =
    let few = joined_room c.agg_laws.ensures.joined_append (λ e. is_inside c.args.wanted.now.hierarchy e.set c.args.wanted.now.picks) c.args.entries.now c.loop-entry.entry-index c.entry-item.result c.args.total.now c.loop-entry.total c.loop-entry-test.true c.entry-item.is c.loop-entry.invariant.0 in
    omega (arith, few, c.requires.few)

pub loop-entry-preserved : goal.loop-entry-preserved
loop-entry-preserved c =
    let h = c.args.wanted.now.hierarchy in
    let f = c.args.wanted.now.picks in
    let es = c.args.entries.now in
    let i = c.loop-entry.entry-index in
    let e = c.entry-item.result in
    let inv = c.loop-entry.invariant in (
      joined_more c.agg_laws.ensures.joined_append c.laws.ensures.associative c.laws.ensures.empty_right (λ x. is_inside h x.set f) es i e c.args.total.now c.loop-entry.total c.visit_entry.new.total
          c.loop-entry-test.true c.entry-item.is inv.0 c.visit_entry.ensures.total,
      noted_more h f es i e c.args.todo.now.items c.loop-entry.todo.items c.visit_entry.new.todo.items c.loop-entry-test.true c.entry-item.is inv.1 c.visit_entry.ensures.todo,
      omega (arith, inv.2, c.visit_entry.ensures.room),
    )
