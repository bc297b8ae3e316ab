use Rattle.std.proofs.{Common.{◌≡◌, ◌∙◌, ap, length, subst, sym, arith}, lemmas.List.length-take-le}
use Rattle.dim_hierarchy.specs.Rows.{IsRowOf}
use Rattle.measure_agg.specs.Aggregate.{Aggregate}
use Rattle.core_admin.proofs.finishes.queue_all.Goals as goal

pub enqueue-requires-clause-row : goal.enqueue-requires-clause-row
enqueue-requires-clause-row c = subst (IsRowOf c.args.h.now) (sym c.row-item.is) (c.requires.rows.valid c.loop-row.row-index c.row-item.result c.loop-row-test.true)

pub enqueue-requires-clause-queue : goal.enqueue-requires-clause-queue
enqueue-requires-clause-queue c = c.loop-row.invariant.valid

pub enqueue-requires-clause-few : goal.enqueue-requires-clause-few
enqueue-requires-clause-few c =
    let count : c.loop-row.gate.queue.agg.count ≡ length c.loop-row.gate.queue.rows = ap (λ (a : Aggregate). a.count) c.loop-row.invariant.valid.summary.agg in
    let lt = c.loop-row-test.true in
    let long = ap length c.loop-row.invariant.so_far ∙ length-take-le c.loop-row.row-index c.args.rows.now (omega (arith, lt)) in
    let few = c.requires.rows.few in
    omega (arith, count, long, few, lt)
