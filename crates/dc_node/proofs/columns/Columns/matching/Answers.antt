use Rattle.std.proofs.Common.{◌<◌, ◌≤◌, ◌∙◌, [], length, map, get_or, sym, ap, arith}
use Rattle.measure_agg.specs.Aggregate.{agg}
use Rattle.dc_node.specs.Columns.{row_at}
use Rattle.dc_node.proofs.Keeping.{Keeping-first, Keeping-more, Keeping-all, leaves}
use Rattle.dc_node.proofs.columns.Columns.matching.Goals as goal

pub loop-dim-init : goal.loop-dim-init
loop-dim-init c =
    let v = c.args.wanted.now in
    Keeping-first v.hierarchy v.picks c.args.self.now c.args.count c.first-places.result c.first-places.ensures

pub keep-requires-clause-leaves : goal.keep-requires-clause-leaves
keep-requires-clause-leaves c =
    let h = c.args.wanted.now.hierarchy in
    let cs = c.args.self.now.concepts in
    let lt : c.loop-dim.dim < length h = omega (arith, c.loop-dim-test.true, c.dims-dim-end.ensures.value) in
    leaves h c.args.self.now c.args.count c.loop-dim.dim (get_or cs c.from.result []) c.loop-dim.places c.requires.rows c.dims-dim-end.ensures.valid.hierarchy.few lt
    (ap (λ k. get_or cs k []) c.from.ensures) c.loop-dim.invariant.within

pub loop-dim-preserved : goal.loop-dim-preserved
loop-dim-preserved c =
    let v = c.args.wanted.now in
    let cs = c.args.self.now.concepts in
    let valid = c.dims-dim-end.ensures.valid in
    let lt : c.loop-dim.dim < length v.hierarchy = omega (arith, c.loop-dim-test.true, c.dims-dim-end.ensures.value) in
    Keeping-more v.hierarchy v.picks c.args.self.now c.args.count c.loop-dim.dim (get_or cs c.from.result []) c.loop-dim.places c.keep.new.places valid.hierarchy.few valid.count lt
    (ap (λ k. get_or cs k []) c.from.ensures) c.keep.ensures c.loop-dim.invariant

pub returns : goal.returns
returns c =
    let v = c.args.wanted.now in
    let all : length v.hierarchy ≤ c.loop-dim.dim = omega (arith, c.loop-dim-test.false, c.dims-dim-end.ensures.value) in
    c.total_at.ensures ∙ ap (λ ps. agg (map (row_at c.args.self.now) ps)) c.as_slice.ensures.value
    ∙ sym (Keeping-all v.hierarchy v.picks c.args.self.now c.args.count c.loop-dim.dim c.loop-dim.places c.dims-dim-end.ensures.valid.count all c.loop-dim.invariant)
