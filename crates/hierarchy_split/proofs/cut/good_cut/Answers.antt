use Rattle.std.proofs.{Common.{◌-◌, ◌<◌, length, drop, arith}, lemmas.List.Elements.{All-take, All-drop, All-same}}
use Rattle.hierarchy_split.proofs.{Cuts.{cut_length, cut_below, no_good_cut, overlap_read}, cut.good_cut.Goals.{then-k-n-via-then-k-n, then-k-n-via-else-k-n+then-n-k}}
use Rattle.hierarchy_split.proofs.cut.good_cut.Goals as goal

pub overflow_sub-n : goal.overflow_sub-n
overflow_sub-n c =
    let cut = c.in_ok-cut.cut in
    let e = cut_length c.args.h.now c.args.sets.now cut c.in_ok-cut.ensures.some in
    omega (arith, e, c.in_ok-cut.ensures.some.place.between.below, c.from-k.ensures)

pub returns-then-k-n-clause-none : goal.returns-then-k-n-clause-none
returns-then-k-n-clause-none c =
    no_good_cut c.args.h.now c.args.sets.now c.in_ok-cut.cut c.args.dim c.in_ok-cut.ensures.some c.in_ok-cut.ensures.dim
    (λ good. elim c.then-k-n.branch [
      | then-k-n-via-then-k-n w ↦ omega (arith, w.if-k-n.true, good.left, c.from-k.ensures)
      | then-k-n-via-else-k-n+then-n-k w ↦ omega (arith, w.if-n-k.true, good.right, c.from-k.ensures)
    ])

pub overlap-overlap-requires-clause-left : goal.overlap-overlap-requires-clause-left
overlap-overlap-requires-clause-left c =
    let n = length c.args.sets.now in
    All-take (λ place. place < n) c.from-k.result c.as_slice-order.result.now
    (All-same (λ place. place < n) c.as_slice-order.result.now c.in_ok-cut.cut.order.items c.as_slice-order.ensures.value (cut_below c.args.h.now c.args.sets.now c.in_ok-cut.cut c.in_ok-cut.ensures.some))

pub overlap-overlap-requires-clause-right : goal.overlap-overlap-requires-clause-right
overlap-overlap-requires-clause-right c =
    let n = length c.args.sets.now in
    let items = c.as_slice-order.result.now in
    All-take (λ place. place < n) (length items - c.from-k.result) (drop c.from-k.result items)
    (All-drop (λ place. place < n) c.from-k.result items
    (All-same (λ place. place < n) items c.in_ok-cut.cut.order.items c.as_slice-order.ensures.value (cut_below c.args.h.now c.args.sets.now c.in_ok-cut.cut c.in_ok-cut.ensures.some)))

pub returns-then-overlap-n-clause-none : goal.returns-then-overlap-n-clause-none
returns-then-overlap-n-clause-none c =
    let cut = c.in_ok-cut.cut in
    let is = overlap_read c.args.h.now c.args.sets.now cut c.args.dim c.from-k.result c.overlap-overlap.result c.as_slice-order.result.now c.in_ok-cut.ensures.dim c.from-k.ensures c.as_slice-order.ensures.value c.overlap-overlap.ensures.value in
    no_good_cut c.args.h.now c.args.sets.now cut c.args.dim c.in_ok-cut.ensures.some c.in_ok-cut.ensures.dim
    (λ good. omega (arith, is, good.overlap, c.if-overlap-n.true))

pub returns-clause-good : goal.returns-clause-good
returns-clause-good c =
    let cut = c.in_ok-cut.cut in
    let is = overlap_read c.args.h.now c.args.sets.now cut c.args.dim c.from-k.result c.overlap-overlap.result c.as_slice-order.result.now c.in_ok-cut.ensures.dim c.from-k.ensures c.as_slice-order.ensures.value c.overlap-overlap.ensures.value in
    record {
      left = omega (arith, c.from-k.ensures, c.if-k-n.false);
      right = omega (arith, c.from-k.ensures, c.if-n-k.false);
      overlap = omega (arith, is, c.if-overlap-n.false);
    }
