use Rattle.std.proofs.{Common.{◌<◌, length, ap, subst, arith}, lemmas.List.Elements.{All-same, All-weaker}}
use Rattle.hierarchy_split.proofs.Orders.{places_length, places_below, GoesAt, Ordering-more}
use Rattle.hierarchy_split.proofs.order.order.Goals as goal

pub spot-at-requires-clause-order : goal.spot-at-requires-clause-order
spot-at-requires-clause-order c =
    let n = c.loop-place.place in
    let less = c.loop-place-test.true in
    All-same (λ i. i < length c.args.leasts.now) c.as_slice.result.now c.loop-place.order.items c.as_slice.ensures.value
    (All-weaker (λ i. i < n) (λ i. i < length c.args.leasts.now) (λ i h. omega (arith, h, less)) c.loop-place.order.items (places_below n c.loop-place.order.items c.loop-place.invariant.places))

pub insert-requires : goal.insert-requires
insert-requires c =
    let m = places_length c.loop-place.place c.loop-place.order.items c.loop-place.invariant.places in
    let e = ap length c.as_slice.ensures.value in
    (omega arith, (omega (arith, e, c.spot-at.ensures.within), omega (arith, m, c.loop-place-test.true, c.requires)))

pub loop-place-preserved : goal.loop-place-preserved
loop-place-preserved c =
    let xs = c.args.leasts.now in
    let n = c.loop-place.place in
    let goes : GoesAt xs c.as_slice.result.now n c.spot-at.result = record { within = c.spot-at.ensures.within; before = c.spot-at.ensures.before; after = c.spot-at.ensures.after } in
    rw c.insert.ensures.items
    (Ordering-more xs c.loop-place.order.items n c.spot-at.result c.loop-place.invariant
    (subst (λ order. GoesAt xs order n c.spot-at.result) c.as_slice.ensures.value goes))
