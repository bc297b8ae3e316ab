use Rattle.std.proofs.{Common.{refl, length, subst, sym, ap, arith}, lemmas.List.length-map, lemmas.List.Elements.All-push, lemmas.List.FromFn.length-range_with_len}
use Rattle.std.specs.List.{range_with_len}
use Rattle.describing_set.specs.{Sets.IsDescSetOf, Sorted.Ascends, declared.listing.Spot.Spot}
use Rattle.server_image.specs.Registry.{IsFirstSpot}
use Rattle.server_image.proofs.Boxes.{first-ids, range-Ascends, range-more, AllZip-snoc}
use Rattle.server_image.proofs.registry.Registry.new.Goals as goal

pub loop-worker-preserved : goal.loop-worker-preserved
loop-worker-preserved c =
    let h = c.args.h.now in
    let w = c.loop-worker.worker in
    let xs = c.loop-worker.frontier.items in
    let spot : Spot = record { shard = c.from.result; worker = w; set = c.empty.result } in
    let first : IsFirstSpot h w spot = record { shard = c.from.ensures; worker = refl; box = c.empty.ensures.set_of } in
    let snoc = AllZip-snoc (IsFirstSpot h) (range_with_len 0 w) xs w spot c.loop-worker.invariant.0 first in
    let boxes = All-push (λ (s : Spot). IsDescSetOf h s.set) xs spot c.loop-worker.invariant.1 c.empty.ensures.valid in (
      rw (c.in_ok-push.ensures.items, range-more w) snoc,
      rw c.in_ok-push.ensures.items boxes,
    )

pub invariant_of-result : goal.invariant_of-result
invariant_of-result c =
    let w = c.loop-worker.worker in
    let xs = c.loop-worker.frontier.items in
    let ids = first-ids c.args.h.now (range_with_len 0 w) xs c.loop-worker.invariant.0 in
    let n = ap length ids in
    let m = length-map xs (λ (s : Spot). s.shard) in
    let r = length-range_with_len 0 w in (
      record {
        some = omega (arith, n, m, r, c.requires, c.loop-worker-test.false);
        ascending = subst Ascends (sym ids) (range-Ascends 0 w);
      },
      tt,
    )
