use Rattle.std.proofs.Common.{◌<◌, length, arith}
use Rattle.server_image.specs.Spots.{IsGrown, along}
use Rattle.server_image.proofs.Boxes.{done-more}
use Rattle.server_image.proofs.spots.grow_each.Goals as goal

pub loop-place-preserved : goal.loop-place-preserved
loop-place-preserved c =
    let l = c.loop-place in
    let lt : l.place < length l.spots.items = omega (arith, l.invariant.3, c.loop-place-test.true, c.len-place-end.ensures) in
    done-more c.args.h.now (λ old new. IsGrown c.args.h.now (along c.args.ids.now c.args.at.now old.shard) old new) l.place c.args.spots.now.items l.spots.items c.index_mut.result.now c.grow_among.new.spot lt
    c.index_mut.ensures.value c.grow_among.ensures.grown c.grow_among.ensures.valid l.invariant
