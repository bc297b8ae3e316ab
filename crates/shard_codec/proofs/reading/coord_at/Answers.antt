use Rattle.std.proofs.{Common.{length, arith}, lemmas.Result.err_from_is_err_and}
use Rattle.shard_codec.proofs.Loops.{coord-more, coord-fails, coord-all}
use Rattle.shard_codec.proofs.reading.coord_at.Goals as goal

pub returns-in_err-id : goal.returns-in_err-id
returns-in_err-id c =
    let p = err_from_is_err_and c.from_residual.result c.from_residual.ensures.1 in
    rw (p.1, p.2) (coord-fails c.args.h.now c.args.len (length c.args.h.now) c.loop-dim.dim c.loop-dim.at c.loop-dim.rest.now c.in_err-id.field-0.0 _ (omega (arith, c.dims-dim-end.ensures.value)) c.in_err-id.ensures c.loop-dim.invariant)

pub loop-dim-preserved : goal.loop-dim-preserved
loop-dim-preserved c =
    rw c.from.ensures (coord-more c.args.h.now c.args.len (length c.args.h.now) c.loop-dim.dim c.loop-dim.at c.loop-dim.rest.now c.in_ok-id.id c.in_ok-id.after.now _ (omega (arith, c.dims-dim-end.ensures.value)) c.in_ok-id.ensures c.loop-dim.invariant)

pub returns : goal.returns
returns c =
    coord-all c.args.h.now c.args.len (length c.args.h.now) c.loop-dim.dim c.loop-dim.at c.loop-dim.rest.now _ (omega (arith, c.dims-dim-end.ensures.value)) c.loop-dim.invariant
