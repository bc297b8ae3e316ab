use Rattle.shard_codec.proofs.Loops.{rows-more, rows-fails, rows-all}
use Rattle.shard_codec.proofs.reading.rows_at.Goals as goal

pub returns-in-Err : goal.returns-in-Err
returns-in-Err c =
    rows-fails c.args.h.now c.args.len c.args.count c.loop-row._row c.loop-row.rows.items c.loop-row.rest.now c.in-Err.fault _ c.loop-row-test.true c.in-Err.ensures c.loop-row.invariant

pub loop-row-preserved : goal.loop-row-preserved
loop-row-preserved c =
    rows-more c.args.h.now c.args.len c.args.count c.loop-row._row c.loop-row.rows.items _ c.loop-row.rest.now c.in-Ok.row c.in-Ok.after.now _ c.loop-row-test.true c.in-Ok.ensures c.in_ok-push-in-Ok.ensures.items c.loop-row.invariant

pub returns : goal.returns
returns c =
    rows-all c.args.h.now c.args.len c.args.count c.loop-row._row c.loop-row.rows.items c.loop-row.rest.now _ c.loop-row-test.false c.loop-row.invariant
