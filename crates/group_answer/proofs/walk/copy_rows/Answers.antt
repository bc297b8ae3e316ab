use Rattle.std.proofs.Common.{arith}
use Rattle.group_answer.proofs.Steps.{one-behind}
use Rattle.group_answer.proofs.walk.copy_rows.Goals as goal

pub loop-place-preserved : goal.loop-place-preserved
loop-place-preserved c =
    one-behind c.args.leaf.now.items c.args.rows.now.items c.loop-place.rows.items c.copy_row.new.rows.items c.loop-place.place (omega (arith, c.loop-place-test.true, c.len-place-end.ensures.value)) c.in_ok-copy_row.ensures c.loop-place.invariant
