use Rattle.std.proofs.{Common.{◌≡◌, ◌<◌, take, get_or, length, arith}, lemmas.List.{take_more, length-take-le}}
use Rattle.cell_stock.proofs.Cells.{Fills-push}
use Rattle.cell_stock.proofs.purse.fill.Goals as goal

pub loop-i-preserved : goal.loop-i-preserved
loop-i-preserved c =
    let cells = c.args.cells.now in
    let i = c.loop-i.i in
    let lt : i < length cells = c.loop-i-test.true in
    let count : length (take i cells) ≡ i = length-take-le i cells (omega arith) in
    let f = Fills-push (take i cells) c.args.stamp i (get_or cells i 0) c.args.spares.now.items c.loop-i.spares.items c.loop-i.invariant.0 count in
    (rw (take_more cells i 0 lt, c.push_reserved.ensures.items) f, omega (arith, c.loop-i.invariant.1))
