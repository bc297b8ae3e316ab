use Rattle.std.proofs.Common.{arith, length, ap, subst, sym}
use Rattle.cell_stock.specs.Stock.{StockValue, AreOut}
use Rattle.cell_stock.proofs.Cells.{room_for_given}
use Rattle.cell_stock.proofs.stock.Stock.give.Goals as goal

pub put_back-requires : goal.put_back-requires
put_back-requires c =
    let s = c.self.inside in
    let value : StockValue = record { cells = s.cells; free = s.free.items; stamps = s.stamps; ids = s.ids } in
    let spares = c.args.purse.now.spares in
    let out : AreOut value spares = subst (λ v. AreOut v spares) (sym c.self.view_is) c.requires in
    let room = room_for_given value spares c.self.invariant.1 out in
    omega (arith, room, c.self.invariant.0, ap length c.spares.ensures, s.free.ok)
