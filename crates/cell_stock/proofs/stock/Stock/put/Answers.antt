use Rattle.std.proofs.Common.{arith, subst, sym}
use Rattle.cell_stock.specs.Stock.{StockValue, IsOut}
use Rattle.cell_stock.proofs.Cells.{room_for_one}
use Rattle.cell_stock.proofs.stock.Stock.put.Goals as goal

pub push_reserved-requires : goal.push_reserved-requires
push_reserved-requires c =
    let s = c.self.inside in
    let value : StockValue = record { cells = s.cells; free = s.free.items; stamps = s.stamps; ids = s.ids } in
    let out : IsOut value c.args.cell = subst (λ v. IsOut v c.args.cell) (sym c.self.view_is) c.requires in
    let room = room_for_one value c.args.cell c.self.invariant.1 out in
    omega (arith, room, c.self.invariant.0, s.free.ok)
