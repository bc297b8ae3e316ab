use Rattle.std.proofs.Common.{◌≡◌, arith, ap}
use Rattle.cell_stock.specs.Stock.{StockValue}
use Rattle.cell_stock.proofs.Cells.{IsStock-taken}
use Rattle.cell_stock.proofs.stock.Stock.take.Goals as goal

pub invariant_of-self : goal.invariant_of-self
invariant_of-self c =
    let s = c.self.inside in
    let value : StockValue = record { cells = s.cells; free = s.free.items; stamps = s.stamps; ids = s.ids } in
    let stamps : value.stamps ≡ c.args.self.now.stamps = ap (λ (v : StockValue). v.stamps) c.self.view_is in (
      omega (arith, c.self.invariant.0, c.truncate.ensures.capacity),
      rw c.truncate.ensures.items (IsStock-taken value _ _ c.self.invariant.1 (omega (arith, c.requires.stamps, stamps))),
    )
