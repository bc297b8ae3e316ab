use Rattle.std.proofs.Common.{◌≡◌, take, vec_capacity}
use Rattle.cell_stock.specs.Stock.{Fills}
use Rattle.cell_stock.proofs.purse.fill.Given as goal

abbrev pub invariant-loop-i : goal.invariant-loop-i
invariant-loop-i l = Fills (take l.i l.cells) l.stamp l.initial.spares.items l.spares.items × (vec_capacity l.spares ≡ vec_capacity l.initial.spares)
