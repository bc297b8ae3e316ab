use Rattle.std.proofs.Common.{◌≡◌, ◌++◌, take, vec_capacity}
use Rattle.cell_stock.specs.Stock.{cells_of}
use Rattle.cell_stock.proofs.stock.put_back.Given as goal

abbrev pub invariant-loop-spare : goal.invariant-loop-spare
invariant-loop-spare l = (l.free.items ≡ l.initial.free.items ++ cells_of (take l.spare-index l.spares)) × (vec_capacity l.free ≡ vec_capacity l.initial.free)
