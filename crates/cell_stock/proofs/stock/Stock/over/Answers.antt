use Rattle.std.proofs.{Common.{◌-◌, ◌∙◌, ap, arith, length, refl, subst, sym}, lemmas.Iterator.{items_from_collect, YieldsList-from_range}, lemmas.List.FromFn.length-range_with_len}
use Rattle.cell_stock.specs.Stock.{IsStock, StockValue}
use Rattle.cell_stock.proofs.Cells.{IsStock-over}
use Rattle.cell_stock.proofs.stock.Stock.over.Goals as goal

pub invariant_of-result : goal.invariant_of-result
invariant_of-result c =
    let first = c.args.first in
    let cells = c.args.cells in
    let all = items_from_collect c.collect.result c.collect.ensures.ran (YieldsList-from_range first cells (cells - first) refl refl) in
    let items = c.reserve.ensures.items ∙ (rw c.in_ok-free.was at all) in
    let valid = subst (λ xs. IsStock (record { cells = cells; free = xs; stamps = 0; ids = 0 })) (sym items) (IsStock-over first cells) in
    let count = length-range_with_len first (cells - first) in
    (omega (arith, ap length items, count, c.reserve.ensures.len, c.in_ok-reserve.ensures.ok, c.in_ok-free.free.ok), valid)

pub returns : goal.returns
returns c =
    let first = c.args.first in
    let cells = c.args.cells in
    let all = items_from_collect c.collect.result c.collect.ensures.ran (YieldsList-from_range first cells (cells - first) refl refl) in
    ap (λ xs. let s : StockValue = record { cells = cells; free = xs; stamps = 0; ids = 0 } in s) (c.reserve.ensures.items ∙ (rw c.in_ok-free.was at all))
