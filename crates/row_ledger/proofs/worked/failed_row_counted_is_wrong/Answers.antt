use Rattle.std.proofs.Common.{◌≡◌, length, ap, arith}
use Rattle.measure_agg.specs.Aggregate.{Aggregate}
use Rattle.row_ledger.specs.Worked.{row}
use Rattle.row_ledger.proofs.worked.failed_row_counted_is_wrong.Goals as goal

pub returns : goal.returns
returns c right =
    let allowed = right.each.1.0.allowed in
    let some : 1 ≡ length allowed.rows = ap (λ (a : Aggregate). a.count) allowed.total in
    let usable = allowed.usable 0 row (omega arith) in
    omega (arith, usable.1)
