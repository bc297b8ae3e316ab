use Rattle.std.proofs.Common.{◌≡◌, length, refl, ap, arith}
use Rattle.std.specs.Prelude.{Contains}
use Rattle.dim_hierarchy.specs.Tree.{is_under, way_up}
use Rattle.measure_agg.specs.Aggregate.{Aggregate}
use Rattle.row_ledger.specs.Worked.{site, row, for_de, nothing}
use Rattle.row_ledger.proofs.Answering.{IsAllowed-right}
use Rattle.row_ledger.proofs.worked_script.whole_history_without_the_row_is_wrong.Goals as goal

pub returns : goal.returns
unfolding is_under way_up
returns c right =
    let allowed = IsAllowed-right site _ _ 10 nothing right.each.1.1.1.0 (record { server = 1; filter = for_de }) refl in
    let counted : Contains allowed.rows row = allowed.known 0 row (omega arith) refl in
    let none : 0 ≡ length allowed.rows = ap (λ (a : Aggregate). a.count) allowed.total in
    omega (arith, counted.1)
