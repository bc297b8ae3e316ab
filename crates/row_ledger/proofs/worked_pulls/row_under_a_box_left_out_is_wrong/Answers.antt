use Rattle.std.proofs.Common.{◌≡◌, ℕ, length, refl, ap, arith}
use Rattle.std.specs.Prelude.{Contains}
use Rattle.dim_hierarchy.specs.{Tree.{is_under, way_up}, declared.row.Row.Row}
use Rattle.dim_hierarchy.specs.Tree as way
use Rattle.measure_agg.specs.Aggregate.{Aggregate}
use Rattle.row_ledger.specs.{Worked.{site, row, for_de, once}, WorkedPulls.second}
use Rattle.list_words.proofs.Elements.{only}
use Rattle.row_ledger.proofs.Answering.{IsAllowed-right}
use Rattle.row_ledger.proofs.worked_pulls.row_under_a_box_left_out_is_wrong.Goals as goal

-- it counts both rows, which have different numbers, so it counts two
pub returns : goal.returns
unfolding is_under way_up way.up way.climb
returns c right =
    let allowed = IsAllowed-right site _ _ 12 once right.each.0 (record { server = 1; filter = for_de }) refl in
    let first : Contains allowed.rows row = allowed.known 0 row (omega arith) refl in
    let other : Contains allowed.rows second = allowed.known 1 second (omega arith) refl in
    let one : 1 ≡ length allowed.rows = ap (λ (a : Aggregate). a.count) allowed.total in
    let same : row ≡ second = only allowed.rows row second one first other in
    let number : ◌≡◌ {A = ℕ} 2 10 = ap (λ (r : Row). r.no) same in
    omega arith
