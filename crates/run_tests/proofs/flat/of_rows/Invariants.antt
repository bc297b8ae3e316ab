use Rattle.std.proofs.Common.{◌≡◌, ◌≤◌, take, filter}
use Rattle.dim_hierarchy.specs.Filter.{matches}
use Rattle.measure_agg.specs.Aggregate.{agg}
use Rattle.run_tests.proofs.flat.of_rows.Given as goal

abbrev pub invariant-loop-row : goal.invariant-loop-row
invariant-loop-row l = record {
  total_is : l.total ≡ agg (filter (λ r. matches l.h l.wanted r.at) (take l.row-index l.rows));
  few : l.total.count ≤ l.row-index;
}
