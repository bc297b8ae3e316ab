use Rattle.std.proofs.Common.{◌≡◌, ◌≤◌, map, take}
use Rattle.measure_agg.specs.Aggregate.{agg}
use Rattle.dc_node.specs.Columns.{row_at}
use Rattle.dc_node.proofs.columns.Columns.total_at.Given as goal

abbrev pub invariant-loop-place : goal.invariant-loop-place
invariant-loop-place l = record {
  total_is : l.total ≡ agg (map (row_at l.self) (take l.place-index l.places));
  few : l.total.count ≤ l.place-index;
}
