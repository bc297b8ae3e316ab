use Rattle.std.proofs.Common.{◌≡◌, take}
use Rattle.measure_agg.specs.Aggregate.{agg}
use Rattle.measure_agg.proofs.agg.Agg.of_rows.Given as goal

-- the rows so far
abbrev pub invariant-loop-row : goal.invariant-loop-row
invariant-loop-row l = l.all ≡ agg (take l.row-index l.rows)
