use Rattle.std.proofs.Common.{take}
use Rattle.describing_set.specs.{DescSet.IsSetOf, Sets.IsDescSetOf}
use Rattle.dc_node.specs.{Columns.rows_in_columns, Summary.coords}
use Rattle.dc_node.proofs.columns.Columns.set.Given as goal

-- the rows so far
abbrev pub invariant-loop-place : goal.invariant-loop-place
invariant-loop-place l = IsSetOf l.h (coords (take l.place (rows_in_columns l.self l.count))) l.set × IsDescSetOf l.h l.set
