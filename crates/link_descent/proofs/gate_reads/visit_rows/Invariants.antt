use Rattle.std.proofs.Common.{◌≡◌, ◌+◌, ◌≤◌, take}
use Rattle.measure_agg.specs.{Aggregate.agg, Joining.join}
use Rattle.link_descent.specs.Visit.{matching}
use Rattle.link_descent.proofs.gate_reads.visit_rows.Given as goal

-- the rows so far
abbrev pub invariant-loop-row : goal.invariant-loop-row
invariant-loop-row l =
    (l.total ≡ join l.initial.total (agg (matching l.wanted.hierarchy l.wanted.picks (take l.row-index l.rows)))) × (l.total.count ≤ l.initial.total.count + l.row-index)
