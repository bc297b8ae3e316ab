use Rattle.std.proofs.Common.{◌≡◌, take}
use Rattle.dc_node.specs.Summary.{aggs, joined}
use Rattle.dc_node.proofs.summary.agg_of_entries.Given as goal

-- the entries so far
abbrev pub invariant-loop-entry : goal.invariant-loop-entry
invariant-loop-entry l = l.agg ≡ joined (aggs (take l.entry-index l.entries))
