use Rattle.std.proofs.Common.{map, take}
use Rattle.describing_set.specs.Sets.{IsDescSetOf}
use Rattle.dc_node.specs.Summary.{IsUnionOf}
use Rattle.dc_node.proofs.summary.set_of_entries.Given as goal

-- the entries so far
abbrev pub invariant-loop-entry : goal.invariant-loop-entry
invariant-loop-entry l = IsUnionOf l.h (map (λ e. e.set) (take l.entry-index l.entries)) l.set × IsDescSetOf l.h l.set
