use Rattle.std.proofs.Common.{◌≡◌, ◌+◌, ◌≤◌, ◌++◌, take}
use Rattle.measure_agg.specs.Joining.{join}
use Rattle.dc_node.specs.Summary.{joined, aggs}
use Rattle.link_descent.specs.Visit.{taken, noted}
use Rattle.link_descent.proofs.visits.visit_entries.Given as goal

-- the entries so far
abbrev pub invariant-loop-entry : goal.invariant-loop-entry
invariant-loop-entry l =
    (l.total ≡ join l.initial.total (joined (aggs (taken l.wanted.hierarchy l.wanted.picks (take l.entry-index l.entries)))))
    × (l.todo.items ≡ l.initial.todo.items ++ noted l.wanted.hierarchy l.wanted.picks (take l.entry-index l.entries))
    × (l.initial.todo.room ≤ l.todo.room + l.entry-index)
