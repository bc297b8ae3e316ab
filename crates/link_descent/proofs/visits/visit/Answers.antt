use Rattle.std.proofs.lemmas.List.Elements.{All-same}
use Rattle.describing_set.specs.Sets.{IsDescSetOf}
use Rattle.link_descent.proofs.visits.visit.Goals as goal

pub visit_entries-requires-clause-sets : goal.visit_entries-requires-clause-sets
visit_entries-requires-clause-sets c =
    All-same (λ e. IsDescSetOf c.args.wanted.now.hierarchy e.set) c.as_slice.result.now c.in-Entries.entries.items c.as_slice.ensures.value (rw c.in-Entries.is at c.requires.body)
