use Rattle.std.proofs.Common.{◌≡◌, length, map, take}
use Rattle.link_descent.proofs.cuts.entry_sets.Given as goal

abbrev pub invariant-loop-entry : goal.invariant-loop-entry
invariant-loop-entry l = (l.sets.items ≡ map (λ e. e.set) (take l.entry-index l.entries)) × (length l.sets.items ≡ l.entry-index)
