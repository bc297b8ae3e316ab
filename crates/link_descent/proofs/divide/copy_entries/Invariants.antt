use Rattle.std.proofs.Common.{◌≡◌, length, take}
use Rattle.link_descent.proofs.divide.copy_entries.Given as goal

abbrev pub invariant-loop-entry : goal.invariant-loop-entry
invariant-loop-entry l = (l.copies.items ≡ take l.entry-index l.entries) × (length l.copies.items ≡ l.entry-index)
