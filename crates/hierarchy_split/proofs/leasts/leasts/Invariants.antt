use Rattle.std.proofs.Common.{◌≡◌, length, take}
use Rattle.hierarchy_split.specs.Cut.{leasts}
use Rattle.hierarchy_split.proofs.leasts.leasts.Given as goal

abbrev pub invariant-loop-set : goal.invariant-loop-set
invariant-loop-set l = (l.leasts.items ≡ leasts l.h (take l.set-index l.sets) l.dim l.level) × (length l.leasts.items ≡ l.set-index)
