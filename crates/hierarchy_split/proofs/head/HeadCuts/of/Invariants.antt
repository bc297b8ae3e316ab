use Rattle.std.proofs.Common.{ℕ, ◌≡◌, ◌<◌, length}
use Rattle.hierarchy_split.specs.{Flags.{AreDimCutsOf, cuts_at}, Head.head_items}
use Rattle.hierarchy_split.proofs.head.HeadCuts.of.Given as goal

abbrev pub invariant-loop-dim : goal.invariant-loop-dim
invariant-loop-dim l =
    (length l.dims.items ≡ l.dim) × ((k : ℕ) → k < l.dim → AreDimCutsOf l.h (head_items l.sets) k (cuts_at l.dims.items k))
