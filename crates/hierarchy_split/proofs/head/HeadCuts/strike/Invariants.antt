use Rattle.std.proofs.Common.{ℕ, ◌≡◌, ◌<◌, length}
use Rattle.hierarchy_split.specs.{Flags.{AreDimCutsOf, AreHeadCutsOf, cuts_at}, Head.{GroupItems, with_other}}
use Rattle.hierarchy_split.proofs.head.HeadCuts.strike.Given as goal

abbrev pub invariant-loop-dim : goal.invariant-loop-dim
invariant-loop-dim l =
    (length l.dims.items ≡ l.dim)
    × ((items : GroupItems) → AreHeadCutsOf l.h items l.self → (k : ℕ) → k < l.dim → AreDimCutsOf l.h (with_other items l.set) k (cuts_at l.dims.items k))
