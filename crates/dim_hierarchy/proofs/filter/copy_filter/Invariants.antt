use Rattle.std.proofs.Common.{◌≡◌, take}
use Rattle.dim_hierarchy.proofs.filter.copy_filter.Given as goal

abbrev pub invariant-loop-pick : goal.invariant-loop-pick
invariant-loop-pick l = l.copy ≡ take l.pick-index l.pick-items
