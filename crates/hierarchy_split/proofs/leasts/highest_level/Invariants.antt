use Rattle.std.proofs.Common.{ℕ, ◌<◌, ◌≤◌, get_or}
use Rattle.describing_set.specs.{DescSet.part_at, declared.set.DescSet.DescSet}
use Rattle.hierarchy_split.specs.Cut.{IsAbove}
use Rattle.hierarchy_split.proofs.leasts.highest_level.Given as goal

abbrev pub invariant-loop-set : goal.invariant-loop-set
invariant-loop-set l =
    ((k : ℕ) (d : DescSet) → k < l.set-index → l.level ≤ (part_at (get_or l.sets k d) l.dim).level)
    × ((level : ℕ) → IsAbove l.sets l.dim level → level ≤ l.level)
    × (l.level ≤ 8)
