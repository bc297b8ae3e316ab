use Rattle.std.proofs.Common.{◌≡◌, List, [], ◌∷◌, ◌++◌, length, map, take}
use Rattle.describing_set.specs.declared.set.DescSet.{DescSet}
use Rattle.hierarchy_split.specs.Crossing.{is_crossed}
use Rattle.hierarchy_split.proofs.crossing.crossed_with.Given as goal

abbrev pub invariant-loop-i : goal.invariant-loop-i
invariant-loop-i l =
    ((others : List DescSet) → l.crossed ≡ map (is_crossed l.h l.head others l.dim l.level) l.head
    → l.now.items ≡ map (is_crossed l.h l.head (others ++ l.other ∷ []) l.dim l.level) (take l.i l.head))
    × (length l.now.items ≡ l.i)
