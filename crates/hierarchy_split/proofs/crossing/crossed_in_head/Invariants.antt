use Rattle.std.proofs.Common.{◌≡◌, length, map, take}
use Rattle.hierarchy_split.specs.Crossing.{is_crossed_in_head}
use Rattle.hierarchy_split.proofs.crossing.crossed_in_head.Given as goal

abbrev pub invariant-loop-set : goal.invariant-loop-set
invariant-loop-set l = (l.crossed.items ≡ map (is_crossed_in_head l.h l.head l.dim l.level) (take l.set-index l.head)) × (length l.crossed.items ≡ l.set-index)
