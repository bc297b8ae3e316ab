use Rattle.std.proofs.Common.{◌≡◌, ◌+◌, map, take}
use Rattle.dim_hierarchy.specs.{Dimension.tree, Tree.up}
use Rattle.describing_set.specs.DescSet.{part_at}
use Rattle.hierarchy_split.specs.Order.{least}
use Rattle.hierarchy_split.proofs.leasts.least.Given as goal

abbrev pub invariant-loop-id : goal.invariant-loop-id
invariant-loop-id l = l.least ≡ least (map (λ id. up (tree l.h l.dim) id l.level) (take (l.id-index + 1) (part_at l.set l.dim).ids.items))
