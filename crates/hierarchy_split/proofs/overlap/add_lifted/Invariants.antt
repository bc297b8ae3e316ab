use Rattle.std.proofs.Common.{◌≡◌, ◌+◌, ◌++◌, length, map, take}
use Rattle.dim_hierarchy.specs.{Dimension.tree, Tree.up}
use Rattle.hierarchy_split.proofs.overlap.add_lifted.Given as goal

abbrev pub invariant-loop-id : goal.invariant-loop-id
invariant-loop-id g l =
    (l.concepts.items ≡ l.initial.concepts.items ++ map (λ id. up (tree l.h l.dim) id l.level) (take l.id-index l.id-items))
    × (length l.concepts.items ≡ length l.initial.concepts.items + l.id-index)
