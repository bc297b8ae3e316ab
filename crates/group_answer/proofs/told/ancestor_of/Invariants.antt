use Rattle.std.proofs.Common.{◌≡◌, take, All}
use Rattle.dim_hierarchy.specs.{Dimension.tree, Tree.up}
use Rattle.group_answer.proofs.told.ancestor_of.Given as goal

-- the concepts so far have the first one's ancestor
abbrev pub invariant-loop-id : goal.invariant-loop-id
invariant-loop-id l = All (λ x. up (tree l.h l.dim) x l.level ≡ l.ancestor) (take l.id-index l.ids)
