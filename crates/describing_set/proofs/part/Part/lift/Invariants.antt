use Rattle.std.proofs.Common.{◌≡◌, ◌≤◌, length, take}
use Rattle.dim_hierarchy.specs.Dimension.{tree}
use Rattle.describing_set.specs.Part.{ancestors}
use Rattle.describing_set.proofs.part.Part.lift.Given as goal

abbrev pub invariant-loop-id : goal.invariant-loop-id
invariant-loop-id l = (l.ids.items ≡ ancestors (tree l.h l.dim) l.level (take l.id-index l.id-items)) × (length l.ids.items ≤ l.id-index)
