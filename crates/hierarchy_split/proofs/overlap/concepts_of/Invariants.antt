use Rattle.std.proofs.Common.{◌≡◌, ◌*◌, ◌≤◌, length, take}
use Rattle.hierarchy_split.specs.Cut.{concepts_of}
use Rattle.hierarchy_split.proofs.overlap.concepts_of.Given as goal

abbrev pub invariant-loop-place : goal.invariant-loop-place
invariant-loop-place l = (l.concepts.items ≡ concepts_of l.h l.sets l.dim l.level (take l.place-index l.places)) × (length l.concepts.items ≤ 6 * l.place-index)
