use Rattle.server_image.specs.Spots.{IsGrown, along}
use Rattle.server_image.proofs.Boxes.{AreDone}
use Rattle.server_image.proofs.spots.grow_each.Given as goal

abbrev pub invariant-loop-place : goal.invariant-loop-place
invariant-loop-place l = AreDone l.h (λ old new. IsGrown l.h (along l.ids l.at old.shard) old new) l.place l.initial.spots.items l.spots.items
