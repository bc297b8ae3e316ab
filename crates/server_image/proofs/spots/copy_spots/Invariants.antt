use Rattle.std.proofs.Common.{◌≡◌, ◌++◌, take, vec_capacity}
use Rattle.server_image.proofs.spots.copy_spots.Given as goal

abbrev pub invariant-loop-spot : goal.invariant-loop-spot
invariant-loop-spot l = (l.into.items ≡ l.initial.into.items ++ take l.spot-index l.spots) × (vec_capacity l.into ≡ vec_capacity l.initial.into)
