use Rattle.std.proofs.Common.{◌≡◌, take}
use Rattle.server_image.specs.Image.{planned}
use Rattle.server_image.proofs.image.overlapping.Given as goal

abbrev pub invariant-loop-spot : goal.invariant-loop-spot
invariant-loop-spot l = l.listing ≡ planned l.h l.filter (take l.spot-index l.spots)
