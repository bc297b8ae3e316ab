use Rattle.std.proofs.Common.{◌≡◌, drop}
use Rattle.server_image.specs.Spots.{worker_in}
use Rattle.server_image.proofs.spots.worker_in.Given as goal

abbrev pub invariant-loop-spot : goal.invariant-loop-spot
invariant-loop-spot l = worker_in l.id (drop l.spot-index l.spots) ≡ worker_in l.id l.spots
