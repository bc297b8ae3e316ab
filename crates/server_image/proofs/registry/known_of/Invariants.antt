use Rattle.std.proofs.Common.{take}
use Rattle.server_image.specs.{Image.grown_at, Spots.Grows}
use Rattle.server_image.proofs.registry.known_of.Given as goal

abbrev pub invariant-loop-place : goal.invariant-loop-place
invariant-loop-place l = Grows l.h (grown_at (take l.place l.growths)) l.spots l.spots
