use Rattle.std.proofs.Common.{take}
use Rattle.server_image.specs.{Image.grown_at, Spots.{AreBoxes, Grows}}
use Rattle.server_image.proofs.registry.grow_from.Given as goal

abbrev pub invariant-loop-place : goal.invariant-loop-place
invariant-loop-place l =
    Grows l.h (grown_at (take l.place l.growths)) l.initial.spots.items l.spots.items
    × AreBoxes l.h l.spots.items
