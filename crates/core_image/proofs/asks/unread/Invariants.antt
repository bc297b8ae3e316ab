use Rattle.std.proofs.Common.{◌≡◌, map, take}
use Rattle.volap_cell.specs.ImageKinds.{unread_load}
use Rattle.core_image.proofs.asks.unread.Given as goal

-- the loads of the spots so far
abbrev pub invariant-loop-spot : goal.invariant-loop-spot
invariant-loop-spot l = l.loads ≡ map unread_load (take l.spot-index l.spots)
