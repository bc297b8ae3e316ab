use Rattle.std.proofs.Common.{◌≡◌, map, take}
use Rattle.volap_cell.specs.ImageKinds.{query_part}
use Rattle.core_image.proofs.queries.parts_for.Given as goal

abbrev pub invariant-loop-spot : goal.invariant-loop-spot
invariant-loop-spot l = l.parts.items ≡ map (query_part l.filter) (take l.spot-index l.spot-items)
