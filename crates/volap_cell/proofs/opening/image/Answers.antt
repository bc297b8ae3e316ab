use Rattle.std.proofs.Common.{List, subst, sym}
use Rattle.describing_set.specs.{Sorted.Ascends, declared.listing.Spot.Spot}
use Rattle.server_image.specs.Spots.{spot_ids}
use Rattle.volap_cell.proofs.opening.image.Goals as goal

pub new-requires-clause-ascending : goal.new-requires-clause-ascending
new-requires-clause-ascending c = subst (λ (spots : List Spot). Ascends (spot_ids spots)) (sym c.in_ok-listing.ensures.value) c.frontier.ensures.valid.ascending
