use Rattle.std.proofs.Common.{◌∙◌, ap, length}
use Rattle.std.specs.Prelude.{◌==◌, unwrap_or}
use Rattle.describing_set.specs.declared.listing.Spot.{Spot}
use Rattle.server_image.proofs.Lists.{unwrap-position}
use Rattle.server_image.proofs.spots.place_of.Goals as goal

pub returns : goal.returns
returns c =
    c.unwrap_or.ensures ∙ ap (λ o. unwrap_or o (length c.args.spots.now)) c.find.ensures ∙ unwrap-position (λ (x : Spot). x.shard == c.args.id) c.args.spots.now
