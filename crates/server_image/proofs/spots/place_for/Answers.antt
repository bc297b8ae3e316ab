use Rattle.std.proofs.Common.{◌≡◌, ◌∙◌, ap, length, arith}
use Rattle.std.specs.{List.position_or_len, Prelude.{nat_lt, unwrap_or}}
use Rattle.describing_set.specs.declared.listing.Spot.{Spot}
use Rattle.server_image.proofs.Lists.{unwrap-position, position_or_len-le}
use Rattle.server_image.proofs.spots.place_for.Goals as goal

pub returns-clause-value : goal.returns-clause-value
returns-clause-value c =
    c.unwrap_or.ensures ∙ ap (λ o. unwrap_or o (length c.args.spots.now)) c.find_above.ensures ∙ unwrap-position (λ (x : Spot). nat_lt c.args.id x.shard) c.args.spots.now

pub returns-clause-few : goal.returns-clause-few
returns-clause-few c =
    let p = λ (x : Spot). nat_lt c.args.id x.shard in
    let is : c.unwrap_or.result ≡ position_or_len p c.args.spots.now =
    c.unwrap_or.ensures ∙ ap (λ o. unwrap_or o (length c.args.spots.now)) c.find_above.ensures ∙ unwrap-position p c.args.spots.now in
    let le = position_or_len-le p c.args.spots.now in
    omega (arith, is, le)
