use Rattle.std.proofs.Common.{◌≡◌, ◌∙◌, true, sym}
use Rattle.server_image.specs.Spots.{is_among}
use Rattle.server_image.proofs.spots.grow_among.Goals as goal

pub returns-then-is_among-clause-grown : goal.returns-then-is_among-clause-grown
returns-then-is_among-clause-grown c =
    let among : is_among c.args.ids.now c.args.spot.now.shard ≡ true = sym c.is_among.ensures ∙ c.if-is_among.true in
    rw among c.grow_box.ensures.grown
