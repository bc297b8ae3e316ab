use Rattle.std.proofs.Common.{List, All, ◌≢◌, subst}
use Rattle.describing_set.specs.declared.listing.Spot.{Spot}
use Rattle.server_image.specs.Spots.{IsAt}
use Rattle.server_image.proofs.Boxes.{Grows-at, Grows-absent}
use Rattle.server_image.proofs.spots.grow_spot.Goals as goal

pub returns-in-Ok-clause-grown : goal.returns-in-Ok-clause-grown
returns-in-Ok-clause-grown c =
    let found = subst (λ (spots : List Spot). IsAt c.args.id spots c.in-Ok.place) c.deref.ensures.value c.in-Ok.ensures.found in
    Grows-at c.args.h.now c.args.at.now c.args.id c.args.spots.now.items c.in-Ok.place c.index_mut.result.now c.grow_box.new.spot c.requires.ascending found.within
    c.index_mut.ensures.value (found.shard c.index_mut.result.now) c.grow_box.ensures.grown

pub returns-in_default-clause-grown : goal.returns-in_default-clause-grown
returns-in_default-clause-grown c =
    Grows-absent c.args.h.now c.args.at.now c.args.id c.args.spots.now.items
    (subst (λ (spots : List Spot). All (λ s. s.shard ≢ c.args.id) spots) c.deref.ensures.value c.in_default.ensures.absent)
