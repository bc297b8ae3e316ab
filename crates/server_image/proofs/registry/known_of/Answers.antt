use Rattle.std.proofs.Common.{subst, sym}
use Rattle.dim_hierarchy.specs.Row.{IsCoordOf}
use Rattle.server_image.specs.declared.image.Growth.{Growth}
use Rattle.server_image.proofs.Boxes.{Grows-nothing, noted-next}
use Rattle.server_image.proofs.registry.known_of.Goals as goal

pub loop-place-init : goal.loop-place-init
loop-place-init c = Grows-nothing c.args.h.now c.args.spots.now

pub keeps_spot-requires-clause-at : goal.keeps_spot-requires-clause-at
keeps_spot-requires-clause-at c =
    subst (λ (g : Growth). IsCoordOf c.args.h.now g.at) (sym c.index-growths-place.is) (c.requires.growths c.loop-place.place c.index-growths-place.result c.loop-place-test.true)

pub loop-place-preserved : goal.loop-place-preserved
loop-place-preserved c =
    noted-next c.args.h.now c.args.growths.now c.loop-place.place c.index-growths-place.result c.args.spots.now c.args.spots.now c.args.spots.now
    c.loop-place-test.true c.index-growths-place.is c.requires.growths c.loop-place.invariant c.if-not-keeps_spot.ensures
