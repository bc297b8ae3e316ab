use Rattle.std.proofs.{Common.{take, subst, sym, arith}, lemmas.List.take_all}
use Rattle.dim_hierarchy.specs.Row.{IsCoordOf}
use Rattle.server_image.specs.{Image.grown_at, Spots.Grows, declared.image.Growth.Growth}
use Rattle.server_image.proofs.Boxes.{Grows-ascends, noted-next}
use Rattle.server_image.proofs.registry.grow_from.Goals as goal

pub loop-place-init : goal.loop-place-init
loop-place-init c = (c.requires.known, c.requires.boxes)

pub grow_spot-requires-clause-ascending : goal.grow_spot-requires-clause-ascending
grow_spot-requires-clause-ascending c =
    Grows-ascends c.args.h.now (grown_at (take c.loop-place.place c.args.growths.now)) c.args.spots.now.items c.loop-place.spots.items c.loop-place.invariant.0 c.requires.ascending

pub grow_spot-requires-clause-at : goal.grow_spot-requires-clause-at
grow_spot-requires-clause-at c =
    subst (λ (g : Growth). IsCoordOf c.args.h.now g.at) (sym c.index-growths-place.is) (c.requires.growths c.loop-place.place c.index-growths-place.result c.loop-place-test.true)

pub loop-place-preserved : goal.loop-place-preserved
loop-place-preserved c = (
  noted-next c.args.h.now c.args.growths.now c.loop-place.place c.index-growths-place.result c.args.spots.now.items c.loop-place.spots.items c.grow_spot.new.spots.items
      c.loop-place-test.true c.index-growths-place.is c.requires.growths c.loop-place.invariant.0 c.grow_spot.ensures.grown,
  c.grow_spot.ensures.boxes,
)

pub returns-clause-grown : goal.returns-clause-grown
returns-clause-grown c =
    subst (λ l. Grows c.args.h.now (grown_at l) c.args.spots.now.items c.loop-place.spots.items)
    (take_all c.loop-place.place c.args.growths.now (omega (arith, c.loop-place-test.false))) c.loop-place.invariant.0
