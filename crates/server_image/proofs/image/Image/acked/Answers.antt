use Rattle.std.proofs.{Common.{subst, sym, ap, arith}, lemmas.List.Elements.All-push}
use Rattle.dim_hierarchy.specs.Row.{IsCoordOf}
use Rattle.server_image.specs.{Image.{ImageValue, AreGrowths}, Spots.along, declared.image.Growth.Growth}
use Rattle.server_image.proofs.Boxes.{Grows-ascends, Grows-length}
use Rattle.server_image.proofs.image.Image.acked.Goals as goal

pub invariant_of-self : goal.invariant_of-self
invariant_of-self c =
    let h = c.args.h.now in
    let grown = along c.as_slice-ids.result.now c.args.at.now in
    let before = c.self.inside.spots.items in
    let now = c.grow_spots.new.spots.items in
    let same = Grows-length h grown before now c.grow_spots.ensures.grown in
    let some = c.self.invariant.0 in
    let room = c.self.invariant.1 in
    let owed = ap (λ (v : ImageValue). v.owed) c.self.view_is in
    let owes = c.requires.owed in
    let len = c.add.ensures.len in
    let capacity = c.add.ensures.capacity in (
      omega (arith, same, some),
      omega (arith, room, owed, owes, len, capacity),
      Grows-ascends h grown before now c.grow_spots.ensures.grown c.self.invariant.2,
    )

pub returns-clause-growths : goal.returns-clause-growths
returns-clause-growths c =
    let h = c.args.h.now in
    let old = subst (AreGrowths h) (ap (λ (v : ImageValue). v.growths) (sym c.self.view_is)) c.requires.growths in
    let at = subst (λ (g : Growth). IsCoordOf h g.at) (sym c.new.ensures) c.requires.at in
    subst (AreGrowths h) (sym c.add.ensures.items) (All-push (λ (g : Growth). IsCoordOf h g.at) c.self.inside.growths.items c.new.result old at)
