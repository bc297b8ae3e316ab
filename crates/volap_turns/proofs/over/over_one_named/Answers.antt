use Rattle.std.proofs.Common.{◌∷◌, [], Some, None, refl}
use Rattle.core_steps.specs.Places.{held}
use Rattle.volap_turns.proofs.Ordered.{fill-one, made-in-order, one-cells, things-one}
use Rattle.volap_turns.proofs.over.over_one_named.Goals as goal

pub returns : goal.returns
returns g c =
    let r = c.run-made in
    let others = c.none-others in
    let row = g.S.CellStep.places c.args.what in
    let one = c.args.one in
    made-in-order (held (Some one.1) None others.result) (held r.new.first r.new.second r.new.others) r.ensures.went r.ensures.told r.ensures.sure r.ensures.room r.ensures.refused (one ∷ []) ((one.0, c.in-Some.cell) ∷ []) c.requires.at.apart
    (fill-one row one.0 one.1 None others.result c.requires.named refl others.ensures) r.ensures.fill
    (one-cells row one.0 (one ∷ []) one None others.result c.requires.named c.requires.at refl)
    (things-one row one.0 r.new.first r.new.second r.new.others c.in-Some.cell c.requires.named c.in-Some.is)
