use Rattle.std.proofs.Common.{◌∷◌, [], Some, refl}
use Rattle.core_steps.specs.Places.{held}
use Rattle.volap_turns.proofs.Ordered.{fill-two, made-in-order, things-two}
use Rattle.volap_turns.proofs.over.over_two_in_order.Goals as goal

pub returns : goal.returns
returns g c =
    let r = c.run-made in
    let others = c.none-others in
    let row = g.S.CellStep.places c.args.what in
    let one = c.args.one in
    let two = c.args.two in
    made-in-order (held (Some one.1) (Some two.1) others.result) (held r.new.first r.new.second r.new.others) r.ensures.went r.ensures.told r.ensures.sure r.ensures.room r.ensures.refused (one ∷ two ∷ []) ((one.0, c.in-Some-Some.a) ∷ (two.0, c.in-Some-Some.b) ∷ []) c.requires.at.apart
    (fill-two row one.0 two.0 one.1 two.1 others.result c.requires.named others.ensures) r.ensures.fill
    (things-two row one.0 two.0 (Some one.1) (Some two.1) others.result one.1 two.1 c.requires.named refl refl)
    (things-two row one.0 two.0 r.new.first r.new.second r.new.others c.in-Some-Some.a c.in-Some-Some.b c.requires.named c.in-Some-Some.is-0 c.in-Some-Some.is-1)
