use Rattle.std.proofs.Common.{◌∷◌, [], Some, refl}
use Rattle.core_steps.specs.Places.{held, no_others}
use Rattle.core_steps.specs.declared.step.Others.{Others}
use Rattle.volap_turns.proofs.Ordered.{all-three, fill-three, made-in-order, things-three}
use Rattle.volap_turns.proofs.over.over_three_in_order.Goals as goal

pub unwrap-a-requires : goal.unwrap-a-requires
unwrap-a-requires g c = (let r = c.run-made in all-three (g.S.CellStep.places c.args.what) c.args.one.0 c.args.two.0 c.args.three.0 r.new.first r.new.second r.new.others c.requires.named r.ensures.fill).0

pub unwrap-b-requires : goal.unwrap-b-requires
unwrap-b-requires g c = (let r = c.run-made in all-three (g.S.CellStep.places c.args.what) c.args.one.0 c.args.two.0 c.args.three.0 r.new.first r.new.second r.new.others c.requires.named r.ensures.fill).1

pub unwrap-c-requires : goal.unwrap-c-requires
unwrap-c-requires g c = (let r = c.run-made in all-three (g.S.CellStep.places c.args.what) c.args.one.0 c.args.two.0 c.args.three.0 r.new.first r.new.second r.new.others c.requires.named r.ensures.fill).2

pub returns : goal.returns
returns g c =
    let r = c.run-made in
    let row = g.S.CellStep.places c.args.what in
    let one = c.args.one in
    let two = c.args.two in
    let three = c.args.three in
    let third : Others = record no_others { third = Some three.1 } in
    made-in-order (held (Some one.1) (Some two.1) third) (held r.new.first r.new.second r.new.others) r.ensures.went r.ensures.told r.ensures.sure r.ensures.room r.ensures.refused (one ∷ two ∷ three ∷ []) ((one.0, c.unwrap-a.result) ∷ (two.0, c.unwrap-b.result) ∷ (three.0, c.unwrap-c.result) ∷ []) c.requires.at.apart
    (fill-three row one.0 two.0 three.0 one.1 two.1 three.1 c.requires.named) r.ensures.fill
    (things-three row one.0 two.0 three.0 (Some one.1) (Some two.1) third one.1 two.1 three.1 c.requires.named refl refl refl)
    (things-three row one.0 two.0 three.0 r.new.first r.new.second r.new.others c.unwrap-a.result c.unwrap-b.result c.unwrap-c.result c.requires.named c.unwrap-a.ensures c.unwrap-b.ensures c.unwrap-c.ensures)
