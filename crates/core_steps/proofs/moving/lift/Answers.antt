use Rattle.std.proofs.Common.{[], ◌∷◌, None, get_or}
use Rattle.core_steps.proofs.Five.{can-last-two, can-others, lifted-five, lifted-more, lifted-none}
use Rattle.core_shard.specs.volap_cell.proofs.Cells.Lifting.{lift-some}
use Rattle.core_steps.proofs.moving.lift.Goals as goal

pub lift_at-requires-4 : goal.lift_at-requires-4
lift_at-requires-4 c = record { there = lift-some _ _ _ (can-last-two c.args.places.now _ _ _ _ c.told-places c.requires.there c.lift_at.ensures.rest c.lift_at-2.ensures.rest c.lift_at-3.ensures.rest) }

pub lift_at-requires-5 : goal.lift_at-requires-5
lift_at-requires-5 c = record {
  there = lift-some _ _ [] (can-others (get_or c.args.places.now 3 None) (get_or c.args.places.now 4 None ∷ []) _ _ c.lift_at-4.ensures.rest (can-last-two c.args.places.now _ _ _ _ c.told-places c.requires.there c.lift_at.ensures.rest c.lift_at-2.ensures.rest c.lift_at-3.ensures.rest));
}

pub returns : goal.returns
returns c =
    let a = c.lift_at.ensures in
    let b = c.lift_at-2.ensures in
    let d = c.lift_at-3.ensures in
    let e = c.lift_at-4.ensures in
    let f = c.lift_at-5.ensures in
    let lifted = lifted-five c.args.places.now (c.lift_at.result ∷ c.lift_at-2.result ∷ c.lift_at-3.result ∷ c.lift_at-4.result ∷ c.lift_at-5.result ∷ []) c.args.cells.now.items c.lift_at-5.new.cells.items c.told-places c.requires.there
    (λ can. lifted-more _ _ _ _ _ _ _ a.fill a.stand a.rest can
    (λ can. lifted-more _ _ _ _ _ _ _ b.fill b.stand b.rest can
    (λ can. lifted-more _ _ _ _ _ _ _ d.fill d.stand d.rest can
    (λ can. lifted-more _ _ _ _ _ _ _ e.fill e.stand e.rest can
    (λ can. lifted-more _ _ _ _ _ _ _ f.fill f.stand f.rest can (λ can. lifted-none _)))))) in
    record { fill = lifted.fill; stand = lifted.stand; rest = lifted.rest }
