use Rattle.std.proofs.Common.{◌≡◌, ◌∙◌, ℕ, List, [], ◌∷◌, ◌++◌, Option, Some, IsSome, refl, sym, ap, subst, arith}
use Rattle.part_steps.specs.{Counts.IsOfEverything, Goings.WentOn, Parts.{IsFor, IsLed, IsRouteOf}}
use Rattle.seat_steps.specs.{Floors.IsSeated, declared.floor.Player.Player}
use Rattle.part_steps.proofs.{PartsLed.{led-seen, table-turn}, PartsMade.went-taken, PartsSure.{end-bare, for-ends}}
use Rattle.seat_steps.proofs.Around.{took-there}
use Rattle.part_steps.proofs.parts.go_by_table.Goals as goal
use Rattle.seat_steps.specs.volap_cell.specs.{Values.{ErrandValue, actor_of}, declared.actor.Actor.Actor}

pub route_of-route-requires : goal.route_of-route-requires
route_of-route-requires g c = record { part = subst IsSome (sym (for-ends c.args.due c.requires.due).errand) refl }

pub take-requires-clause-cell : goal.take-requires-clause-cell
take-requires-clause-cell g c =
    let ends = for-ends c.args.due c.requires.due in
    (table-turn c.args.floor.now c.args.player.now c.requires.stands.seated ends.e ends.errand c.route_of-route.result (c.route_of-route.ensures ends.e ends.errand) (c.requires.stands.bare ∙ end-bare ends)).within

pub take-requires-clause-other : goal.take-requires-clause-other
take-requires-clause-other g c =
    let ends = for-ends c.args.due c.requires.due in
    (table-turn c.args.floor.now c.args.player.now c.requires.stands.seated ends.e ends.errand c.route_of-route.result (c.route_of-route.ensures ends.e ends.errand) (c.requires.stands.bare ∙ end-bare ends)).other

pub take-requires-clause-rank : goal.take-requires-clause-rank
take-requires-clause-rank g c =
    let ends = for-ends c.args.due c.requires.due in
    (table-turn c.args.floor.now c.args.player.now c.requires.stands.seated ends.e ends.errand c.route_of-route.result (c.route_of-route.ensures ends.e ends.errand) (c.requires.stands.bare ∙ end-bare ends)).order

pub take-requires-clause-room : goal.take-requires-clause-room
take-requires-clause-room g c =
    let ends = for-ends c.args.due c.requires.due in
    (table-turn c.args.floor.now c.args.player.now c.requires.stands.seated ends.e ends.errand c.route_of-route.result (c.route_of-route.ensures ends.e ends.errand) (c.requires.stands.bare ∙ end-bare ends)).room

pub lead_at-to-requires-clause-held : goal.lead_at-to-requires-clause-held
lead_at-to-requires-clause-held g c =
    let ends = for-ends c.args.due c.requires.due in
    let turn = table-turn c.args.floor.now c.args.player.now c.requires.stands.seated ends.e ends.errand c.route_of-route.result (c.route_of-route.ensures ends.e ends.errand) (c.requires.stands.bare ∙ end-bare ends) in
    took-there c.take.ensures.took turn.other

pub follow-requires-clause-seated : goal.follow-requires-clause-seated
follow-requires-clause-seated g c = subst (IsSeated c.args.floor.now) (sym c.lead_at-to.ensures.same) c.take.ensures.seated

pub follow-requires-clause-held : goal.follow-requires-clause-held
follow-requires-clause-held g c =
    ap (λ (x : Player). x.seat.ranks) c.lead_at-to.ensures.same ∙ c.take.ensures.took.ranks
    ∙ ap (λ (l : List (ℕ × Option ℕ)). l ++ (c.route_of-route.result.map, Some 1) ∷ []) (c.requires.stands.bare ∙ end-bare (for-ends c.args.due c.requires.due))

pub follow-requires-clause-route : goal.follow-requires-clause-route
follow-requires-clause-route g c =
    subst (λ (x : Actor). (e : ErrandValue) → (actor_of x).errand ≡ Some e → IsRouteOf c.args.floor.now e c.route_of-route.result)
    (sym (ap (λ (x : Player). x.actor) c.lead_at-to.ensures.same ∙ c.take.ensures.took.same.actor)) c.route_of-route.ensures

pub follow-requires-clause-led : goal.follow-requires-clause-led
follow-requires-clause-led g c =
    let f = c.args.floor.now in
    let ends = for-ends c.args.due c.requires.due in
    let route = c.route_of-route in
    let turn = table-turn f c.args.player.now c.requires.stands.seated ends.e ends.errand route.result (route.ensures ends.e ends.errand) (c.requires.stands.bare ∙ end-bare ends) in
    let there = took-there c.take.ensures.took turn.other in
    let same = subst (λ (x : Actor). (e : ErrandValue) → (actor_of x).errand ≡ Some e → IsRouteOf f e route.result) (sym c.take.ensures.took.same.actor) route.ensures in
    subst (λ (x : Player). IsLed f x route.result.map c.lead_at-to.result) (sym c.lead_at-to.ensures.same) (led-seen f c.take.new.player route.result c.lead_at-to.result same there c.lead_at-to.ensures.seen)

pub follow-requires-clause-due : goal.follow-requires-clause-due
follow-requires-clause-due g c = subst (λ (x : Actor). IsFor c.args.due (actor_of x)) (sym (ap (λ (x : Player). x.actor) c.lead_at-to.ensures.same ∙ c.take.ensures.took.same.actor)) c.requires.due

pub returns : goal.returns
returns g c =
    let p = c.args.player.now in
    let went = subst (λ (x : Player). WentOn c.args.floor.now x c.follow.new.player) c.lead_at-to.ensures.same c.follow.ensures.went in
    record {
      went = went-taken c.args.floor.now p c.take.new.player c.follow.new.player c.take.ensures.took.same went;
      kept = (let one = c.add.ensures.kept in let more = c.follow.ensures.kept in omega (arith, one, more));
      few = λ of_all.
          let same = sym (ap (λ (x : Player). x.actor) c.lead_at-to.ensures.same ∙ c.take.ensures.took.same.actor) in
          let more = c.follow.ensures.few (subst (λ (x : Actor). IsOfEverything c.args.floor.now.hierarchy (actor_of x)) same of_all) in
          let one = c.add.ensures.few in
          omega (arith, one, more);
    }
