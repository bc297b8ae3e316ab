use Rattle.std.proofs.Common.{ℕ, List, [], ◌∷◌, ◌++◌, Option, refl, sym, ap, subst, arith}
use Rattle.seat_steps.specs.core_steps.specs.declared.parts.PartStep.TheVariants.{Expand, Forward}
use Rattle.part_steps.specs.Parts.{IsLed}
use Rattle.part_steps.proofs.{PartsLed.{gate-turn, led-somewhere}, PartsMade.part-second, PartsSure.{expand-sure, for-ends, for-out, forward-sure}}
use Rattle.part_steps.proofs.parts.follow.Goals as goal
use Rattle.turn_table.specs.Numbered.{numbers_of}
use Rattle.seat_steps.specs.volap_cell.specs.Values.{actor_of}

pub go_on_at_gate-requires-clause-can : goal.go_on_at_gate-requires-clause-can
go_on_at_gate-requires-clause-can g c =
    let f = c.args.floor.now in
    let p = c.args.player.now in
    let led = subst (IsLed f p c.args.route.map) c.in-Gate.is c.requires.led in
    let ends = for-ends c.args.due c.requires.due in
    gate-turn f p c.requires.seated c.args.route.map c.in-Gate.gate led ends.e ends.errand c.requires.held

pub go_on_at_gate-requires-clause-led : goal.go_on_at_gate-requires-clause-led
go_on_at_gate-requires-clause-led g c = subst (IsLed c.args.floor.now c.args.player.now c.args.route.map) c.in-Gate.is c.requires.led

pub take_for_part-requires-clause-ready : goal.take_for_part-requires-clause-ready
take_for_part-requires-clause-ready g c =
    let f = c.args.floor.now in
    let p = c.args.player.now in
    let out = for-out (actor_of p.actor) c.args.due c.requires.due in
    expand-sure f p out.0 out.1 c.args.route.desk (c.requires.route out.0 out.1).desk out.2 c.args.route.map (subst (IsLed f p c.args.route.map) c.in-Split.is c.requires.led)

pub take_for_part-requires-clause-can : goal.take_for_part-requires-clause-can
take_for_part-requires-clause-can g c =
    let f = c.args.floor.now in
    let p = c.args.player.now in
    let route = c.args.route in
    let out = for-out (actor_of p.actor) c.args.due c.requires.due in
    let sure = expand-sure f p out.0 out.1 route.desk (c.requires.route out.0 out.1).desk out.2 route.map (subst (IsLed f p route.map) c.in-Split.is c.requires.led) in
    part-second f p c.requires.seated (Expand route.map route.desk) sure route.map 1 route.desk 4 c.requires.held (omega arith) refl

pub take_for_part-requires-clause-last : goal.take_for_part-requires-clause-last
take_for_part-requires-clause-last g c = ap (λ (l : List (ℕ × Option ℕ)). numbers_of l ++ c.args.route.desk ∷ []) (sym c.requires.held)

pub take_for_part-requires-clause-ends : goal.take_for_part-requires-clause-ends
take_for_part-requires-clause-ends g c = for-ends c.args.due c.requires.due

pub take_for_part-requires-in-Moved-clause-ready : goal.take_for_part-requires-in-Moved-clause-ready
take_for_part-requires-in-Moved-clause-ready g c =
    let f = c.args.floor.now in
    let p = c.args.player.now in
    let out = for-out (actor_of p.actor) c.args.due c.requires.due in
    forward-sure f p out.0 out.1 c.args.route.desk (c.requires.route out.0 out.1).desk out.2 c.args.route.map (subst (IsLed f p c.args.route.map) c.in-Moved.is c.requires.led)

pub take_for_part-requires-in-Moved-clause-can : goal.take_for_part-requires-in-Moved-clause-can
take_for_part-requires-in-Moved-clause-can g c =
    let f = c.args.floor.now in
    let p = c.args.player.now in
    let route = c.args.route in
    let out = for-out (actor_of p.actor) c.args.due c.requires.due in
    let sure = forward-sure f p out.0 out.1 route.desk (c.requires.route out.0 out.1).desk out.2 route.map (subst (IsLed f p route.map) c.in-Moved.is c.requires.led) in
    part-second f p c.requires.seated (Forward route.map route.desk) sure route.map 1 route.desk 4 c.requires.held (omega arith) refl

pub take_for_part-requires-in-Moved-clause-last : goal.take_for_part-requires-in-Moved-clause-last
take_for_part-requires-in-Moved-clause-last g c = ap (λ (l : List (ℕ × Option ℕ)). numbers_of l ++ c.args.route.desk ∷ []) (sym c.requires.held)

pub take_for_part-requires-in-Moved-clause-ends : goal.take_for_part-requires-in-Moved-clause-ends
take_for_part-requires-in-Moved-clause-ends g c = for-ends c.args.due c.requires.due

pub unreachable-requires : goal.unreachable-requires
unreachable-requires g c =
    let f = c.args.floor.now in
    let p = c.args.player.now in
    let ends = for-ends c.args.due c.requires.due in
    led-somewhere f p c.requires.seated c.args.route.map ends.e ends.errand (subst (IsLed f p c.args.route.map) c.in-Nowhere.is c.requires.led)
