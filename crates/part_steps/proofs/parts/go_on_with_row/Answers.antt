use Rattle.std.proofs.Common.{◌∙◌, ℕ, List, [], ◌∷◌, ◌++◌, Option, refl, sym, ap, subst}
use Rattle.seat_steps.specs.core_steps.specs.declared.trees.TreeStep.TheVariants.{LeaveTree}
use Rattle.part_steps.specs.Parts.{HasWay}
use Rattle.part_steps.proofs.{PartsMade.tree-first, PartsSure.{leave-sure, way-bare}}
use Rattle.part_steps.proofs.parts.go_on_with_row.Goals as goal
use Rattle.turn_table.specs.Numbered.{numbers_of}
use Rattle.seat_steps.specs.volap_cell.specs.Values.{actor_of}
use Rattle.seat_steps.specs.volap_cell.specs.declared.errand.Way.TheVariants.{Put}

pub go_on_before-requires-clause-before : goal.go_on_before-requires-clause-before
go_on_before-requires-clause-before g c = subst (HasWay (actor_of c.args.player.now.actor)) c.in-Before.is c.requires.way

pub carry-requires-clause-carried : goal.carry-requires-clause-carried
carry-requires-clause-carried g c = (c.in-Carried.gate, subst (HasWay (actor_of c.args.player.now.actor)) c.in-Carried.is c.requires.way)

pub take_for_tree-requires-clause-can : goal.take_for_tree-requires-clause-can
take_for_tree-requires-clause-can g c =
    let f = c.args.floor.now in
    let p = c.args.player.now in
    let gate = c.in-Put.gate in
    let on = subst (HasWay (actor_of p.actor)) c.in-Put.is c.requires.way in
    tree-first f p c.requires.stands.seated (LeaveTree gate) (leave-sure f p gate on) gate 2 [] (c.requires.stands.bare ∙ way-bare (Put gate) on refl) refl

pub take_for_tree-requires-clause-last : goal.take_for_tree-requires-clause-last
take_for_tree-requires-clause-last g c =
    let gate = c.in-Put.gate in
    let on = subst (HasWay (actor_of c.args.player.now.actor)) c.in-Put.is c.requires.way in
    ap (λ (l : List (ℕ × Option ℕ)). numbers_of l ++ gate ∷ []) (sym (c.requires.stands.bare ∙ way-bare (Put gate) on refl))

pub take_for_tree-requires-clause-ready : goal.take_for_tree-requires-clause-ready
take_for_tree-requires-clause-ready g c = leave-sure c.args.floor.now c.args.player.now c.in-Put.gate (subst (HasWay (actor_of c.args.player.now.actor)) c.in-Put.is c.requires.way)

pub finish-requires-clause-placed : goal.finish-requires-clause-placed
finish-requires-clause-placed g c = subst (HasWay (actor_of c.args.player.now.actor)) c.in-Placed.is c.requires.way
