use Rattle.std.proofs.Common.{◌∙◌, ℕ, List, Option, sym, ap, subst}
use Rattle.seat_steps.specs.core_steps.specs.Trees.{tree_places}
use Rattle.seat_steps.specs.core_steps.specs.declared.trees.TreeStep.TheVariants.{PutInLeaf}
use Rattle.part_steps.specs.{Goings.WentOn, Parts.IsTreeSure, Rows.IsToDescend}
use Rattle.seat_steps.specs.{Floors.{IsSeated, Stands}, declared.floor.Player.Player}
use Rattle.part_steps.proofs.{PartsLed.{carried-there, goes-down, way-kept}, PartsMade.tree-at, PartsSure.put-sure}
use Rattle.part_steps.proofs.parts.carry.Goals as goal
use Rattle.turn_table.specs.Numbered.{numbers_of}
use Rattle.seat_steps.specs.volap_cell.specs.Values.{actor_of}
use Rattle.seat_steps.specs.volap_turns.specs.Rows.{AreAt}

pub is_leaf_at-requires-clause-held : goal.is_leaf_at-requires-clause-held
is_leaf_at-requires-clause-held g c = carried-there c.args.floor.now c.args.player.now c.requires.stands.seated c.requires.carried.0 c.args.block c.requires.carried.1

pub make_tree-requires-clause-seated : goal.make_tree-requires-clause-seated
make_tree-requires-clause-seated g c = subst (IsSeated c.args.floor.now) (sym c.is_leaf_at.ensures.same) c.requires.stands.seated

pub make_tree-requires-clause-at : goal.make_tree-requires-clause-at
make_tree-requires-clause-at g c =
    let f = c.args.floor.now in
    let p = c.args.player.now in
    let on = c.requires.carried in
    let seated = c.requires.stands.seated in
    let sure = put-sure f p on.0 c.args.block on.1 (carried-there f p seated on.0 c.args.block on.1) (λ d e. sym (c.is_leaf_at.ensures.seen d e) ∙ c.if-is_leaf_at.true) in
    let told = c.requires.stands.bare ∙ way-kept (actor_of p.actor) on.0 c.args.block on.1 in
    subst (λ (x : Player). AreAt (tree_places (PutInLeaf c.args.block)) x.seat.view.held) (sym c.is_leaf_at.ensures.same) (tree-at f p seated (PutInLeaf c.args.block) sure (ap (λ (l : List (ℕ × Option ℕ)). numbers_of l) (sym told)))

pub make_tree-requires-clause-ready : goal.make_tree-requires-clause-ready
make_tree-requires-clause-ready g c =
    let f = c.args.floor.now in
    let p = c.args.player.now in
    let on = c.requires.carried in
    subst (λ (x : Player). IsTreeSure f x (PutInLeaf c.args.block)) (sym c.is_leaf_at.ensures.same)
    (put-sure f p on.0 c.args.block on.1 (carried-there f p c.requires.stands.seated on.0 c.args.block on.1) (λ d e. sym (c.is_leaf_at.ensures.seen d e) ∙ c.if-is_leaf_at.true))

pub returns-then-is_leaf_at : goal.returns-then-is_leaf_at
returns-then-is_leaf_at g c = record { went = subst (λ (x : Player). WentOn c.args.floor.now x c.make_tree.new.player) c.is_leaf_at.ensures.same c.make_tree.ensures.went }

pub descend-requires-clause-stands : goal.descend-requires-clause-stands
descend-requires-clause-stands g c = subst (Stands c.args.floor.now) (sym c.is_leaf_at.ensures.same) c.requires.stands

pub descend-requires-clause-descends : goal.descend-requires-clause-descends
descend-requires-clause-descends g c =
    let on = c.requires.carried in
    subst (λ (x : Player). IsToDescend c.args.floor.now x c.args.block) (sym c.is_leaf_at.ensures.same)
    (goes-down c.args.floor.now c.args.player.now c.requires.stands.seated on.0 c.args.block on.1 (λ d e. sym (c.is_leaf_at.ensures.seen d e) ∙ c.if-is_leaf_at.false))

pub returns : goal.returns
returns g c = record { went = subst (λ (x : Player). WentOn c.args.floor.now x c.descend.new.player) c.is_leaf_at.ensures.same c.descend.ensures.went }
