use Rattle.std.proofs.Common.{◌∙◌, ℕ, List, [], ◌∷◌, Option, Some, sym, ap, subst}
use Rattle.seat_steps.specs.core_steps.specs.Trees.{tree_places}
use Rattle.seat_steps.specs.core_steps.specs.declared.trees.TreeStep.TheVariants.{EnterQueue}
use Rattle.part_steps.specs.{Parts.{CanEndPart, IsTreeSure}, Rows.IsToEnter}
use Rattle.seat_steps.specs.declared.floor.Player.{Player}
use Rattle.part_steps.specs.declared.parts.AtGate.TheVariants.{Enters}
use Rattle.part_steps.proofs.{PartsLed.comes-in, PartsMade.tree-at, PartsSure.{for-ends, queue-sure}, Takings.told-held}
use Rattle.part_steps.proofs.parts.enter_or_queue.Goals as goal
use Rattle.turn_table.specs.Numbered.{numbers_of}
use Rattle.seat_steps.specs.volap_cell.specs.Values.{actor_of}
use Rattle.seat_steps.specs.volap_turns.specs.Rows.{AreAt}

pub may_enter_at-requires-clause-held : goal.may_enter_at-requires-clause-held
may_enter_at-requires-clause-held g c = (told-held c.args.floor.now c.args.player.now c.requires.seated ((c.args.map, Some 1) ∷ (c.args.gate, Some 2) ∷ []) c.requires.held).1.0

pub enter-requires-clause-enters : goal.enter-requires-clause-enters
enter-requires-clause-enters g c =
    let f = c.args.floor.now in
    let p = c.args.player.now in
    let there = (told-held f p c.requires.seated ((c.args.map, Some 1) ∷ (c.args.gate, Some 2) ∷ []) c.requires.held).1.0 in
    let look = c.may_enter_at in
    subst (λ (x : Player). IsToEnter f x c.args.map c.args.gate) (sym look.ensures.same)
    (comes-in f p c.requires.seated c.args.map c.args.gate c.requires.led c.requires.due.0 c.requires.due.1 there (λ d e. sym (look.ensures.seen d e) ∙ c.if-may_enter_at.true))

pub make_tree-requires-clause-at : goal.make_tree-requires-clause-at
make_tree-requires-clause-at g c =
    let f = c.args.floor.now in
    let p = c.args.player.now in
    let step = EnterQueue c.args.map c.args.gate in
    let there = (told-held f p c.requires.seated ((c.args.map, Some 1) ∷ (c.args.gate, Some 2) ∷ []) c.requires.held).1.0 in
    let look = c.may_enter_at in
    let sure = queue-sure f p c.args.map c.args.gate c.requires.led c.requires.due.0 c.requires.due.1 there (λ d e. sym (look.ensures.seen d e) ∙ c.if-may_enter_at.false) in
    subst (λ (x : Player). AreAt (tree_places step) x.seat.view.held) (sym look.ensures.same) (tree-at f p c.requires.seated step sure (ap (λ (l : List (ℕ × Option ℕ)). numbers_of l) (sym c.requires.held)))

pub make_tree-requires-clause-ready : goal.make_tree-requires-clause-ready
make_tree-requires-clause-ready g c =
    let f = c.args.floor.now in
    let p = c.args.player.now in
    let there = (told-held f p c.requires.seated ((c.args.map, Some 1) ∷ (c.args.gate, Some 2) ∷ []) c.requires.held).1.0 in
    let look = c.may_enter_at in
    subst (λ (x : Player). IsTreeSure f x (EnterQueue c.args.map c.args.gate)) (sym look.ensures.same)
    (queue-sure f p c.args.map c.args.gate c.requires.led c.requires.due.0 c.requires.due.1 there (λ d e. sym (look.ensures.seen d e) ∙ c.if-may_enter_at.false))

pub make_tree-requires-clause-ends : goal.make_tree-requires-clause-ends
make_tree-requires-clause-ends g c = λ fails. subst (λ (x : Player). CanEndPart (actor_of x.actor)) (sym c.may_enter_at.ensures.same) (for-ends Enters c.requires.due)
