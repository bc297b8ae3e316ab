use Rattle.std.proofs.Common.{ℕ, List, [], ◌∷◌, Option, Some, sym, ap, subst, arith}
use Rattle.seat_steps.specs.core_steps.specs.Trees.{tree_places}
use Rattle.seat_steps.specs.core_steps.specs.declared.trees.TreeStep.TheVariants.{ReadGate}
use Rattle.part_steps.specs.{Goings.WentOn, Parts.{CanEndPart, IsTreeSure}}
use Rattle.seat_steps.specs.declared.floor.Player.{Player}
use Rattle.part_steps.proofs.{PartsMade.tree-at, PartsSure.{read-sure, unread-ends}, QueryCosts.{can-test, none-tested}, Takings.told-held}
use Rattle.part_steps.proofs.parts.read.Goals as goal
use Rattle.turn_table.specs.Numbered.{numbers_of}
use Rattle.seat_steps.specs.volap_cell.specs.Values.{actor_of}
use Rattle.seat_steps.specs.volap_turns.specs.Rows.{AreAt}

pub tests_at-tests-requires-clause-held : goal.tests_at-tests-requires-clause-held
tests_at-tests-requires-clause-held g c = (told-held c.args.floor.now c.args.player.now c.requires.seated ((c.args.map, Some 1) ∷ (c.args.gate, Some 2) ∷ []) c.requires.held).1.0

pub tests_at-tests-requires-clause-can : goal.tests_at-tests-requires-clause-can
tests_at-tests-requires-clause-can g c = can-test c.args.floor.now c.args.player.now c.requires.seated c.args.map c.args.gate c.requires.led c.requires.unread

pub make_tree-requires-clause-at : goal.make_tree-requires-clause-at
make_tree-requires-clause-at g c =
    let f = c.args.floor.now in
    let p = c.args.player.now in
    let step = ReadGate c.args.map c.args.gate in
    let sure = read-sure f p c.args.map c.args.gate c.requires.led c.requires.unread in
    subst (λ (x : Player). AreAt (tree_places step) x.seat.view.held) (sym c.tests_at-tests.ensures.same) (tree-at f p c.requires.seated step sure (ap (λ (l : List (ℕ × Option ℕ)). numbers_of l) (sym c.requires.held)))

pub make_tree-requires-clause-ready : goal.make_tree-requires-clause-ready
make_tree-requires-clause-ready g c =
    subst (λ (x : Player). IsTreeSure c.args.floor.now x (ReadGate c.args.map c.args.gate)) (sym c.tests_at-tests.ensures.same) (read-sure c.args.floor.now c.args.player.now c.args.map c.args.gate c.requires.led c.requires.unread)

pub make_tree-requires-clause-ends : goal.make_tree-requires-clause-ends
make_tree-requires-clause-ends g c = λ fails. subst (λ (x : Player). CanEndPart (actor_of x.actor)) (sym c.tests_at-tests.ensures.same) (unread-ends c.requires.unread)

pub returns : goal.returns
returns g c = record {
  went = subst (λ (x : Player). WentOn c.args.floor.now x c.make_tree.new.player) c.tests_at-tests.ensures.same c.make_tree.ensures.went;
  kept = c.add.ensures.kept;
  none = λ of_all.
      let f = c.args.floor.now in
      let p = c.args.player.now in
      let there = (told-held f p c.requires.seated ((c.args.map, Some 1) ∷ (c.args.gate, Some 2) ∷ []) c.requires.held).1.0 in
      let zero = none-tested f p c.requires.seated c.args.map c.args.gate c.requires.led there.0 c.tests_at-tests.result there.1 (c.tests_at-tests.ensures.seen there.0 there.1) of_all in
      let few = c.add.ensures.few in
      let kept = c.add.ensures.kept in
      omega (arith, zero, few, kept);
}
