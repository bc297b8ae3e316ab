use Rattle.std.proofs.Common.{ℕ, List, [], ◌∷◌, Option, Some, sym, ap, subst}
use Rattle.seat_steps.specs.core_steps.specs.Trees.{tree_places}
use Rattle.seat_steps.specs.core_steps.specs.declared.trees.TreeStep.TheVariants.{VisitBlock}
use Rattle.part_steps.specs.Parts.{CanEndPart, IsTreeSure}
use Rattle.seat_steps.specs.{Floors.IsSeated, declared.floor.Player.Player}
use Rattle.part_steps.proofs.{PartsMade.tree-at, PartsSure.{visit-ends, visit-sure}, Takings.told-held}
use Rattle.part_steps.proofs.parts.visit.Goals as goal
use Rattle.turn_table.specs.Numbered.{numbers_of}
use Rattle.seat_steps.specs.volap_cell.specs.Values.{actor_of}
use Rattle.seat_steps.specs.volap_turns.specs.Rows.{AreAt}

pub rows_at-tests-requires-clause-held : goal.rows_at-tests-requires-clause-held
rows_at-tests-requires-clause-held g c = (told-held c.args.floor.now c.args.player.now c.requires.seated ((c.args.block, Some 3) ∷ []) c.requires.held).0

pub make_tree-requires-clause-seated : goal.make_tree-requires-clause-seated
make_tree-requires-clause-seated g c = subst (λ (x : Player). IsSeated c.args.floor.now x) (sym c.rows_at-tests.ensures.same) c.requires.seated

pub make_tree-requires-clause-at : goal.make_tree-requires-clause-at
make_tree-requires-clause-at g c =
    let f = c.args.floor.now in
    let p = c.args.player.now in
    let sure = visit-sure f p c.args.block c.requires.reading in
    subst (λ (x : Player). AreAt (tree_places (VisitBlock c.args.block)) x.seat.view.held) (sym c.rows_at-tests.ensures.same)
    (tree-at f p c.requires.seated (VisitBlock c.args.block) sure (ap (λ (l : List (ℕ × Option ℕ)). numbers_of l) (sym c.requires.held)))

pub make_tree-requires-clause-ready : goal.make_tree-requires-clause-ready
make_tree-requires-clause-ready g c =
    subst (λ (x : Player). IsTreeSure c.args.floor.now x (VisitBlock c.args.block)) (sym c.rows_at-tests.ensures.same) (visit-sure c.args.floor.now c.args.player.now c.args.block c.requires.reading)

pub make_tree-requires-clause-ends : goal.make_tree-requires-clause-ends
make_tree-requires-clause-ends g c = λ fails. subst (λ (x : Player). CanEndPart (actor_of x.actor)) (sym c.rows_at-tests.ensures.same) (visit-ends (Some c.args.block) c.requires.reading)
