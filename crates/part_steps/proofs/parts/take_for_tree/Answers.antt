use Rattle.std.proofs.Common.{◌∙◌, sym, subst}
use Rattle.part_steps.specs.Parts.{CanEndPart, IsForRow}
use Rattle.part_steps.proofs.{PartsMade.{tree-at, went-taken}, PartsSure.tree-on, Takings.numbers-taken}
use Rattle.part_steps.proofs.parts.take_for_tree.Goals as goal
use Rattle.seat_steps.specs.volap_cell.specs.{Values.actor_of, declared.actor.Actor.Actor}

pub make_tree-requires-clause-at : goal.make_tree-requires-clause-at
make_tree-requires-clause-at g c =
    let took = c.take.ensures.took in
    tree-at c.args.floor.now c.take.new.player c.take.ensures.seated c.args.step (tree-on took c.args.step c.requires.ready)
    (c.requires.last ∙ sym (numbers-taken c.args.cell c.args.rank c.args.player.now c.take.new.player took))

pub make_tree-requires-clause-ready : goal.make_tree-requires-clause-ready
make_tree-requires-clause-ready g c = tree-on c.take.ensures.took c.args.step c.requires.ready

pub make_tree-requires-clause-ends : goal.make_tree-requires-clause-ends
make_tree-requires-clause-ends g c = λ fails. subst (λ (x : Actor). CanEndPart (actor_of x)) (sym c.take.ensures.took.same.actor) (c.requires.ends fails)

pub make_tree-requires-clause-row : goal.make_tree-requires-clause-row
make_tree-requires-clause-row g c = subst (λ (x : Actor). IsForRow c.args.step (actor_of x)) (sym c.take.ensures.took.same.actor) c.requires.row

pub returns : goal.returns
returns g c = record { went = went-taken c.args.floor.now c.args.player.now c.take.new.player c.make_tree.new.player c.take.ensures.took.same c.make_tree.ensures.went }
