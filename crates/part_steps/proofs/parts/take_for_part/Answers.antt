use Rattle.std.proofs.Common.{◌∙◌, sym, subst}
use Rattle.part_steps.specs.Parts.{CanEndPart}
use Rattle.part_steps.proofs.{PartsMade.{part-at, went-taken}, PartsSure.part-on, Takings.numbers-taken}
use Rattle.part_steps.proofs.parts.take_for_part.Goals as goal
use Rattle.seat_steps.specs.volap_cell.specs.{Values.actor_of, declared.actor.Actor.Actor}

pub make_part-requires-clause-at : goal.make_part-requires-clause-at
make_part-requires-clause-at g c =
    let took = c.take.ensures.took in
    part-at c.args.floor.now c.take.new.player c.take.ensures.seated c.args.step (part-on took c.args.step c.requires.ready)
    (c.requires.last ∙ sym (numbers-taken c.args.cell c.args.rank c.args.player.now c.take.new.player took))

pub make_part-requires-clause-ready : goal.make_part-requires-clause-ready
make_part-requires-clause-ready g c = part-on c.take.ensures.took c.args.step c.requires.ready

pub make_part-requires-clause-ends : goal.make_part-requires-clause-ends
make_part-requires-clause-ends g c = subst (λ (x : Actor). CanEndPart (actor_of x)) (sym c.take.ensures.took.same.actor) c.requires.ends

pub returns : goal.returns
returns g c = record { went = went-taken c.args.floor.now c.args.player.now c.take.new.player c.make_part.new.player c.take.ensures.took.same c.make_part.ensures.went }
