use Rattle.std.proofs.Common.{◌∙◌, sym, subst}
use Rattle.part_steps.specs.Parts.{CanEndPart}
use Rattle.part_steps.proofs.{PartsMade.{part-at, went-taken}, PartsSure.part-on, Takings.numbers-taken}
use Rattle.part_steps.proofs.parts.take_to_end.Goals as goal
use Rattle.seat_steps.specs.volap_cell.specs.{Values.actor_of, declared.actor.Actor.Actor}

pub make_end-requires-clause-at : goal.make_end-requires-clause-at
make_end-requires-clause-at g c =
    let took = c.take.ensures.took in
    part-at c.args.floor.now c.take.new.player c.take.ensures.seated c.args.step (part-on took c.args.step c.requires.ready)
    (c.requires.last ∙ sym (numbers-taken c.args.desk 4 c.args.player.now c.take.new.player took))

pub make_end-requires-clause-ready : goal.make_end-requires-clause-ready
make_end-requires-clause-ready g c = part-on c.take.ensures.took c.args.step c.requires.ready

pub make_end-requires-clause-ends : goal.make_end-requires-clause-ends
make_end-requires-clause-ends g c = subst (λ (x : Actor). CanEndPart (actor_of x)) (sym c.take.ensures.took.same.actor) c.requires.ends

pub returns : goal.returns
returns g c = record { went = went-taken c.args.floor.now c.args.player.now c.take.new.player c.make_end.new.player c.take.ensures.took.same c.make_end.ensures.went }
