use Rattle.std.proofs.Common.{◌∙◌, ℕ, List, [], ◌∷◌, ◌++◌, Option, Some, refl, sym, ap, subst, arith}
use Rattle.seat_steps.specs.core_steps.specs.declared.parts.PartStep.TheVariants.{FinishPinned}
use Rattle.part_steps.specs.Parts.{CanEndPart}
use Rattle.part_steps.proofs.{PartsMade.{part-second, went-taken}, PartsSure.part-on}
use Rattle.part_steps.proofs.parts.end_pinned.Goals as goal
use Rattle.turn_table.specs.Numbered.{numbers_of}
use Rattle.seat_steps.specs.volap_cell.specs.{Values.actor_of, declared.actor.Actor.Actor}

pub take_to_end-requires-clause-can : goal.take_to_end-requires-clause-can
take_to_end-requires-clause-can g c =
    let took = c.take.ensures.took in
    let step = FinishPinned c.args.gate c.args.desk in
    part-second c.args.floor.now c.take.new.player c.take.ensures.seated step (part-on took step c.requires.ready) c.args.gate 2 c.args.desk 4
    (took.ranks ∙ ap (λ (l : List (ℕ × Option ℕ)). l ++ (c.args.gate, Some 2) ∷ []) c.requires.bare) (omega arith) refl

pub take_to_end-requires-clause-last : goal.take_to_end-requires-clause-last
take_to_end-requires-clause-last g c =
    let ranks = c.take.ensures.took.ranks ∙ ap (λ (l : List (ℕ × Option ℕ)). l ++ (c.args.gate, Some 2) ∷ []) c.requires.bare in ap (λ (l : List (ℕ × Option ℕ)). numbers_of l ++ c.args.desk ∷ []) (sym ranks)

pub take_to_end-requires-clause-ready : goal.take_to_end-requires-clause-ready
take_to_end-requires-clause-ready g c = part-on c.take.ensures.took (FinishPinned c.args.gate c.args.desk) c.requires.ready

pub take_to_end-requires-clause-ends : goal.take_to_end-requires-clause-ends
take_to_end-requires-clause-ends g c = subst (λ (x : Actor). CanEndPart (actor_of x)) (sym c.take.ensures.took.same.actor) c.requires.ends

pub returns : goal.returns
returns g c = record { went = went-taken c.args.floor.now c.args.player.now c.take.new.player c.take_to_end.new.player c.take.ensures.took.same c.take_to_end.ensures.went }
