use Rattle.std.proofs.Common.{◌∙◌, ℕ, List, [], ◌∷◌, ◌++◌, Option, Some, sym, ap, subst, arith}
use Rattle.part_steps.specs.{Counts.IsOfEverything, Parts.IsFor, declared.parts.AtGate.AtGate}
use Rattle.seat_steps.specs.declared.looks.Lead.TheVariants as lead
use Rattle.part_steps.proofs.{PartsMade.went-taken, PartsSure.{for-ends, led-on, look-up-sure}}
use Rattle.part_steps.proofs.parts.go_on_at_gate.Goals as goal
use Rattle.turn_table.specs.Numbered.{numbers_of}
use Rattle.seat_steps.specs.volap_cell.specs.{Values.actor_of, declared.actor.Actor.Actor}

pub take_for_part-requires-clause-last : goal.take_for_part-requires-clause-last
take_for_part-requires-clause-last g c = ap (λ (l : List (ℕ × Option ℕ)). numbers_of l ++ c.args.gate ∷ []) (sym c.requires.held)

pub take_for_part-requires-clause-ready : goal.take_for_part-requires-clause-ready
take_for_part-requires-clause-ready g c =
    let due = subst (λ (d : AtGate). IsFor d (actor_of c.args.player.now.actor)) c.in-LooksUp.is c.requires.due in look-up-sure c.args.floor.now c.args.player.now c.args.map c.args.gate c.requires.led due.0 due.1

pub take_for_part-requires-clause-ends : goal.take_for_part-requires-clause-ends
take_for_part-requires-clause-ends g c = for-ends c.args.due c.requires.due

pub enter_or_queue-requires-clause-held : goal.enter_or_queue-requires-clause-held
enter_or_queue-requires-clause-held g c = c.take.ensures.took.ranks ∙ ap (λ (l : List (ℕ × Option ℕ)). l ++ (c.args.gate, Some 2) ∷ []) c.requires.held

pub enter_or_queue-requires-clause-led : goal.enter_or_queue-requires-clause-led
enter_or_queue-requires-clause-led g c = led-on c.take.ensures.took c.args.map (lead.Gate c.args.gate) c.requires.led

pub enter_or_queue-requires-clause-due : goal.enter_or_queue-requires-clause-due
enter_or_queue-requires-clause-due g c =
    subst (λ (x : Actor × AtGate). IsFor x.1 (actor_of x.0)) (λ j. (sym c.take.ensures.took.same.actor j, c.in-Enters.is j)) c.requires.due

pub returns-in-Enters : goal.returns-in-Enters
returns-in-Enters g c = record {
  went = went-taken c.args.floor.now c.args.player.now c.take.new.player c.enter_or_queue.new.player c.take.ensures.took.same c.enter_or_queue.ensures.went;
  kept = c.add.ensures.kept;
  few = λ of_all. c.add.ensures.few;
}

pub read-requires-clause-held : goal.read-requires-clause-held
read-requires-clause-held g c = c.take-in-Reads.ensures.took.ranks ∙ ap (λ (l : List (ℕ × Option ℕ)). l ++ (c.args.gate, Some 2) ∷ []) c.requires.held

pub read-requires-clause-led : goal.read-requires-clause-led
read-requires-clause-led g c = led-on c.take-in-Reads.ensures.took c.args.map (lead.Gate c.args.gate) c.requires.led

pub read-requires-clause-unread : goal.read-requires-clause-unread
read-requires-clause-unread g c =
    subst (λ (x : Actor × AtGate). IsFor x.1 (actor_of x.0)) (λ j. (sym c.take-in-Reads.ensures.took.same.actor j, c.in-Reads.is j)) c.requires.due

pub returns-in-Reads : goal.returns-in-Reads
returns-in-Reads g c = record {
  went = went-taken c.args.floor.now c.args.player.now c.take-in-Reads.new.player c.read.new.player c.take-in-Reads.ensures.took.same c.read.ensures.went;
  kept = (let one = c.add.ensures.kept in let more = c.read.ensures.kept in omega (arith, one, more));
  few = λ of_all.
      let none = c.read.ensures.none (subst (λ (x : Actor). IsOfEverything c.args.floor.now.hierarchy (actor_of x)) (sym c.take-in-Reads.ensures.took.same.actor) of_all) in
      let few = c.add.ensures.few in
      omega (arith, none, few);
}
