use Rattle.std.proofs.Common.{◌≡◌, ℕ, ◌<◌, [], sym, subst}
use mathlib.Core.Option.{none}
use Rattle.turn_table.specs.{Numbered.value_of, Seat.{IsInOrder, cell_count}}
use Rattle.whole_steps.proofs.Adding.{everyone-behind, held-asked, held-at, held-below, held-few, held-there, made-so, next-cell, sole-mid, still-held, waited-so}
use Rattle.whole_steps.proofs.Alone.{everyone-of}
use Rattle.whole_steps.specs.{Seats.TakesCell, Sole.player}
use Rattle.whole_steps.proofs.adds.add.Goals as goal

pub take_turn-requires-clause-everyone : goal.take_turn-requires-clause-everyone
take_turn-requires-clause-everyone g c = everyone-of c.args.floor.now (player c.args.number c.args.actor.now c.args.seat.now) c.requires.sole

pub take_turn-requires-clause-cell : goal.take_turn-requires-clause-cell
take_turn-requires-clause-cell g c =
    subst (λ (k : ℕ). k < cell_count c.args.floor.now.table) (sym c.ledger_place.ensures)
    (next-cell c.args.floor.now (player c.args.number c.args.actor.now c.args.seat.now) (g.S.CellStep.places c.args.what) c.requires.sole c.requires.due 0 [] c.requires.held.named).0

pub take_turn-requires-clause-other : goal.take_turn-requires-clause-other
take_turn-requires-clause-other g c =
    subst (λ (k : ℕ). value_of c.args.seat.now.view.held k ≡ none) (sym c.ledger_place.ensures)
    (next-cell c.args.floor.now (player c.args.number c.args.actor.now c.args.seat.now) (g.S.CellStep.places c.args.what) c.requires.sole c.requires.due 0 [] c.requires.held.named).1

pub take_turn-requires-clause-room : goal.take_turn-requires-clause-room
take_turn-requires-clause-room g c = held-below c.args.floor.now (player c.args.number c.args.actor.now c.args.seat.now) c.requires.sole 7 c.requires.held.few

pub take_turn-requires-clause-rank : goal.take_turn-requires-clause-rank
take_turn-requires-clause-rank g c = subst (λ (k : ℕ). IsInOrder c.args.seat.now.ranks k 8) (sym c.ledger_place.ensures) c.requires.held.order

pub step-made-requires-clause-holds : goal.step-made-requires-clause-holds
step-made-requires-clause-holds g c =
    let f = c.args.floor.now in
    let n = c.args.number in
    let a = c.args.actor.now in
    let was = c.args.seat.now in
    let mid = c.take_turn.new.seat in
    let row = g.S.CellStep.places c.args.what in
    let took = subst (λ (k : ℕ). TakesCell k 8 was mid) c.ledger_place.ensures c.take_turn.ensures.took in
    (sole-mid f n a was mid row c.requires.sole c.take_turn.ensures.everyone took c.requires.held c.requires.due).holds

pub step-made-requires-clause-some : goal.step-made-requires-clause-some
step-made-requires-clause-some g c =
    let f = c.args.floor.now in
    let n = c.args.number in
    let a = c.args.actor.now in
    let was = c.args.seat.now in
    let mid = c.take_turn.new.seat in
    let row = g.S.CellStep.places c.args.what in
    let took = subst (λ (k : ℕ). TakesCell k 8 was mid) c.ledger_place.ensures c.take_turn.ensures.took in
    (held-few f n a was mid row c.requires.sole c.take_turn.ensures.everyone took c.requires.held c.requires.due).0

pub step-made-requires-clause-few : goal.step-made-requires-clause-few
step-made-requires-clause-few g c =
    let f = c.args.floor.now in
    let n = c.args.number in
    let a = c.args.actor.now in
    let was = c.args.seat.now in
    let mid = c.take_turn.new.seat in
    let row = g.S.CellStep.places c.args.what in
    let took = subst (λ (k : ℕ). TakesCell k 8 was mid) c.ledger_place.ensures c.take_turn.ensures.took in
    (held-few f n a was mid row c.requires.sole c.take_turn.ensures.everyone took c.requires.held c.requires.due).1

pub step-made-requires-clause-at : goal.step-made-requires-clause-at
step-made-requires-clause-at g c =
    let f = c.args.floor.now in
    let n = c.args.number in
    let a = c.args.actor.now in
    let was = c.args.seat.now in
    let mid = c.take_turn.new.seat in
    let row = g.S.CellStep.places c.args.what in
    let took = subst (λ (k : ℕ). TakesCell k 8 was mid) c.ledger_place.ensures c.take_turn.ensures.took in
    held-at f n a was mid row c.requires.sole c.take_turn.ensures.everyone took c.requires.held c.requires.due

pub step-made-requires-clause-asked : goal.step-made-requires-clause-asked
step-made-requires-clause-asked g c =
    let f = c.args.floor.now in
    let n = c.args.number in
    let a = c.args.actor.now in
    let was = c.args.seat.now in
    let mid = c.take_turn.new.seat in
    let row = g.S.CellStep.places c.args.what in
    let took = subst (λ (k : ℕ). TakesCell k 8 was mid) c.ledger_place.ensures c.take_turn.ensures.took in
    held-asked f n a was mid row c.requires.sole c.take_turn.ensures.everyone took c.requires.held c.requires.due

pub step-made-requires-clause-sees : goal.step-made-requires-clause-sees
step-made-requires-clause-sees g c =
    let f = c.args.floor.now in
    let n = c.args.number in
    let a = c.args.actor.now in
    let was = c.args.seat.now in
    let mid = c.take_turn.new.seat in
    let row = g.S.CellStep.places c.args.what in
    let took = subst (λ (k : ℕ). TakesCell k 8 was mid) c.ledger_place.ensures c.take_turn.ensures.took in
    c.requires.sees mid took.turned

pub step-made-requires-clause-left : goal.step-made-requires-clause-left
step-made-requires-clause-left g c =
    let f = c.args.floor.now in
    let n = c.args.number in
    let a = c.args.actor.now in
    let was = c.args.seat.now in
    let mid = c.take_turn.new.seat in
    let row = g.S.CellStep.places c.args.what in
    let took = subst (λ (k : ℕ). TakesCell k 8 was mid) c.ledger_place.ensures c.take_turn.ensures.took in
    still-held f (g.S.CellStep.kind c.args.what) (g.S.CellStep.sees c.args.what) (g.S.CellStep.tells c.args.what) row n a a was mid mid mid (sole-mid f n a was mid row c.requires.sole c.take_turn.ensures.everyone took c.requires.held c.requires.due) c.requires.kept (held-at f n a was mid row c.requires.sole c.take_turn.ensures.everyone took c.requires.held c.requires.due) took.turned

pub give_turns-requires : goal.give_turns-requires
give_turns-requires g c =
    let f = c.args.floor.now in
    let n = c.args.number in
    let a = c.args.actor.now in
    let was = c.args.seat.now in
    let mid = c.take_turn.new.seat in
    let row = g.S.CellStep.places c.args.what in
    let took = subst (λ (k : ℕ). TakesCell k 8 was mid) c.ledger_place.ensures c.take_turn.ensures.took in
    record {
      everyone = everyone-behind f (g.S.CellStep.kind c.args.what) (g.S.CellStep.sees c.args.what) (g.S.CellStep.tells c.args.what) row n a c.step-made.new.actor was mid c.step-made.new.seat c.step-made.new.seat (sole-mid f n a was mid row c.requires.sole c.take_turn.ensures.everyone took c.requires.held c.requires.due) c.requires.kept (held-at f n a was mid row c.requires.sole c.take_turn.ensures.everyone took c.requires.held c.requires.due) took.turned
          c.step-made.ensures.holds c.step-made.result c.step-made.ensures.went c.step-made.ensures.same;
    }

pub returns-clause-made : goal.returns-clause-made
returns-clause-made g c =
    let f = c.args.floor.now in
    let n = c.args.number in
    let a = c.args.actor.now in
    let was = c.args.seat.now in
    let mid = c.take_turn.new.seat in
    let row = g.S.CellStep.places c.args.what in
    let took = subst (λ (k : ℕ). TakesCell k 8 was mid) c.ledger_place.ensures c.take_turn.ensures.took in
    made-so f (g.S.CellStep.kind c.args.what) (g.S.CellStep.sees c.args.what) (g.S.CellStep.tells c.args.what) row n a c.step-made.new.actor was mid c.step-made.new.seat c.give_turns.new.seat (sole-mid f n a was mid row c.requires.sole c.take_turn.ensures.everyone took c.requires.held c.requires.due) c.requires.kept (held-at f n a was mid row c.requires.sole c.take_turn.ensures.everyone took c.requires.held c.requires.due) took.turned
    c.step-made.ensures.holds (held-there f n a was mid row c.requires.sole c.take_turn.ensures.everyone took c.requires.held c.requires.due) c.step-made.result c.give_turns.ensures.turned c.give_turns.ensures.everyone c.give_turns.ensures.bare c.step-made.ensures.went

pub returns-clause-same : goal.returns-clause-same
returns-clause-same g c =
    let f = c.args.floor.now in
    let n = c.args.number in
    let a = c.args.actor.now in
    let was = c.args.seat.now in
    let mid = c.take_turn.new.seat in
    let row = g.S.CellStep.places c.args.what in
    let took = subst (λ (k : ℕ). TakesCell k 8 was mid) c.ledger_place.ensures c.take_turn.ensures.took in
    waited-so f n a c.step-made.new.actor was mid c.step-made.new.seat c.give_turns.new.seat (sole-mid f n a was mid row c.requires.sole c.take_turn.ensures.everyone took c.requires.held c.requires.due) took.turned (took.value, took.knows)
    c.step-made.result c.step-made.ensures.same c.step-made.ensures.uncounted c.give_turns.ensures.turned c.give_turns.ensures.everyone c.give_turns.ensures.bare
