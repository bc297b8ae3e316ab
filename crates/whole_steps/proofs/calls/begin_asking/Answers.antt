use Rattle.std.proofs.Common.{◌∙◌, ℕ, ◌<◌, List, [], ◌∷◌, ◌++◌, length, Option, Some, ap, sym, subst, arith}
use Rattle.call_steps.proofs.CallsDue.{asking-asked, both-due}
use Rattle.call_steps.specs.core_steps.specs.{Notes.note_asks, Places.two_at}
use Rattle.call_steps.specs.core_steps.specs.declared.notes.NoteStep.TheVariants.{Asking}
use Rattle.call_steps.specs.part_steps.proofs.Keeping.{note-kept}
use Rattle.call_steps.specs.seat_steps.proofs.{HeldLedger.tells-held, Ranks.order-none, WithLedger.up-one}
use Rattle.turn_table.specs.{Numbered.value_of, Seat.{IsInOrder}}
use Rattle.core_pages.specs.volap_cell.specs.{Setting.{ledger_cell, registry_cell}, Values.ActorValue, declared.cell.Cell.Cell}
use Rattle.whole_steps.proofs.{Adding.registry-within, Alone.{everyone-of, sole-on}, Calling.{called-before, due-before, due-sole, waited-before}, Turned.none-held}
use Rattle.whole_steps.specs.Sole.{player}
use Rattle.whole_steps.proofs.calls.begin_asking.Goals as goal

pub take_turn-requires-clause-everyone : goal.take_turn-requires-clause-everyone
take_turn-requires-clause-everyone g c = everyone-of c.args.floor.now (player c.args.number c.args.actor.now c.args.seat.now) c.requires.stands.sole

pub take_turn-requires-clause-cell : goal.take_turn-requires-clause-cell
take_turn-requires-clause-cell g c = registry-within c.args.floor.now (player c.args.number c.args.actor.now c.args.seat.now) c.requires.stands.sole c.registry_place.result c.registry_place.ensures

pub take_turn-requires-clause-other : goal.take_turn-requires-clause-other
take_turn-requires-clause-other g c = ap (λ (l : List (ℕ × Cell)). value_of l c.registry_place.result) (none-held (everyone-of c.args.floor.now (player c.args.number c.args.actor.now c.args.seat.now) c.requires.stands.sole) c.requires.stands.bare)

pub take_turn-requires-clause-room : goal.take_turn-requires-clause-room
take_turn-requires-clause-room g c = subst (λ (l : List (ℕ × Cell)). length l < 7) (sym (none-held (everyone-of c.args.floor.now (player c.args.number c.args.actor.now c.args.seat.now) c.requires.stands.sole) c.requires.stands.bare)) (omega arith)

pub take_turn-requires-clause-rank : goal.take_turn-requires-clause-rank
take_turn-requires-clause-rank g c = subst (λ (l : List (ℕ × Option ℕ)). IsInOrder l c.registry_place.result 6) (sym c.requires.stands.bare) (order-none c.registry_place.result 6)

pub add-requires-clause-sole : goal.add-requires-clause-sole
add-requires-clause-sole g c = sole-on c.args.floor.now (player c.args.number c.args.actor.now c.args.seat.now) c.take_turn.new.seat c.requires.stands.sole c.take_turn.ensures.took.turned c.take_turn.ensures.everyone

pub add-requires-clause-held : goal.add-requires-clause-held
add-requires-clause-held g c =
    up-one (player c.args.number c.args.actor.now c.take_turn.new.seat) registry_cell 6 (omega arith)
    (c.take_turn.ensures.took.ranks ∙ ap (λ (l : List (ℕ × Option ℕ)). l ++ (c.registry_place.result, Some 6) ∷ []) c.requires.stands.bare ∙ (λ k. (c.registry_place.ensures k, Some 6) ∷ []))

pub add-requires-clause-due : goal.add-requires-clause-due
add-requires-clause-due g c =
    let f = c.args.floor.now in
    let n = c.args.number in
    let a = c.args.actor.now in
    let p = player n a c.args.seat.now in
    due-sole f (player c.args.number c.args.actor.now c.take_turn.new.seat) (two_at registry_cell ledger_cell)
    (due-before f n a c.args.seat.now c.take_turn.new.seat (two_at registry_cell ledger_cell) c.take_turn.ensures.took
    (ap (λ (l : List (ℕ × Cell)). value_of l ledger_cell) (none-held (everyone-of f p c.requires.stands.sole) c.requires.stands.bare))
    (both-due f p (note_asks (Asking c.args.call f.with.workers)) (λ s w is. asking-asked f p c.args.call.now c.requires.begins s w is c.requires.asks)))

pub add-requires-clause-sees : goal.add-requires-clause-sees
add-requires-clause-sees g c now turned s w about inv seen = tt

pub add-requires-clause-kept : goal.add-requires-clause-kept
add-requires-clause-kept g c q e = note-kept c.args.floor.now.hierarchy q (Asking c.args.call c.args.floor.now.with.workers) (ap (λ (a : ActorValue). a.errand) e ∙ c.requires.begins.free.errand)

pub returns-clause-begun : goal.returns-clause-begun
returns-clause-begun g c =
    called-before c.args.floor.now c.args.number c.args.actor.now c.add.new.actor c.args.seat.now c.take_turn.new.seat c.add.new.seat c.requires.stands.sole c.take_turn.ensures.everyone c.take_turn.ensures.took c.args.call.now c.requires.begins c.add.result
    (λ has. tells-held has.made has.at) c.add.ensures.made

pub returns-clause-same : goal.returns-clause-same
returns-clause-same g c = waited-before c.args.floor.now c.args.number c.args.actor.now c.add.new.actor c.args.seat.now c.take_turn.new.seat c.add.new.seat c.take_turn.ensures.took.turned c.add.result c.add.ensures.same
