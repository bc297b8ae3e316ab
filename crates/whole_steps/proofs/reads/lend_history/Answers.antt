use Rattle.std.proofs.Common.{◌≡◌, ◌∙◌, ℕ, ◌<◌, List, length, ap, arith, reverse, subst, sym}
use Rattle.std.proofs.lemmas.List.{reverse-reverse}
use Rattle.turn_table.specs.{Numbered.value_of, Seat.SeatValue}
use Rattle.core_pages.specs.volap_cell.specs.{Setting.ledger_cell, declared.{actor.Actor.Actor, cell.Cell.Cell}}
use Rattle.row_ledger.specs.declared.event.Event.{Event}
use Rattle.whole_steps.proofs.Turned.{held-alone, history-held, knows-on, none-held, turned-on}
use Rattle.whole_steps.specs.Seats.{HasTurned, Knows}
use Rattle.whole_steps.proofs.reads.lend_history.Goals as goal

pub take_turn-requires-clause-other : goal.take_turn-requires-clause-other
take_turn-requires-clause-other g c = ap (λ (l : List (ℕ × Cell)). value_of l c.ledger_place-ledger.result) (none-held c.requires.everyone c.requires.bare)

pub take_turn-requires-clause-room : goal.take_turn-requires-clause-room
take_turn-requires-clause-room g c = subst (λ (l : List (ℕ × Cell)). length l < 7) (sym (none-held c.requires.everyone c.requires.bare)) (omega arith)

pub see-requires-clause-held : goal.see-requires-clause-held
see-requires-clause-held g c = (c.take_turn.ensures.took.value, held-alone c.take_turn.ensures.took (none-held c.requires.everyone c.requires.bare))

pub returns-clause-turned : goal.returns-clause-turned
returns-clause-turned g c = turned-on c.args.seat.now c.take_turn.new.seat c.give_turns.new.seat c.take_turn.ensures.took.turned (subst (λ (z : SeatValue Cell Actor Event). HasTurned z c.give_turns.new.seat) c.see.follows.holds-at-none c.give_turns.ensures.turned)

pub returns-clause-knows : goal.returns-clause-knows
returns-clause-knows g c = knows-on (subst (λ (z : SeatValue Cell Actor Event). HasTurned z c.give_turns.new.seat) c.see.follows.holds-at-none c.give_turns.ensures.turned) ledger_cell (subst (Knows c.take_turn.new.seat) c.ledger_place-ledger.ensures (c.take_turn.ensures.took.value, c.take_turn.ensures.took.knows))

pub returns-clause-told : goal.returns-clause-told
returns-clause-told g c =
    let lent : c.events_in.result.now ≡ reverse c.take_turn.new.seat.view.seen = sym (reverse-reverse c.events_in.result.now) ∙ ap reverse (c.events_in.ensures ∙ history-held c.take_turn.ensures.everyone c.ledger_place-ledger.result c.ledger_place-ledger.ensures c.see.result.now c.see.ensures.value) in
    let still : c.give_turns.new.seat.view.seen ≡ c.take_turn.new.seat.view.seen = (subst (λ (z : SeatValue Cell Actor Event). HasTurned z c.give_turns.new.seat) c.see.follows.holds-at-none c.give_turns.ensures.turned).exact (subst (Knows c.take_turn.new.seat) c.ledger_place-ledger.ensures (c.take_turn.ensures.took.value, c.take_turn.ensures.took.knows)) in
    subst (λ (events : List Event). g.T.ReadsHistory.tells c.args.reader.now events c.read.new.self) (lent ∙ ap reverse (sym still)) c.read.ensures.told
