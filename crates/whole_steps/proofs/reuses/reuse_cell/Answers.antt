use Rattle.std.proofs.Common.{◌∙◌, ℕ, ◌<◌, List, [], ◌∷◌, ◌++◌, length, Option, None, Some, ap, subst, sym, arith}
use Rattle.call_steps.specs.seat_steps.proofs.Ranks.{order-none}
use Rattle.turn_table.specs.{Numbered.value_of, Seat.{IsInOrder, SeatValue}}
use Rattle.core_pages.specs.volap_cell.specs.declared.{actor.Actor.Actor, cell.Cell.Cell}
use Rattle.row_ledger.specs.declared.event.Event.{Event}
use Rattle.whole_steps.proofs.{Alone.{everyone-of, sole-on}, Reusing.{held-gate, listed-within, reused-before, turned-look}, Turned.{held-alone, none-held}}
use Rattle.whole_steps.specs.Sole.{IsSole, player}
use Rattle.whole_steps.proofs.reuses.reuse_cell.Goals as goal

pub take_turn-requires-clause-everyone : goal.take_turn-requires-clause-everyone
take_turn-requires-clause-everyone g c = everyone-of c.args.floor.now (player c.args.number c.args.actor.now c.args.seat.now) c.requires.stands.sole

pub take_turn-requires-clause-cell : goal.take_turn-requires-clause-cell
take_turn-requires-clause-cell g c = listed-within c.args.floor.now (player c.args.number c.args.actor.now c.args.seat.now) c.requires.stands.sole c.requires.between c.args.gate c.requires.listed

pub take_turn-requires-clause-other : goal.take_turn-requires-clause-other
take_turn-requires-clause-other g c = ap (λ (l : List (ℕ × Cell)). value_of l c.args.gate) (none-held (take_turn-requires-clause-everyone g c) c.requires.stands.bare)

pub take_turn-requires-clause-rank : goal.take_turn-requires-clause-rank
take_turn-requires-clause-rank g c = subst (λ (l : List (ℕ × Option ℕ)). IsInOrder l c.args.gate 2) (sym c.requires.stands.bare) (order-none c.args.gate 2)

pub take_turn-requires-clause-room : goal.take_turn-requires-clause-room
take_turn-requires-clause-room g c = subst (λ (l : List (ℕ × Cell)). length l < 7) (sym (none-held (take_turn-requires-clause-everyone g c) c.requires.stands.bare)) (omega arith)

pub last_gone_at-requires-clause-held : goal.last_gone_at-requires-clause-held
last_gone_at-requires-clause-held g c = (c.take_turn.ensures.took.value, held-alone c.take_turn.ensures.took (none-held (everyone-of c.args.floor.now (player c.args.number c.args.actor.now c.args.seat.now) c.requires.stands.sole) c.requires.stands.bare))

pub reuse_block-requires-clause-sole : goal.reuse_block-requires-clause-sole
reuse_block-requires-clause-sole g c =
    subst (λ (s : SeatValue Cell Actor Event). IsSole c.args.floor.now (player c.args.number c.args.actor.now s)) (sym c.last_gone_at.ensures.same)
    (sole-on c.args.floor.now (player c.args.number c.args.actor.now c.args.seat.now) c.take_turn.new.seat c.requires.stands.sole c.take_turn.ensures.took.turned c.take_turn.ensures.everyone)

pub reuse_block-requires-clause-between : goal.reuse_block-requires-clause-between
reuse_block-requires-clause-between g c = record { role = c.requires.between.role; no_command = c.requires.between.no_command; no_part = c.requires.between.no_part }

pub reuse_block-requires-clause-held : goal.reuse_block-requires-clause-held
reuse_block-requires-clause-held g c = ap (λ (s : SeatValue Cell Actor Event). s.ranks) c.last_gone_at.ensures.same ∙ c.take_turn.ensures.took.ranks ∙ ap (λ (l : List (ℕ × Option ℕ)). l ++ (c.args.gate, Some 2) ∷ []) c.requires.stands.bare

pub reuse_block-requires-clause-released : goal.reuse_block-requires-clause-released
reuse_block-requires-clause-released g c =
    held-gate c.args.floor.now c.args.number c.args.actor.now c.args.seat.now c.take_turn.new.seat c.last_gone_at.new.seat c.requires.stands c.requires.between c.args.gate 2 c.requires.listed c.take_turn.ensures.everyone c.take_turn.ensures.took c.last_gone_at.ensures.same (Some c.in-Some.block)
    (λ d e. sym c.in-Some.is ∙ c.last_gone_at.ensures.last d e)

pub reuse_gate-requires-clause-sole : goal.reuse_gate-requires-clause-sole
reuse_gate-requires-clause-sole g c =
    subst (λ (s : SeatValue Cell Actor Event). IsSole c.args.floor.now (player c.args.number c.args.actor.now s)) (sym c.last_gone_at.ensures.same)
    (sole-on c.args.floor.now (player c.args.number c.args.actor.now c.args.seat.now) c.take_turn.new.seat c.requires.stands.sole c.take_turn.ensures.took.turned c.take_turn.ensures.everyone)

pub reuse_gate-requires-clause-between : goal.reuse_gate-requires-clause-between
reuse_gate-requires-clause-between g c = record { role = c.requires.between.role; no_command = c.requires.between.no_command; no_part = c.requires.between.no_part }

pub reuse_gate-requires-clause-held : goal.reuse_gate-requires-clause-held
reuse_gate-requires-clause-held g c = ap (λ (s : SeatValue Cell Actor Event). s.ranks) c.last_gone_at.ensures.same ∙ c.take_turn.ensures.took.ranks ∙ ap (λ (l : List (ℕ × Option ℕ)). l ++ (c.args.gate, Some 2) ∷ []) c.requires.stands.bare

pub reuse_gate-requires-clause-released : goal.reuse_gate-requires-clause-released
reuse_gate-requires-clause-released g c =
    held-gate c.args.floor.now c.args.number c.args.actor.now c.args.seat.now c.take_turn.new.seat c.last_gone_at.new.seat c.requires.stands c.requires.between c.args.gate 2 c.requires.listed c.take_turn.ensures.everyone c.take_turn.ensures.took c.last_gone_at.ensures.same None
    (λ d e. sym c.in-None.is ∙ c.last_gone_at.ensures.last d e)

pub returns-in-Some : goal.returns-in-Some
returns-in-Some g c = record { reused = reused-before c.args.floor.now c.args.number c.args.actor.now c.reuse_block.new.actor c.args.seat.now c.last_gone_at.new.seat c.reuse_block.new.seat (turned-look c.last_gone_at.ensures.same c.take_turn.ensures.took.turned) c.reuse_block.ensures.reused }

pub returns-in-None : goal.returns-in-None
returns-in-None g c = record { reused = reused-before c.args.floor.now c.args.number c.args.actor.now c.reuse_gate.new.actor c.args.seat.now c.last_gone_at.new.seat c.reuse_gate.new.seat (turned-look c.last_gone_at.ensures.same c.take_turn.ensures.took.turned) c.reuse_gate.ensures.reused }
