use Rattle.std.proofs.Common.{◌≡◌, ℕ, ◌<◌, ◌∙◌, List, [], ◌∷◌, ◌++◌, Option, None, Some, refl, sym, ap, subst, arith}
use mathlib.Core.Option.{none}
use Rattle.call_steps.specs.core_steps.specs.declared.reuses.ReuseStep.TheVariants as reuse
use Rattle.core_pages.specs.volap_cell.specs.Setting.{stock_cell}
use Rattle.job_steps.proofs.Reusing.{reuse-due}
use Rattle.turn_table.specs.{Numbered.{numbers_of, value_of}, Seat.cell_count}
use Rattle.whole_steps.proofs.{Alone.{everyone-of, sole-on}, Reusing.{between-on, next-reused, order-second, released-on, reused-before, room-for}}
use Rattle.whole_steps.specs.Sole.{player}
use Rattle.whole_steps.proofs.reuses.reuse_gate.Goals as goal

pub take_turn-requires-clause-everyone : goal.take_turn-requires-clause-everyone
take_turn-requires-clause-everyone g c = everyone-of c.args.floor.now (player c.args.number c.args.actor.now c.args.seat.now) c.requires.sole

pub take_turn-requires-clause-cell : goal.take_turn-requires-clause-cell
take_turn-requires-clause-cell g c =
    let f = c.args.floor.now in
    let p = player c.args.number c.args.actor.now c.args.seat.now in
    subst (λ (k : ℕ). k < cell_count f.table) (sym c.stock_place.ensures)
    (next-reused f p c.requires.sole (reuse.Gate c.args.gate) (reuse-due f p c.requires.between c.args.gate None c.requires.released) ((c.args.gate, Some 2) ∷ []) c.requires.held stock_cell [] refl).0

pub take_turn-requires-clause-other : goal.take_turn-requires-clause-other
take_turn-requires-clause-other g c =
    let f = c.args.floor.now in
    let p = player c.args.number c.args.actor.now c.args.seat.now in
    subst (λ (k : ℕ). value_of p.seat.view.held k ≡ none) (sym c.stock_place.ensures)
    (next-reused f p c.requires.sole (reuse.Gate c.args.gate) (reuse-due f p c.requires.between c.args.gate None c.requires.released) ((c.args.gate, Some 2) ∷ []) c.requires.held stock_cell [] refl).1

pub take_turn-requires-clause-rank : goal.take_turn-requires-clause-rank
take_turn-requires-clause-rank g c = order-second c.stock_place.result 2 c.args.gate 7 c.args.seat.now.ranks (omega arith) c.requires.held

pub take_turn-requires-clause-room : goal.take_turn-requires-clause-room
take_turn-requires-clause-room g c = room-for c.args.floor.now (player c.args.number c.args.actor.now c.args.seat.now) c.requires.sole ((c.args.gate, Some 2) ∷ []) c.requires.held (omega arith)

pub make_reuse-requires-clause-sole : goal.make_reuse-requires-clause-sole
make_reuse-requires-clause-sole g c = sole-on c.args.floor.now (player c.args.number c.args.actor.now c.args.seat.now) c.take_turn.new.seat c.requires.sole c.take_turn.ensures.took.turned c.take_turn.ensures.everyone

pub make_reuse-requires-clause-between : goal.make_reuse-requires-clause-between
make_reuse-requires-clause-between g c = between-on c.args.number c.args.actor.now c.args.seat.now c.take_turn.new.seat c.take_turn.ensures.took.turned c.requires.between

pub make_reuse-requires-clause-held : goal.make_reuse-requires-clause-held
make_reuse-requires-clause-held g c =
    ap (λ (l : List (ℕ × Option ℕ)). numbers_of l) (c.take_turn.ensures.took.ranks ∙ ap (λ (l : List (ℕ × Option ℕ)). l ++ (c.stock_place.result, Some 7) ∷ []) c.requires.held) ∙ (λ i. c.args.gate ∷ c.stock_place.ensures i ∷ [])

pub make_reuse-requires-clause-due : goal.make_reuse-requires-clause-due
make_reuse-requires-clause-due g c =
    let n = c.args.number in
    let a = c.args.actor.now in
    reuse-due c.args.floor.now (player n a c.take_turn.new.seat) (make_reuse-requires-clause-between g c) c.args.gate None (released-on c.stock_place.result 7 n a c.args.seat.now c.take_turn.new.seat c.take_turn.ensures.took c.args.gate None c.requires.released)

pub returns : goal.returns
returns g c = record { reused = reused-before c.args.floor.now c.args.number c.args.actor.now c.make_reuse.new.actor c.args.seat.now c.take_turn.new.seat c.make_reuse.new.seat c.take_turn.ensures.took.turned c.make_reuse.ensures.reused }
