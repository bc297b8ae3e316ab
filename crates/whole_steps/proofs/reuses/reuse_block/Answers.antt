use Rattle.std.proofs.Common.{◌≡◌, ℕ, ◌<◌, ◌∙◌, List, [], ◌∷◌, ◌++◌, Option, Some, refl, sym, ap, subst, arith}
use mathlib.Core.Option.{none}
use Rattle.call_steps.specs.core_steps.specs.declared.reuses.ReuseStep.TheVariants as reuse
use Rattle.core_pages.specs.volap_cell.specs.Setting.{stock_cell}
use Rattle.job_steps.proofs.Reusing.{reuse-due}
use Rattle.turn_table.specs.{Numbered.{numbers_of, value_of}, Seat.cell_count}
use Rattle.whole_steps.proofs.{Alone.{everyone-of, sole-on}, Reusing.{between-on, next-reused, order-second, order-third, released-on, reused-before, room-for}, Turned.turned-on}
use Rattle.whole_steps.specs.Sole.{player}
use Rattle.whole_steps.proofs.reuses.reuse_block.Goals as goal

pub take_turn-requires-clause-everyone : goal.take_turn-requires-clause-everyone
take_turn-requires-clause-everyone g c = everyone-of c.args.floor.now (player c.args.number c.args.actor.now c.args.seat.now) c.requires.sole

pub take_turn-requires-clause-cell : goal.take_turn-requires-clause-cell
take_turn-requires-clause-cell g c =
    let f = c.args.floor.now in
    let p = player c.args.number c.args.actor.now c.args.seat.now in
    (next-reused f p c.requires.sole (reuse.Block c.args.gate c.args.block) (reuse-due f p c.requires.between c.args.gate (Some c.args.block) c.requires.released) ((c.args.gate, Some 2) ∷ []) c.requires.held c.args.block (stock_cell ∷ []) refl).0

pub take_turn-requires-clause-other : goal.take_turn-requires-clause-other
take_turn-requires-clause-other g c =
    let f = c.args.floor.now in
    let p = player c.args.number c.args.actor.now c.args.seat.now in
    (next-reused f p c.requires.sole (reuse.Block c.args.gate c.args.block) (reuse-due f p c.requires.between c.args.gate (Some c.args.block) c.requires.released) ((c.args.gate, Some 2) ∷ []) c.requires.held c.args.block (stock_cell ∷ []) refl).1

pub take_turn-requires-clause-rank : goal.take_turn-requires-clause-rank
take_turn-requires-clause-rank g c = order-second c.args.block 2 c.args.gate 3 c.args.seat.now.ranks (omega arith) c.requires.held

pub take_turn-requires-clause-room : goal.take_turn-requires-clause-room
take_turn-requires-clause-room g c = room-for c.args.floor.now (player c.args.number c.args.actor.now c.args.seat.now) c.requires.sole ((c.args.gate, Some 2) ∷ []) c.requires.held (omega arith)

pub take_turn-requires-2-clause-cell : goal.take_turn-requires-2-clause-cell
take_turn-requires-2-clause-cell g c =
    let f = c.args.floor.now in
    let n = c.args.number in
    let a = c.args.actor.now in
    let was = c.args.seat.now in
    let mid = c.take_turn.new.seat in
    let took = c.take_turn.ensures.took in
    let sole = sole-on f (player n a was) mid c.requires.sole took.turned c.take_turn.ensures.everyone in
    let due = reuse-due f (player n a mid) (between-on n a was mid took.turned c.requires.between) c.args.gate (Some c.args.block) (released-on c.args.block 3 n a was mid took c.args.gate (Some c.args.block) c.requires.released) in
    let held = took.ranks ∙ ap (λ (l : List (ℕ × Option ℕ)). l ++ (c.args.block, Some 3) ∷ []) c.requires.held in
    subst (λ (k : ℕ). k < cell_count f.table) (sym c.stock_place.ensures) (next-reused f (player n a mid) sole (reuse.Block c.args.gate c.args.block) due ((c.args.gate, Some 2) ∷ (c.args.block, Some 3) ∷ []) held stock_cell [] refl).0

pub take_turn-requires-2-clause-other : goal.take_turn-requires-2-clause-other
take_turn-requires-2-clause-other g c =
    let f = c.args.floor.now in
    let n = c.args.number in
    let a = c.args.actor.now in
    let was = c.args.seat.now in
    let mid = c.take_turn.new.seat in
    let took = c.take_turn.ensures.took in
    let sole = sole-on f (player n a was) mid c.requires.sole took.turned c.take_turn.ensures.everyone in
    let due = reuse-due f (player n a mid) (between-on n a was mid took.turned c.requires.between) c.args.gate (Some c.args.block) (released-on c.args.block 3 n a was mid took c.args.gate (Some c.args.block) c.requires.released) in
    let held = took.ranks ∙ ap (λ (l : List (ℕ × Option ℕ)). l ++ (c.args.block, Some 3) ∷ []) c.requires.held in
    subst (λ (k : ℕ). value_of mid.view.held k ≡ none) (sym c.stock_place.ensures) (next-reused f (player n a mid) sole (reuse.Block c.args.gate c.args.block) due ((c.args.gate, Some 2) ∷ (c.args.block, Some 3) ∷ []) held stock_cell [] refl).1

pub take_turn-requires-2-clause-rank : goal.take_turn-requires-2-clause-rank
take_turn-requires-2-clause-rank g c =
    order-third c.stock_place.result 2 c.args.gate 3 c.args.block 7 c.take_turn.new.seat.ranks (omega arith) (omega arith) (c.take_turn.ensures.took.ranks ∙ ap (λ (l : List (ℕ × Option ℕ)). l ++ (c.args.block, Some 3) ∷ []) c.requires.held)

pub take_turn-requires-2-clause-room : goal.take_turn-requires-2-clause-room
take_turn-requires-2-clause-room g c =
    let f = c.args.floor.now in
    let p = player c.args.number c.args.actor.now c.args.seat.now in
    let mid = c.take_turn.new.seat in
    let took = c.take_turn.ensures.took in
    room-for f (player c.args.number c.args.actor.now mid) (sole-on f p mid c.requires.sole took.turned c.take_turn.ensures.everyone) ((c.args.gate, Some 2) ∷ (c.args.block, Some 3) ∷ []) (took.ranks ∙ ap (λ (l : List (ℕ × Option ℕ)). l ++ (c.args.block, Some 3) ∷ []) c.requires.held) (omega arith)

pub make_reuse-requires-clause-sole : goal.make_reuse-requires-clause-sole
make_reuse-requires-clause-sole g c =
    let was = c.args.seat.now in
    let turned = turned-on was c.take_turn.new.seat c.take_turn-2.new.seat c.take_turn.ensures.took.turned c.take_turn-2.ensures.took.turned in
    sole-on c.args.floor.now (player c.args.number c.args.actor.now was) c.take_turn-2.new.seat c.requires.sole turned c.take_turn-2.ensures.everyone

pub make_reuse-requires-clause-between : goal.make_reuse-requires-clause-between
make_reuse-requires-clause-between g c =
    let was = c.args.seat.now in
    between-on c.args.number c.args.actor.now was c.take_turn-2.new.seat (turned-on was c.take_turn.new.seat c.take_turn-2.new.seat c.take_turn.ensures.took.turned c.take_turn-2.ensures.took.turned) c.requires.between

pub make_reuse-requires-clause-held : goal.make_reuse-requires-clause-held
make_reuse-requires-clause-held g c =
    let held = c.take_turn.ensures.took.ranks ∙ ap (λ (l : List (ℕ × Option ℕ)). l ++ (c.args.block, Some 3) ∷ []) c.requires.held in
    ap (λ (l : List (ℕ × Option ℕ)). numbers_of l) (c.take_turn-2.ensures.took.ranks ∙ ap (λ (l : List (ℕ × Option ℕ)). l ++ (c.stock_place.result, Some 7) ∷ []) held) ∙ (λ i. c.args.gate ∷ c.args.block ∷ c.stock_place.ensures i ∷ [])

pub make_reuse-requires-clause-due : goal.make_reuse-requires-clause-due
make_reuse-requires-clause-due g c =
    let n = c.args.number in
    let a = c.args.actor.now in
    let was = c.args.seat.now in
    let one = c.take_turn.ensures.took in
    let two = c.take_turn-2.ensures.took in
    let released = released-on c.args.block 3 n a was c.take_turn.new.seat one c.args.gate (Some c.args.block) c.requires.released in
    reuse-due c.args.floor.now (player n a c.take_turn-2.new.seat) (make_reuse-requires-clause-between g c) c.args.gate (Some c.args.block) (released-on c.stock_place.result 7 n a c.take_turn.new.seat c.take_turn-2.new.seat two c.args.gate (Some c.args.block) released)

pub returns : goal.returns
returns g c = record {
  reused = (
      let was = c.args.seat.now in
      let turned = turned-on was c.take_turn.new.seat c.take_turn-2.new.seat c.take_turn.ensures.took.turned c.take_turn-2.ensures.took.turned in
      reused-before c.args.floor.now c.args.number c.args.actor.now c.make_reuse.new.actor was c.take_turn-2.new.seat c.make_reuse.new.seat turned c.make_reuse.ensures.reused);
}
