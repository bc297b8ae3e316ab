use Rattle.std.proofs.Common.{ℕ, ◌<◌, ◌≡◌, List, [], ◌∷◌, ◌++◌, Some, Option, refl, sym, ap, ◌∙◌, subst, arith}
use mathlib.Core.Option.{none}
use Rattle.seat_steps.specs.core_steps.specs.declared.reuses.ReuseStep.TheVariants as reuse
use Rattle.job_steps.proofs.{Arms.{order-second, order-third, room-second, room-third}, Reusing.{between-since, next-reused, released-still, reuse-at, reuse-due}}
use Rattle.seat_steps.proofs.Since.{unchanged, unchanged-on}
use Rattle.turn_table.specs.{Numbered.value_of, Seat.cell_count}
use Rattle.seat_steps.specs.volap_cell.specs.Setting.{stock_cell}
use Rattle.job_steps.proofs.reuses.reuse_block.Goals as goal

pub take-requires-clause-cell : goal.take-requires-clause-cell
take-requires-clause-cell g c =
    let f = c.args.floor.now in
    let p = c.args.player.now in
    (next-reused f p c.requires.seated (reuse.Block c.args.gate c.args.block) (reuse-due f p c.requires.between c.args.gate (Some c.args.block) c.requires.released) ((c.args.gate, Some 2) ∷ []) c.requires.held c.args.block (stock_cell ∷ []) refl).0

pub take-requires-clause-other : goal.take-requires-clause-other
take-requires-clause-other g c =
    let f = c.args.floor.now in
    let p = c.args.player.now in
    (next-reused f p c.requires.seated (reuse.Block c.args.gate c.args.block) (reuse-due f p c.requires.between c.args.gate (Some c.args.block) c.requires.released) ((c.args.gate, Some 2) ∷ []) c.requires.held c.args.block (stock_cell ∷ []) refl).1

pub take-requires-clause-rank : goal.take-requires-clause-rank
take-requires-clause-rank g c = order-second c.args.floor.now c.args.player.now c.requires.seated c.args.gate 2 c.requires.held c.args.block 3 (omega arith)

pub take-requires-clause-room : goal.take-requires-clause-room
take-requires-clause-room g c = room-second c.args.floor.now c.args.player.now c.requires.seated c.args.gate 2 c.requires.held

pub take-requires-2-clause-cell : goal.take-requires-2-clause-cell
take-requires-2-clause-cell g c =
    let f = c.args.floor.now in
    let q = c.take.new.player in
    let took = c.take.ensures.took in
    let held = took.ranks ∙ ap (λ (l : List (ℕ × Option ℕ)). l ++ (c.args.block, Some 3) ∷ []) c.requires.held in
    let due = reuse-due f q (between-since (unchanged took.same) c.requires.between) c.args.gate (Some c.args.block) (released-still took c.args.gate (Some c.args.block) c.requires.released) in
    subst (λ (k : ℕ). k < cell_count f.table) (sym c.stock_place.ensures)
    (next-reused f q c.take.ensures.seated (reuse.Block c.args.gate c.args.block) due ((c.args.gate, Some 2) ∷ (c.args.block, Some 3) ∷ []) held stock_cell [] refl).0

pub take-requires-2-clause-other : goal.take-requires-2-clause-other
take-requires-2-clause-other g c =
    let f = c.args.floor.now in
    let q = c.take.new.player in
    let took = c.take.ensures.took in
    let held = took.ranks ∙ ap (λ (l : List (ℕ × Option ℕ)). l ++ (c.args.block, Some 3) ∷ []) c.requires.held in
    let due = reuse-due f q (between-since (unchanged took.same) c.requires.between) c.args.gate (Some c.args.block) (released-still took c.args.gate (Some c.args.block) c.requires.released) in
    subst (λ (k : ℕ). value_of q.seat.view.held k ≡ none) (sym c.stock_place.ensures)
    (next-reused f q c.take.ensures.seated (reuse.Block c.args.gate c.args.block) due ((c.args.gate, Some 2) ∷ (c.args.block, Some 3) ∷ []) held stock_cell [] refl).1

pub take-requires-2-clause-rank : goal.take-requires-2-clause-rank
take-requires-2-clause-rank g c =
    let held = c.take.ensures.took.ranks ∙ ap (λ (l : List (ℕ × Option ℕ)). l ++ (c.args.block, Some 3) ∷ []) c.requires.held in
    order-third c.args.floor.now c.take.new.player c.take.ensures.seated c.args.gate c.args.block 2 3 (omega arith) held c.stock_place.result 7 (omega arith)

pub take-requires-2-clause-room : goal.take-requires-2-clause-room
take-requires-2-clause-room g c =
    let held = c.take.ensures.took.ranks ∙ ap (λ (l : List (ℕ × Option ℕ)). l ++ (c.args.block, Some 3) ∷ []) c.requires.held in
    room-third c.args.floor.now c.take.new.player c.take.ensures.seated c.args.gate c.args.block 2 3 (omega arith) held

pub make_reuse-requires-clause-between : goal.make_reuse-requires-clause-between
make_reuse-requires-clause-between g c = between-since (unchanged-on (unchanged c.take.ensures.took.same) (unchanged c.take-2.ensures.took.same)) c.requires.between

pub make_reuse-requires-clause-due : goal.make_reuse-requires-clause-due
make_reuse-requires-clause-due g c =
    let one = c.take.ensures.took in
    let two = c.take-2.ensures.took in
    reuse-due c.args.floor.now c.take-2.new.player (between-since (unchanged-on (unchanged one.same) (unchanged two.same)) c.requires.between) c.args.gate (Some c.args.block)
    (released-still two c.args.gate (Some c.args.block) (released-still one c.args.gate (Some c.args.block) c.requires.released))

pub make_reuse-requires-clause-at : goal.make_reuse-requires-clause-at
make_reuse-requires-clause-at g c =
    let held = c.take-2.ensures.took.ranks ∙ ap (λ (l : List (ℕ × Option ℕ)). l ++ (c.stock_place.result, Some 7) ∷ []) (c.take.ensures.took.ranks ∙ ap (λ (l : List (ℕ × Option ℕ)). l ++ (c.args.block, Some 3) ∷ []) c.requires.held) in
    reuse-at c.args.floor.now c.take-2.new.player c.take-2.ensures.seated (reuse.Block c.args.gate c.args.block) (make_reuse-requires-clause-due g c)
    ((c.args.gate, Some 2) ∷ (c.args.block, Some 3) ∷ (c.stock_place.result, Some 7) ∷ []) held (ap (λ (k : ℕ). c.args.gate ∷ c.args.block ∷ k ∷ []) c.stock_place.ensures)

pub returns : goal.returns
returns g c = record { reused = λ p same. c.make_reuse.ensures.reused p (unchanged-on same (unchanged-on (unchanged c.take.ensures.took.same) (unchanged c.take-2.ensures.took.same))) }
