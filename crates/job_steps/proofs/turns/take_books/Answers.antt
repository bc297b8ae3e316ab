use Rattle.std.proofs.Common.{◌≡◌, ◌<◌, ℕ, sym, subst, arith}
use mathlib.Core.Option.{none}
use Rattle.job_steps.proofs.Cells.{behind-one, may-rest, takes-on, takes-one}
use Rattle.seat_steps.specs.Takes.{Takes}
use Rattle.turn_table.specs.{Numbered.value_of, Seat.cell_count}
use Rattle.seat_steps.specs.volap_cell.specs.Setting.{ledger_cell, registry_cell, stock_cell}
use Rattle.job_steps.proofs.turns.take_books.Goals as goal

pub take-requires-clause-cell : goal.take-requires-clause-cell
take-requires-clause-cell g c = subst (λ (k : ℕ). k < cell_count c.args.floor.now.table) (sym c.registry_place.ensures) c.requires.may.within.0

pub take-requires-clause-other : goal.take-requires-clause-other
take-requires-clause-other g c = subst (λ (k : ℕ). value_of c.args.player.now.seat.view.held k ≡ none) (sym c.registry_place.ensures) c.requires.may.other.0

pub take-requires-clause-rank : goal.take-requires-clause-rank
take-requires-clause-rank g c = c.requires.behind c.registry_place.result 6 (omega arith)

pub take-requires-clause-room : goal.take-requires-clause-room
take-requires-clause-room g c = (let room = c.requires.may.room in omega (arith, room))

pub take-requires-2-clause-cell : goal.take-requires-2-clause-cell
take-requires-2-clause-cell g c = subst (λ (k : ℕ). k < cell_count c.args.floor.now.table) (sym c.stock_place.ensures) (may-rest (subst (λ (k : ℕ). Takes k 6 c.args.player.now c.take.new.player) c.registry_place.ensures c.take.ensures.took) c.requires.may).within.0

pub take-requires-2-clause-other : goal.take-requires-2-clause-other
take-requires-2-clause-other g c = subst (λ (k : ℕ). value_of c.take.new.player.seat.view.held k ≡ none) (sym c.stock_place.ensures) (may-rest (subst (λ (k : ℕ). Takes k 6 c.args.player.now c.take.new.player) c.registry_place.ensures c.take.ensures.took) c.requires.may).other.0

pub take-requires-2-clause-rank : goal.take-requires-2-clause-rank
take-requires-2-clause-rank g c = (behind-one (c.requires.behind registry_cell 6 (omega arith)) (subst (λ (k : ℕ). Takes k 6 c.args.player.now c.take.new.player) c.registry_place.ensures c.take.ensures.took)) c.stock_place.result 7 (omega arith)

pub take-requires-2-clause-room : goal.take-requires-2-clause-room
take-requires-2-clause-room g c = (let room = (may-rest (subst (λ (k : ℕ). Takes k 6 c.args.player.now c.take.new.player) c.registry_place.ensures c.take.ensures.took) c.requires.may).room in omega (arith, room))

pub take-requires-3-clause-cell : goal.take-requires-3-clause-cell
take-requires-3-clause-cell g c = subst (λ (k : ℕ). k < cell_count c.args.floor.now.table) (sym c.ledger_place.ensures) (may-rest (subst (λ (k : ℕ). Takes k 7 c.take.new.player c.take-2.new.player) c.stock_place.ensures c.take-2.ensures.took) (may-rest (subst (λ (k : ℕ). Takes k 6 c.args.player.now c.take.new.player) c.registry_place.ensures c.take.ensures.took) c.requires.may)).within.0

pub take-requires-3-clause-other : goal.take-requires-3-clause-other
take-requires-3-clause-other g c = subst (λ (k : ℕ). value_of c.take-2.new.player.seat.view.held k ≡ none) (sym c.ledger_place.ensures) (may-rest (subst (λ (k : ℕ). Takes k 7 c.take.new.player c.take-2.new.player) c.stock_place.ensures c.take-2.ensures.took) (may-rest (subst (λ (k : ℕ). Takes k 6 c.args.player.now c.take.new.player) c.registry_place.ensures c.take.ensures.took) c.requires.may)).other.0

pub take-requires-3-clause-rank : goal.take-requires-3-clause-rank
take-requires-3-clause-rank g c = (behind-one ((behind-one (c.requires.behind registry_cell 6 (omega arith)) (subst (λ (k : ℕ). Takes k 6 c.args.player.now c.take.new.player) c.registry_place.ensures c.take.ensures.took)) stock_cell 7 (omega arith)) (subst (λ (k : ℕ). Takes k 7 c.take.new.player c.take-2.new.player) c.stock_place.ensures c.take-2.ensures.took)) c.ledger_place.result 8 (omega arith)

pub take-requires-3-clause-room : goal.take-requires-3-clause-room
take-requires-3-clause-room g c = (let room = (may-rest (subst (λ (k : ℕ). Takes k 7 c.take.new.player c.take-2.new.player) c.stock_place.ensures c.take-2.ensures.took) (may-rest (subst (λ (k : ℕ). Takes k 6 c.args.player.now c.take.new.player) c.registry_place.ensures c.take.ensures.took) c.requires.may)).room in omega (arith, room))

pub returns-clause-took : goal.returns-clause-took
returns-clause-took g c =
    takes-on (takes-one c.requires.may.other.0 (c.requires.behind registry_cell 6 (omega arith)) (subst (λ (k : ℕ). Takes k 6 c.args.player.now c.take.new.player) c.registry_place.ensures c.take.ensures.took))
    (takes-on (takes-one (may-rest (subst (λ (k : ℕ). Takes k 6 c.args.player.now c.take.new.player) c.registry_place.ensures c.take.ensures.took) c.requires.may).other.0 ((behind-one (c.requires.behind registry_cell 6 (omega arith)) (subst (λ (k : ℕ). Takes k 6 c.args.player.now c.take.new.player) c.registry_place.ensures c.take.ensures.took)) stock_cell 7 (omega arith)) (subst (λ (k : ℕ). Takes k 7 c.take.new.player c.take-2.new.player) c.stock_place.ensures c.take-2.ensures.took)) (takes-one (may-rest (subst (λ (k : ℕ). Takes k 7 c.take.new.player c.take-2.new.player) c.stock_place.ensures c.take-2.ensures.took) (may-rest (subst (λ (k : ℕ). Takes k 6 c.args.player.now c.take.new.player) c.registry_place.ensures c.take.ensures.took) c.requires.may)).other.0 ((behind-one ((behind-one (c.requires.behind registry_cell 6 (omega arith)) (subst (λ (k : ℕ). Takes k 6 c.args.player.now c.take.new.player) c.registry_place.ensures c.take.ensures.took)) stock_cell 7 (omega arith)) (subst (λ (k : ℕ). Takes k 7 c.take.new.player c.take-2.new.player) c.stock_place.ensures c.take-2.ensures.took)) ledger_cell 8 (omega arith)) (subst (λ (k : ℕ). Takes k 8 c.take-2.new.player c.take-3.new.player) c.ledger_place.ensures c.take-3.ensures.took)))
