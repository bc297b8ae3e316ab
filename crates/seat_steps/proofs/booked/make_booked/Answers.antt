use Rattle.std.proofs.Common.{◌≡◌, ℕ, ◌<◌, [], sym, subst}
use mathlib.Core.Option.{none}
use Rattle.seat_steps.proofs.{Since.{as-before, map-err, map-ok, refused-unchanged, unchanged, unchanged-on}, WithLedger.{booked-asked, booked-at, has-booked, held-below, next-cell, some-held}}
use Rattle.seat_steps.specs.Takes.{Takes}
use Rattle.turn_table.specs.{Numbered.value_of, Seat.{IsInOrder, cell_count}}
use Rattle.seat_steps.proofs.booked.make_booked.Goals as goal

pub take-requires-clause-cell : goal.take-requires-clause-cell
take-requires-clause-cell g c = subst (λ (k : ℕ). k < cell_count c.args.floor.now.table) (sym c.ledger_place.ensures) (next-cell c.args.floor.now c.args.player.now (g.S.CellStep.places c.args.what) c.requires.seated c.requires.due 0 [] c.requires.held.named).0

pub take-requires-clause-other : goal.take-requires-clause-other
take-requires-clause-other g c = subst (λ (k : ℕ). value_of c.args.player.now.seat.view.held k ≡ none) (sym c.ledger_place.ensures) (next-cell c.args.floor.now c.args.player.now (g.S.CellStep.places c.args.what) c.requires.seated c.requires.due 0 [] c.requires.held.named).1

pub take-requires-clause-room : goal.take-requires-clause-room
take-requires-clause-room g c = held-below c.args.floor.now c.args.player.now c.requires.seated 7 c.requires.held.few

pub take-requires-clause-rank : goal.take-requires-clause-rank
take-requires-clause-rank g c = subst (λ (k : ℕ). IsInOrder c.args.player.now.seat.ranks k 8) (sym c.ledger_place.ensures) c.requires.held.order

pub make-requires-clause-some : goal.make-requires-clause-some
make-requires-clause-some g c = (some-held c.args.floor.now c.args.player.now c.take.new.player c.requires.seated c.requires.held (subst (λ (k : ℕ). Takes k 8 c.args.player.now c.take.new.player) c.ledger_place.ensures c.take.ensures.took)).0

pub make-requires-clause-few : goal.make-requires-clause-few
make-requires-clause-few g c = (some-held c.args.floor.now c.args.player.now c.take.new.player c.requires.seated c.requires.held (subst (λ (k : ℕ). Takes k 8 c.args.player.now c.take.new.player) c.ledger_place.ensures c.take.ensures.took)).1

pub make-requires-clause-sees : goal.make-requires-clause-sees
make-requires-clause-sees g c s w e inv seen = c.requires.sees s w c.take.new.player.number

pub make-requires-clause-at : goal.make-requires-clause-at
make-requires-clause-at g c = booked-at c.args.floor.now c.args.player.now c.take.new.player (g.S.CellStep.places c.args.what) c.requires.seated c.take.ensures.seated (subst (λ (k : ℕ). Takes k 8 c.args.player.now c.take.new.player) c.ledger_place.ensures c.take.ensures.took) c.requires.held c.requires.due

pub make-requires-clause-asked : goal.make-requires-clause-asked
make-requires-clause-asked g c = booked-asked c.args.floor.now c.args.player.now c.take.new.player (g.S.CellStep.places c.args.what) c.requires.seated c.take.ensures.seated (subst (λ (k : ℕ). Takes k 8 c.args.player.now c.take.new.player) c.ledger_place.ensures c.take.ensures.took) c.requires.held c.requires.due

pub make-requires-clause-kept : goal.make-requires-clause-kept
make-requires-clause-kept g c = c.requires.kept c.take.new.player (unchanged c.take.ensures.took.same).actor

pub returns-clause-booked : goal.returns-clause-booked
returns-clause-booked g c =
    map-ok c.make.result (has-booked c.args.floor.now c.args.player.now c.take.new.player (g.S.CellStep.places c.args.what) c.requires.seated c.take.ensures.seated (subst (λ (k : ℕ). Takes k 8 c.args.player.now c.take.new.player) c.ledger_place.ensures c.take.ensures.took) c.requires.held c.requires.due c.make.new.player c.requires.sees c.make.ensures.stands) c.make.ensures.made

pub returns-clause-same : goal.returns-clause-same
returns-clause-same g c =
    map-err c.make.result (λ same. as-before c.args.floor.now c.make.ensures.stands (unchanged-on (unchanged c.take.ensures.took.same) same)) (refused-unchanged c.make.result _ _ c.make.ensures.same c.make.ensures.same_actor c.make.ensures.uncounted c.make.ensures.same_seen)
