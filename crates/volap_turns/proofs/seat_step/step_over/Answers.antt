use Rattle.std.proofs.Common.{◌≡◌, ◌∙◌, ◌<◌, ◌≤◌, ℕ, arith, false, length, List, sym, ap, subst}
use mathlib.Core.Option.{some}
use Rattle.core_steps.specs.Places.{things, values}
use Rattle.row_ledger.specs.declared.event.Event.{Event}
use Rattle.turn_table.specs.{Law.sight, Numbered.{HaveOwnNumbers, after_first, numbers_of, replace, value_of}, Seat.SeatValue, Views.after_commit, declared.view.View.View}
use Rattle.core_told.specs.volap_cell.specs.{Setting.{Setting, ledger_cell}, State.still, Steps.IsHere, Values.actor_of, declared.actor.Actor.Actor, declared.cell.Cell.Cell}
use Rattle.volap_turns.specs.{Rows.{AreAt, IsThere, cells_for}, Rule.{Goes, Needs, history_of}}
use Rattle.volap_turns.proofs.{Ordered.{as-many, made-of, over-held}, Known.{event-of, here-of, setting-after}, Turned.{as-err, as-ok, back-same, counted-of, left-of, same-holds, stepped-holds, uncounted-of, when-err, when-ok}}
use Rattle.volap_turns.proofs.seat_step.step_over.Goals as goal

pub made_over-made-requires-clause-few : goal.made_over-made-requires-clause-few
made_over-made-requires-clause-few g c = subst (λ (l : List (ℕ × Cell)). length l ≤ 7) (sym (c.requires.alike c.lift_lot.result ∙ c.lift_lot.ensures.cells)) c.requires.few

pub made_over-made-requires-clause-own : goal.made_over-made-requires-clause-own
made_over-made-requires-clause-own g c = subst (λ (l : List (ℕ × Cell)). HaveOwnNumbers l) (sym (c.requires.alike c.lift_lot.result)) c.lift_lot.ensures.distinct

pub made_over-made-requires-clause-at : goal.made_over-made-requires-clause-at
made_over-made-requires-clause-at g c = subst (λ (l : List (ℕ × Cell)). AreAt (g.S.CellStep.places c.args.what) l) (sym (c.requires.alike c.lift_lot.result ∙ c.lift_lot.ensures.cells)) c.requires.at

pub made_over-made-requires-clause-here : goal.made_over-made-requires-clause-here
made_over-made-requires-clause-here g c =
    let row = g.S.CellStep.places c.args.what in
    let holds = c.requires.holds in
    subst (λ (l : List (ℕ × Cell)). IsHere c.args.h.now (still (things row (cells_for l row))) (actor_of c.args.actor.now)) (sym (c.requires.alike c.lift_lot.result ∙ c.lift_lot.ensures.cells)) (here-of holds.one holds.possible c.requires.at)

pub made_over-made-requires-clause-asked : goal.made_over-made-requires-clause-asked
made_over-made-requires-clause-asked g c =
    let row = g.S.CellStep.places c.args.what in
    subst (λ (l : List (ℕ × Cell)). g.S.CellStep.asks c.args.what c.args.h.now (values (cells_for l row)) (actor_of c.args.actor.now)) (sym (c.requires.alike c.lift_lot.result ∙ c.lift_lot.ensures.cells)) c.requires.asked

pub put_lot_back-requires-clause-cells : goal.put_lot_back-requires-clause-cells
put_lot_back-requires-clause-cells g c =
    let made = c.made_over-made in
    let back = when-err made.result.0 made.ensures.refused (sym c.is_ok-2.ensures.value ∙ c.if-is_ok.false) in
    sym (c.requires.alike made.result.1) ∙ back.0 ∙ c.requires.alike c.lift_lot.result ∙ c.lift_lot.ensures.cells ∙ ap (λ (z : SeatValue Cell Actor Event). z.view.held) (sym c.lift_lot.ensures.seat)

pub commit_lot-requires-clause-cells : goal.commit_lot-requires-clause-cells
commit_lot-requires-clause-cells g c =
    let made = c.made_over-made in
    let new = g.L.Lot.cells made.result.1 in
    let held : List (ℕ × Cell) = c.args.seat.now.view.held in
    let over = made-of (c.requires.alike made.result.1) (over-held (c.requires.alike c.lift_lot.result ∙ c.lift_lot.ensures.cells) made.ensures) in
    let many : length new ≡ length held = as-many new held over.numbers in
    let some : 0 < length held = c.requires.some in
    (over.numbers ∙ ap (λ (z : SeatValue Cell Actor Event). numbers_of z.view.held) (sym c.lift_lot.ensures.seat), omega (arith, many, some))

pub commit_lot-requires-clause-event : goal.commit_lot-requires-clause-event
commit_lot-requires-clause-event g c =
    let holds = c.requires.holds in
    let made = c.made_over-made in
    let b : Actor = record made.new.actor { went = c.after-actor.result } in
    let new = g.L.Lot.cells made.result.1 in
    let ok = sym c.is_ok-2.ensures.value ∙ c.if-is_ok.true in
    let over = made-of (c.requires.alike made.result.1) (over-held (c.requires.alike c.lift_lot.result ∙ c.lift_lot.ensures.cells) made.ensures) in
    let counted = counted-of c.of-before.result (actor_of c.args.actor.now) (actor_of b) c.args.actor.now.went c.after-actor.result c.is_ok.result c.of-before.ensures c.after-actor.ensures (c.is_ok.ensures.value ∙ ok) in
    subst (λ (v : View Cell Actor Event). (x : Actor) × (value_of v.actors c.args.number ≡ some x) × Goes (sight v) new c.args.number x b) (sym (ap (λ (z : SeatValue Cell Actor Event). z.view) c.lift_lot.ensures.seat))
    (holds.one.last, holds.one.has, event-of holds.one holds.possible c.requires.at new b c.requires.sees (when-ok made.result.0 over.went ok) counted over.numbers over.each)

pub commit_lot-requires-clause-left : goal.commit_lot-requires-clause-left
commit_lot-requires-clause-left g c =
    let row = g.S.CellStep.places c.args.what in
    let made = c.made_over-made in
    let b : Actor = record made.new.actor { went = c.after-actor.result } in
    let new = g.L.Lot.cells made.result.1 in
    let ok = sym c.is_ok-2.ensures.value ∙ c.if-is_ok.true in
    let over = made-of (c.requires.alike made.result.1) (over-held (c.requires.alike c.lift_lot.result ∙ c.lift_lot.ensures.cells) made.ensures) in
    subst (λ (v : View Cell Actor Event). (j : ℕ) (x : Actor) (k : ℕ) → value_of (replace v.actors c.args.number b) j ≡ some x → Needs x k → IsThere (after_first new) k) (sym (ap (λ (z : SeatValue Cell Actor Event). z.view) c.lift_lot.ensures.seat))
    (left-of c.requires.holds new b over.numbers (c.requires.left (actor_of b) (cells_for new row) (when-ok made.result.0 over.went ok) (when-ok made.result.0 over.told ok)))

pub returns-then-is_ok-clause-holds : goal.returns-then-is_ok-clause-holds
returns-then-is_ok-clause-holds g c =
    let holds = c.requires.holds in
    let made = c.made_over-made in
    let b : Actor = record made.new.actor { went = c.after-actor.result } in
    let new = g.L.Lot.cells made.result.1 in
    let ok = sym c.is_ok-2.ensures.value ∙ c.if-is_ok.true in
    let over = made-of (c.requires.alike made.result.1) (over-held (c.requires.alike c.lift_lot.result ∙ c.lift_lot.ensures.cells) made.ensures) in
    let seat = c.commit_lot.ensures.seat ∙ ap (λ (z : SeatValue Cell Actor Event). let y : SeatValue Cell Actor Event = record { table_id = z.table_id; lifted = false; ranks = after_first z.ranks; view = after_commit ledger_cell history_of z.view new c.args.number b } in y) c.lift_lot.ensures.seat in
    stepped-holds holds c.commit_lot.new.seat new b over.numbers
    (ap (λ (s : Setting). s.hierarchy) (setting-after holds.one holds.possible c.requires.at new b c.requires.sees (when-ok made.result.0 over.went ok)) ∙ holds.one.about) seat c.commit_lot.ensures.possible

pub returns-then-is_ok-clause-went : goal.returns-then-is_ok-clause-went
returns-then-is_ok-clause-went g c =
    let holds = c.requires.holds in
    let made = c.made_over-made in
    let b : Actor = record made.new.actor { went = c.after-actor.result } in
    let new = g.L.Lot.cells made.result.1 in
    let ok = sym c.is_ok-2.ensures.value ∙ c.if-is_ok.true in
    let over = made-of (c.requires.alike made.result.1) (over-held (c.requires.alike c.lift_lot.result ∙ c.lift_lot.ensures.cells) made.ensures) in
    let counted = counted-of c.of-before.result (actor_of c.args.actor.now) (actor_of b) c.args.actor.now.went c.after-actor.result c.is_ok.result c.of-before.ensures c.after-actor.ensures (c.is_ok.ensures.value ∙ ok) in
    as-ok made.result.0 (record {
      new = new;
      same_numbers = over.numbers;
      went = when-ok made.result.0 over.went ok;
      told = when-ok made.result.0 over.told ok;
      setting = setting-after holds.one holds.possible c.requires.at new b c.requires.sees (when-ok made.result.0 over.went ok);
      counted = counted;
      view = ap (λ (z : SeatValue Cell Actor Event). z.view) c.commit_lot.ensures.seat ∙ ap (λ (z : SeatValue Cell Actor Event). after_commit ledger_cell history_of z.view new c.args.number b) c.lift_lot.ensures.seat;
      ranks = ap (λ (z : SeatValue Cell Actor Event). z.ranks) c.commit_lot.ensures.seat ∙ ap (λ (z : SeatValue Cell Actor Event). after_first z.ranks) c.lift_lot.ensures.seat;
    })

pub returns-else-is_ok-clause-holds : goal.returns-else-is_ok-clause-holds
returns-else-is_ok-clause-holds g c =
    let holds = c.requires.holds in
    let made = c.made_over-made in
    let refused = sym c.is_ok-2.ensures.value ∙ c.if-is_ok.false in
    let b : Actor = record made.new.actor { went = c.after-actor.result } in
    let uncounted = uncounted-of c.of-before.result (actor_of c.args.actor.now) (actor_of b) c.args.actor.now.went c.after-actor.result c.is_ok.result c.of-before.ensures c.after-actor.ensures (c.is_ok.ensures.value ∙ refused) in
    same-holds holds c.put_lot_back.new.seat b (back-same holds c.lift_lot.new.seat c.put_lot_back.new.seat c.lift_lot.ensures.seat c.put_lot_back.ensures.seat) (when-err made.result.0 made.ensures.refused refused).1 uncounted

pub returns-else-is_ok-clause-uncounted : goal.returns-else-is_ok-clause-uncounted
returns-else-is_ok-clause-uncounted g c =
    let made = c.made_over-made in
    let refused = sym c.is_ok-2.ensures.value ∙ c.if-is_ok.false in
    as-err made.result.0 (uncounted-of c.of-before.result (actor_of c.args.actor.now) (actor_of made.new.actor) c.args.actor.now.went c.after-actor.result c.is_ok.result c.of-before.ensures c.after-actor.ensures (c.is_ok.ensures.value ∙ refused))
