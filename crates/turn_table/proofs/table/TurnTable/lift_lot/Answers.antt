use Rattle.std.proofs.Common.{◌≡◌, ℕ, List, length, true, false, sym, refl, ap, ◌∙◌, subst, arith}
use Rattle.atomic_table.specs.Seated.{TableId}
use Rattle.turn_table.specs.{Numbered.{numbers_of, HaveOwnNumbers}, Seat.{SeatValue, slots_of, values_of}, declared.view.View.View}
use Rattle.turn_table.proofs.Seats.{seated_lifted, length_numbers, values_full}
use Rattle.turn_table.proofs.Turned.{straight, back, may_straighten}
use Rattle.turn_table.proofs.table.TurnTable.lift_lot.Goals as goal

pub straighten-requires : goal.straighten-requires
straighten-requires g c = may_straighten g.C.Core.invariant g.C.Core.log_at g.C.Core.log g.C.Core.needs c.seat.inside.place.table_id.words c.seat.inside.number c.seat.inside.ahead c.len.result c.seat.inside.row.items c.seat.inside.lifted c.seat.inside.place.me c.seat.invariant c.len.ensures.value

pub taken_out-held-requires-clause-row : goal.taken_out-held-requires-clause-row
taken_out-held-requires-clause-row g c =
    let s = back g.C.Core.invariant g.C.Core.log_at g.C.Core.log g.C.Core.needs c.seat.inside.place.table_id.words c.straighten.new.place.table_id.words c.seat.inside.number c.seat.inside.ahead c.len.result c.seat.inside.row.items c.seat.inside.lifted c.seat.inside.place.me c.straighten.new.place.me c.seat.invariant c.len.ensures.value c.straighten.ensures.slots (ap (λ (z : TableId). z.words) c.straighten.ensures.same.0) in
    let shown : (let w : SeatValue g.row.C-Cell.Denot g.row.C-Actor.Denot g.row.C-Entry.Denot = record { table_id = c.straighten.new.place.table_id; lifted = c.seat.inside.lifted; ranks = c.seat.inside.row.items; view = c.straighten.new.place.me.0 } in w) ≡ c.args.seat.now = (λ z. record { table_id = c.straighten.ensures.same.0 z; lifted = c.seat.inside.lifted; ranks = c.seat.inside.row.items; view = ap (λ m. m.0) c.straighten.ensures.slots z }) ∙ c.seat.view_is in
    let v : View g.row.C-Cell.Denot g.row.C-Actor.Denot g.row.C-Entry.Denot = c.straighten.new.place.me.0 in
    let home : c.seat.inside.lifted ≡ false = ap (λ (h : SeatValue g.row.C-Cell.Denot g.row.C-Actor.Denot g.row.C-Entry.Denot). h.lifted) shown ∙ c.requires.home in
    let all : values_of c.straighten.new.place.me.1 ≡ v.held = values_full v.held c.seat.inside.lifted c.straighten.new.place.me.1 s.slots home in
    let row : numbers_of c.as_slice.result.now ≡ numbers_of v.held = ap numbers_of c.as_slice.ensures.value ∙ s.rows in
    let same : length v.held ≡ length c.args.seat.now.view.held = ap (λ (h : SeatValue g.row.C-Cell.Denot g.row.C-Actor.Denot g.row.C-Entry.Denot). length h.view.held) shown in
    let told : length c.args.seat.now.view.held ≡ length c.as_slice.result.now = omega (arith, same, ap length row, length_numbers v.held, length_numbers c.as_slice.result.now) in
    (row ∙ ap numbers_of (sym all), subst (λ (n : ℕ). g.L.Lot.fits n) told c.requires.few)

pub taken_out-held-requires-clause-full : goal.taken_out-held-requires-clause-full
taken_out-held-requires-clause-full g c =
    let s = back g.C.Core.invariant g.C.Core.log_at g.C.Core.log g.C.Core.needs c.seat.inside.place.table_id.words c.straighten.new.place.table_id.words c.seat.inside.number c.seat.inside.ahead c.len.result c.seat.inside.row.items c.seat.inside.lifted c.seat.inside.place.me c.straighten.new.place.me c.seat.invariant c.len.ensures.value c.straighten.ensures.slots (ap (λ (z : TableId). z.words) c.straighten.ensures.same.0) in
    let shown : (let w : SeatValue g.row.C-Cell.Denot g.row.C-Actor.Denot g.row.C-Entry.Denot = record { table_id = c.straighten.new.place.table_id; lifted = c.seat.inside.lifted; ranks = c.seat.inside.row.items; view = c.straighten.new.place.me.0 } in w) ≡ c.args.seat.now = (λ z. record { table_id = c.straighten.ensures.same.0 z; lifted = c.seat.inside.lifted; ranks = c.seat.inside.row.items; view = ap (λ m. m.0) c.straighten.ensures.slots z }) ∙ c.seat.view_is in
    let v : View g.row.C-Cell.Denot g.row.C-Actor.Denot g.row.C-Entry.Denot = c.straighten.new.place.me.0 in
    let home : c.seat.inside.lifted ≡ false = ap (λ (h : SeatValue g.row.C-Cell.Denot g.row.C-Actor.Denot g.row.C-Entry.Denot). h.lifted) shown ∙ c.requires.home in
    let all : values_of c.straighten.new.place.me.1 ≡ v.held = values_full v.held c.seat.inside.lifted c.straighten.new.place.me.1 s.slots home in
    s.slots ∙ (λ i. slots_of (home i) (sym all i))

pub invariant_of-seat : goal.invariant_of-seat
invariant_of-seat g c =
    let s = back g.C.Core.invariant g.C.Core.log_at g.C.Core.log g.C.Core.needs c.seat.inside.place.table_id.words c.straighten.new.place.table_id.words c.seat.inside.number c.seat.inside.ahead c.len.result c.seat.inside.row.items c.seat.inside.lifted c.seat.inside.place.me c.straighten.new.place.me c.seat.invariant c.len.ensures.value c.straighten.ensures.slots (ap (λ (z : TableId). z.words) c.straighten.ensures.same.0) in
    let shown : (let w : SeatValue g.row.C-Cell.Denot g.row.C-Actor.Denot g.row.C-Entry.Denot = record { table_id = c.straighten.new.place.table_id; lifted = c.seat.inside.lifted; ranks = c.seat.inside.row.items; view = c.straighten.new.place.me.0 } in w) ≡ c.args.seat.now = (λ z. record { table_id = c.straighten.ensures.same.0 z; lifted = c.seat.inside.lifted; ranks = c.seat.inside.row.items; view = ap (λ m. m.0) c.straighten.ensures.slots z }) ∙ c.seat.view_is in
    let v : View g.row.C-Cell.Denot g.row.C-Actor.Denot g.row.C-Entry.Denot = c.straighten.new.place.me.0 in
    let home : c.seat.inside.lifted ≡ false = ap (λ (h : SeatValue g.row.C-Cell.Denot g.row.C-Actor.Denot g.row.C-Entry.Denot). h.lifted) shown ∙ c.requires.home in
    let all : values_of c.straighten.new.place.me.1 ≡ v.held = values_full v.held c.seat.inside.lifted c.straighten.new.place.me.1 s.slots home in
    straight g.C.Core.invariant g.C.Core.log_at g.C.Core.log g.C.Core.needs _ _ 0 _ _ _ refl (seated_lifted g.C.Core.invariant g.C.Core.log_at g.C.Core.log g.C.Core.needs _ _ _ _ c.seat.inside.lifted true _ _ (values_of c.straighten.new.place.me.1) s all c.taken_out-held.ensures.slots (ap (λ (z : TableId). z.words) c.taken_out-held.ensures.same.0))

pub returns-clause-cells : goal.returns-clause-cells
returns-clause-cells g c =
    let s = back g.C.Core.invariant g.C.Core.log_at g.C.Core.log g.C.Core.needs c.seat.inside.place.table_id.words c.straighten.new.place.table_id.words c.seat.inside.number c.seat.inside.ahead c.len.result c.seat.inside.row.items c.seat.inside.lifted c.seat.inside.place.me c.straighten.new.place.me c.seat.invariant c.len.ensures.value c.straighten.ensures.slots (ap (λ (z : TableId). z.words) c.straighten.ensures.same.0) in
    let shown : (let w : SeatValue g.row.C-Cell.Denot g.row.C-Actor.Denot g.row.C-Entry.Denot = record { table_id = c.straighten.new.place.table_id; lifted = c.seat.inside.lifted; ranks = c.seat.inside.row.items; view = c.straighten.new.place.me.0 } in w) ≡ c.args.seat.now = (λ z. record { table_id = c.straighten.ensures.same.0 z; lifted = c.seat.inside.lifted; ranks = c.seat.inside.row.items; view = ap (λ m. m.0) c.straighten.ensures.slots z }) ∙ c.seat.view_is in
    let v : View g.row.C-Cell.Denot g.row.C-Actor.Denot g.row.C-Entry.Denot = c.straighten.new.place.me.0 in
    let home : c.seat.inside.lifted ≡ false = ap (λ (h : SeatValue g.row.C-Cell.Denot g.row.C-Actor.Denot g.row.C-Entry.Denot). h.lifted) shown ∙ c.requires.home in
    let all : values_of c.straighten.new.place.me.1 ≡ v.held = values_full v.held c.seat.inside.lifted c.straighten.new.place.me.1 s.slots home in
    c.taken_out-held.ensures.values ∙ (all ∙ ap (λ (h : SeatValue g.row.C-Cell.Denot g.row.C-Actor.Denot g.row.C-Entry.Denot). h.view.held) shown)

pub returns-clause-distinct : goal.returns-clause-distinct
returns-clause-distinct g c =
    let s = back g.C.Core.invariant g.C.Core.log_at g.C.Core.log g.C.Core.needs c.seat.inside.place.table_id.words c.straighten.new.place.table_id.words c.seat.inside.number c.seat.inside.ahead c.len.result c.seat.inside.row.items c.seat.inside.lifted c.seat.inside.place.me c.straighten.new.place.me c.seat.invariant c.len.ensures.value c.straighten.ensures.slots (ap (λ (z : TableId). z.words) c.straighten.ensures.same.0) in
    let shown : (let w : SeatValue g.row.C-Cell.Denot g.row.C-Actor.Denot g.row.C-Entry.Denot = record { table_id = c.straighten.new.place.table_id; lifted = c.seat.inside.lifted; ranks = c.seat.inside.row.items; view = c.straighten.new.place.me.0 } in w) ≡ c.args.seat.now = (λ z. record { table_id = c.straighten.ensures.same.0 z; lifted = c.seat.inside.lifted; ranks = c.seat.inside.row.items; view = ap (λ m. m.0) c.straighten.ensures.slots z }) ∙ c.seat.view_is in
    let v : View g.row.C-Cell.Denot g.row.C-Actor.Denot g.row.C-Entry.Denot = c.straighten.new.place.me.0 in
    let home : c.seat.inside.lifted ≡ false = ap (λ (h : SeatValue g.row.C-Cell.Denot g.row.C-Actor.Denot g.row.C-Entry.Denot). h.lifted) shown ∙ c.requires.home in
    let all : values_of c.straighten.new.place.me.1 ≡ v.held = values_full v.held c.seat.inside.lifted c.straighten.new.place.me.1 s.slots home in
    subst (λ (l : List (ℕ × g.row.C-Cell.Denot)). HaveOwnNumbers l) (sym (c.taken_out-held.ensures.values ∙ all)) s.distinct
