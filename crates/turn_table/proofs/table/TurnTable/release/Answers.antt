use Rattle.std.proofs.Common.{◌≡◌, ◌<◌, ◌+◌, ◌-◌, ℕ, List, Option, length, false, sym, refl, ap, ◌∙◌, subst, arith, lit<}
use mathlib.Core.Option.{some}
use lib.ListN.{get_elem?}
use Rattle.atomic_table.specs.{Seated.TableId, Table.rest}
use Rattle.turn_table.specs.{Law.IsPossible, Numbered.{value_of, without}, Seat.{SeatValue, IsSeated}, Views.after_release, declared.view.View.View}
use Rattle.turn_table.proofs.{Numbered.below_length, Seats.{as_many, held_told, told_released, release_ready, released_slots, seated_released, pair_path}}
use Rattle.turn_table.proofs.Turned.{straight, back, may_straighten}
use Rattle.turn_table.proofs.table.TurnTable.release.Goals as goal

pub straighten-requires : goal.straighten-requires
straighten-requires g c = may_straighten g.C.Core.invariant g.C.Core.log_at g.C.Core.log g.C.Core.needs c.seat.inside.place.table_id.words c.seat.inside.number c.seat.inside.ahead c.len.result c.seat.inside.row.items c.seat.inside.lifted c.seat.inside.place.me c.seat.invariant c.len.ensures.value

pub position-at-requires : goal.position-at-requires
position-at-requires g c =
    let s = back g.C.Core.invariant g.C.Core.log_at g.C.Core.log g.C.Core.needs c.seat.inside.place.table_id.words c.straighten.new.place.table_id.words c.seat.inside.number c.seat.inside.ahead c.len.result c.seat.inside.row.items c.seat.inside.lifted c.seat.inside.place.me c.straighten.new.place.me c.seat.invariant c.len.ensures.value c.straighten.ensures.slots (ap (λ (z : TableId). z.words) c.straighten.ensures.same.0) in
    let shown : (let w : SeatValue g.row.C-Cell.Denot g.row.C-Actor.Denot g.row.C-Entry.Denot = record { table_id = c.straighten.new.place.table_id; lifted = c.seat.inside.lifted; ranks = c.seat.inside.row.items; view = c.straighten.new.place.me.0 } in w) ≡ c.args.seat.now = (λ z. record { table_id = c.straighten.ensures.same.0 z; lifted = c.seat.inside.lifted; ranks = c.seat.inside.row.items; view = ap (λ m. m.0) c.straighten.ensures.slots z }) ∙ c.seat.view_is in
    let H : Type 0 = SeatValue g.row.C-Cell.Denot g.row.C-Actor.Denot g.row.C-Entry.Denot in
    let h = held_told g.C.Core.invariant g.C.Core.log_at g.C.Core.log g.C.Core.needs c.straighten.new.place.table_id.words c.seat.inside.number c.args.cell c.seat.inside.row.items c.seat.inside.lifted c.straighten.new.place.me c.requires.held.0 s
    (ap (λ (h : H). value_of h.view.held c.args.cell) shown ∙ c.requires.held.1) in
    (h.0, ap (λ (l : List (ℕ × Option ℕ)). value_of l c.args.cell) c.as_slice.ensures.value ∙ h.1)

pub overflow_sub-behind-2 : goal.overflow_sub-behind-2
overflow_sub-behind-2 g c =
    let s = back g.C.Core.invariant g.C.Core.log_at g.C.Core.log g.C.Core.needs c.seat.inside.place.table_id.words c.straighten.new.place.table_id.words c.seat.inside.number c.seat.inside.ahead c.len.result c.seat.inside.row.items c.seat.inside.lifted c.seat.inside.place.me c.straighten.new.place.me c.seat.invariant c.len.ensures.value c.straighten.ensures.slots (ap (λ (z : TableId). z.words) c.straighten.ensures.same.0) in
    let shown : (let w : SeatValue g.row.C-Cell.Denot g.row.C-Actor.Denot g.row.C-Entry.Denot = record { table_id = c.straighten.new.place.table_id; lifted = c.seat.inside.lifted; ranks = c.seat.inside.row.items; view = c.straighten.new.place.me.0 } in w) ≡ c.args.seat.now = (λ z. record { table_id = c.straighten.ensures.same.0 z; lifted = c.seat.inside.lifted; ranks = c.seat.inside.row.items; view = ap (λ m. m.0) c.straighten.ensures.slots z }) ∙ c.seat.view_is in
    let H : Type 0 = SeatValue g.row.C-Cell.Denot g.row.C-Actor.Denot g.row.C-Entry.Denot in
    let i : ℕ = c.position-at.result in
    let at : get_elem? c.seat.inside.row.items i ≡ some (c.args.cell, c.position-at.ensures.0) = ap (λ (l : List (ℕ × Option ℕ)). get_elem? l i) (sym c.as_slice.ensures.value) ∙ c.position-at.ensures.1 in
    let low : i < length c.seat.inside.row.items = below_length c.seat.inside.row.items i _ at in omega (arith, low, c.len-2.ensures)

pub turn_by-requires : goal.turn_by-requires
turn_by-requires g c =
    let s = back g.C.Core.invariant g.C.Core.log_at g.C.Core.log g.C.Core.needs c.seat.inside.place.table_id.words c.straighten.new.place.table_id.words c.seat.inside.number c.seat.inside.ahead c.len.result c.seat.inside.row.items c.seat.inside.lifted c.seat.inside.place.me c.straighten.new.place.me c.seat.invariant c.len.ensures.value c.straighten.ensures.slots (ap (λ (z : TableId). z.words) c.straighten.ensures.same.0) in
    let shown : (let w : SeatValue g.row.C-Cell.Denot g.row.C-Actor.Denot g.row.C-Entry.Denot = record { table_id = c.straighten.new.place.table_id; lifted = c.seat.inside.lifted; ranks = c.seat.inside.row.items; view = c.straighten.new.place.me.0 } in w) ≡ c.args.seat.now = (λ z. record { table_id = c.straighten.ensures.same.0 z; lifted = c.seat.inside.lifted; ranks = c.seat.inside.row.items; view = ap (λ m. m.0) c.straighten.ensures.slots z }) ∙ c.seat.view_is in
    let H : Type 0 = SeatValue g.row.C-Cell.Denot g.row.C-Actor.Denot g.row.C-Entry.Denot in
    let i : ℕ = c.position-at.result in
    let at : get_elem? c.seat.inside.row.items i ≡ some (c.args.cell, c.position-at.ensures.0) = ap (λ (l : List (ℕ × Option ℕ)). get_elem? l i) (sym c.as_slice.ensures.value) ∙ c.position-at.ensures.1 in
    let low : i < length c.seat.inside.row.items = below_length c.seat.inside.row.items i _ at in
    omega (arith, low, as_many g.C.Core.invariant g.C.Core.log_at g.C.Core.log g.C.Core.needs c.straighten.new.place.table_id.words c.seat.inside.number c.seat.inside.row.items c.seat.inside.lifted c.straighten.new.place.me s)

pub release_as-requires : goal.release_as-requires
release_as-requires g c =
    let s = back g.C.Core.invariant g.C.Core.log_at g.C.Core.log g.C.Core.needs c.seat.inside.place.table_id.words c.straighten.new.place.table_id.words c.seat.inside.number c.seat.inside.ahead c.len.result c.seat.inside.row.items c.seat.inside.lifted c.seat.inside.place.me c.straighten.new.place.me c.seat.invariant c.len.ensures.value c.straighten.ensures.slots (ap (λ (z : TableId). z.words) c.straighten.ensures.same.0) in
    let shown : (let w : SeatValue g.row.C-Cell.Denot g.row.C-Actor.Denot g.row.C-Entry.Denot = record { table_id = c.straighten.new.place.table_id; lifted = c.seat.inside.lifted; ranks = c.seat.inside.row.items; view = c.straighten.new.place.me.0 } in w) ≡ c.args.seat.now = (λ z. record { table_id = c.straighten.ensures.same.0 z; lifted = c.seat.inside.lifted; ranks = c.seat.inside.row.items; view = ap (λ m. m.0) c.straighten.ensures.slots z }) ∙ c.seat.view_is in
    let H : Type 0 = SeatValue g.row.C-Cell.Denot g.row.C-Actor.Denot g.row.C-Entry.Denot in
    let i : ℕ = c.position-at.result in
    let at : get_elem? c.seat.inside.row.items i ≡ some (c.args.cell, c.position-at.ensures.0) = ap (λ (l : List (ℕ × Option ℕ)). get_elem? l i) (sym c.as_slice.ensures.value) ∙ c.position-at.ensures.1 in
    let home : c.seat.inside.lifted ≡ false = ap (λ (h : H). h.lifted) shown ∙ c.requires.home in
    let table : c.straighten.new.place.table_id ≡ c.args.self.now = ap (λ (h : H). h.table_id) shown ∙ c.requires.own in
    let t = release_ready g.C.Core.invariant g.C.Core.log_at g.C.Core.log g.C.Core.needs c.straighten.new.place.table_id.words c.seat.inside.number i c.args.cell c.position-at.ensures.0 c.seat.inside.row.items c.seat.inside.lifted c.straighten.new.place.me c.turn_by.new.place.me s home at c.turn_by.ensures.slots
    (subst (λ (h : H). (j : ℕ) (x : g.row.C-Actor.Denot) → value_of h.view.actors j ≡ some x → g.C.Core.needs x c.args.cell → ⊥) (sym shown) c.requires.free) in
    record { own = (c.turn_by.ensures.same.0 ∙ table, subst (λ (z : TableId). c.args.cell < z.words) table t.1); goes = t.0 }

pub turn_by-requires-2 : goal.turn_by-requires-2
turn_by-requires-2 g c =
    let s = back g.C.Core.invariant g.C.Core.log_at g.C.Core.log g.C.Core.needs c.seat.inside.place.table_id.words c.straighten.new.place.table_id.words c.seat.inside.number c.seat.inside.ahead c.len.result c.seat.inside.row.items c.seat.inside.lifted c.seat.inside.place.me c.straighten.new.place.me c.seat.invariant c.len.ensures.value c.straighten.ensures.slots (ap (λ (z : TableId). z.words) c.straighten.ensures.same.0) in
    let shown : (let w : SeatValue g.row.C-Cell.Denot g.row.C-Actor.Denot g.row.C-Entry.Denot = record { table_id = c.straighten.new.place.table_id; lifted = c.seat.inside.lifted; ranks = c.seat.inside.row.items; view = c.straighten.new.place.me.0 } in w) ≡ c.args.seat.now = (λ z. record { table_id = c.straighten.ensures.same.0 z; lifted = c.seat.inside.lifted; ranks = c.seat.inside.row.items; view = ap (λ m. m.0) c.straighten.ensures.slots z }) ∙ c.seat.view_is in
    let H : Type 0 = SeatValue g.row.C-Cell.Denot g.row.C-Actor.Denot g.row.C-Entry.Denot in
    let i : ℕ = c.position-at.result in
    let at : get_elem? c.seat.inside.row.items i ≡ some (c.args.cell, c.position-at.ensures.0) = ap (λ (l : List (ℕ × Option ℕ)). get_elem? l i) (sym c.as_slice.ensures.value) ∙ c.position-at.ensures.1 in
    let home : c.seat.inside.lifted ≡ false = ap (λ (h : H). h.lifted) shown ∙ c.requires.home in
    let behind : ℕ = c.len-2.result - 1 - i in
    let total : behind + i + 1 ≡ length c.seat.inside.row.items = let low : i < length c.seat.inside.row.items = below_length c.seat.inside.row.items i _ at in omega (arith, low, c.len-2.ensures) in
    let t = released_slots g.C.Core.invariant g.C.Core.log_at g.C.Core.log g.C.Core.needs c.straighten.new.place.table_id.words c.seat.inside.number i c.args.cell behind c.position-at.ensures.0 c.seat.inside.row.items c.seat.inside.lifted c.straighten.new.place.me s home at total
    c.release_as.new.place.me.1 (ap (λ m. m.1) c.release_as.ensures.2 ∙ ap (λ m. rest m.1) c.turn_by.ensures.slots) in
    t.1

pub remove-requires : goal.remove-requires
remove-requires g c =
    let s = back g.C.Core.invariant g.C.Core.log_at g.C.Core.log g.C.Core.needs c.seat.inside.place.table_id.words c.straighten.new.place.table_id.words c.seat.inside.number c.seat.inside.ahead c.len.result c.seat.inside.row.items c.seat.inside.lifted c.seat.inside.place.me c.straighten.new.place.me c.seat.invariant c.len.ensures.value c.straighten.ensures.slots (ap (λ (z : TableId). z.words) c.straighten.ensures.same.0) in
    let shown : (let w : SeatValue g.row.C-Cell.Denot g.row.C-Actor.Denot g.row.C-Entry.Denot = record { table_id = c.straighten.new.place.table_id; lifted = c.seat.inside.lifted; ranks = c.seat.inside.row.items; view = c.straighten.new.place.me.0 } in w) ≡ c.args.seat.now = (λ z. record { table_id = c.straighten.ensures.same.0 z; lifted = c.seat.inside.lifted; ranks = c.seat.inside.row.items; view = ap (λ m. m.0) c.straighten.ensures.slots z }) ∙ c.seat.view_is in
    let H : Type 0 = SeatValue g.row.C-Cell.Denot g.row.C-Actor.Denot g.row.C-Entry.Denot in
    let i : ℕ = c.position-at.result in
    let at : get_elem? c.seat.inside.row.items i ≡ some (c.args.cell, c.position-at.ensures.0) = ap (λ (l : List (ℕ × Option ℕ)). get_elem? l i) (sym c.as_slice.ensures.value) ∙ c.position-at.ensures.1 in
    (lit< tt, below_length c.seat.inside.row.items i _ at)

pub invariant_of-seat : goal.invariant_of-seat
invariant_of-seat g c =
    let s = back g.C.Core.invariant g.C.Core.log_at g.C.Core.log g.C.Core.needs c.seat.inside.place.table_id.words c.straighten.new.place.table_id.words c.seat.inside.number c.seat.inside.ahead c.len.result c.seat.inside.row.items c.seat.inside.lifted c.seat.inside.place.me c.straighten.new.place.me c.seat.invariant c.len.ensures.value c.straighten.ensures.slots (ap (λ (z : TableId). z.words) c.straighten.ensures.same.0) in
    let shown : (let w : SeatValue g.row.C-Cell.Denot g.row.C-Actor.Denot g.row.C-Entry.Denot = record { table_id = c.straighten.new.place.table_id; lifted = c.seat.inside.lifted; ranks = c.seat.inside.row.items; view = c.straighten.new.place.me.0 } in w) ≡ c.args.seat.now = (λ z. record { table_id = c.straighten.ensures.same.0 z; lifted = c.seat.inside.lifted; ranks = c.seat.inside.row.items; view = ap (λ m. m.0) c.straighten.ensures.slots z }) ∙ c.seat.view_is in
    let H : Type 0 = SeatValue g.row.C-Cell.Denot g.row.C-Actor.Denot g.row.C-Entry.Denot in
    let i : ℕ = c.position-at.result in
    let at : get_elem? c.seat.inside.row.items i ≡ some (c.args.cell, c.position-at.ensures.0) = ap (λ (l : List (ℕ × Option ℕ)). get_elem? l i) (sym c.as_slice.ensures.value) ∙ c.position-at.ensures.1 in
    let home : c.seat.inside.lifted ≡ false = ap (λ (h : H). h.lifted) shown ∙ c.requires.home in
    let behind : ℕ = c.len-2.result - 1 - i in
    let total : behind + i + 1 ≡ length c.seat.inside.row.items = let low : i < length c.seat.inside.row.items = below_length c.seat.inside.row.items i _ at in omega (arith, low, c.len-2.ensures) in
    let t = released_slots g.C.Core.invariant g.C.Core.log_at g.C.Core.log g.C.Core.needs c.straighten.new.place.table_id.words c.seat.inside.number i c.args.cell behind c.position-at.ensures.0 c.seat.inside.row.items c.seat.inside.lifted c.straighten.new.place.me s home at total
    c.release_as.new.place.me.1 (ap (λ m. m.1) c.release_as.ensures.2 ∙ ap (λ m. rest m.1) c.turn_by.ensures.slots) in
    let V : Type 0 = View g.row.C-Cell.Denot g.row.C-Actor.Denot g.row.C-Entry.Denot in
    let released : c.release_as.new.place.me.0 ≡ after_release c.straighten.new.place.me.0 c.args.cell = ap (λ m. m.0) c.release_as.ensures.2 ∙ ap (λ m. after_release m.0 c.args.cell) c.turn_by.ensures.slots in
    straight g.C.Core.invariant g.C.Core.log_at g.C.Core.log g.C.Core.needs _ _ 0 _ _ _ refl (subst (λ (row : List (ℕ × Option ℕ)). IsSeated g.C.Core.invariant g.C.Core.log_at g.C.Core.log g.C.Core.needs c.turn_by-2.new.place.table_id.words c.seat.inside.number row c.seat.inside.lifted c.turn_by-2.new.place.me) (sym c.remove.ensures.items)
    (seated_released g.C.Core.invariant g.C.Core.log_at g.C.Core.log g.C.Core.needs c.straighten.new.place.table_id.words c.turn_by-2.new.place.table_id.words c.seat.inside.number i c.args.cell c.position-at.ensures.0 c.seat.inside.row.items c.seat.inside.lifted c.straighten.new.place.me c.turn_by-2.new.place.me s home at
    (c.turn_by-2.ensures.slots ∙ pair_path released t.0)
    (subst (λ (v : V). IsPossible g.C.Core.invariant g.C.Core.log_at g.C.Core.log g.C.Core.needs v) (sym (ap (λ m. m.0) c.turn_by-2.ensures.slots)) c.release_as.ensures.3)
    (ap (λ (z : TableId). z.words) (c.turn_by-2.ensures.same.0 ∙ (c.release_as.ensures.0 ∙ c.turn_by.ensures.same.0)))))

pub returns-clause-seat : goal.returns-clause-seat
returns-clause-seat g c =
    let s = back g.C.Core.invariant g.C.Core.log_at g.C.Core.log g.C.Core.needs c.seat.inside.place.table_id.words c.straighten.new.place.table_id.words c.seat.inside.number c.seat.inside.ahead c.len.result c.seat.inside.row.items c.seat.inside.lifted c.seat.inside.place.me c.straighten.new.place.me c.seat.invariant c.len.ensures.value c.straighten.ensures.slots (ap (λ (z : TableId). z.words) c.straighten.ensures.same.0) in
    let shown : (let w : SeatValue g.row.C-Cell.Denot g.row.C-Actor.Denot g.row.C-Entry.Denot = record { table_id = c.straighten.new.place.table_id; lifted = c.seat.inside.lifted; ranks = c.seat.inside.row.items; view = c.straighten.new.place.me.0 } in w) ≡ c.args.seat.now = (λ z. record { table_id = c.straighten.ensures.same.0 z; lifted = c.seat.inside.lifted; ranks = c.seat.inside.row.items; view = ap (λ m. m.0) c.straighten.ensures.slots z }) ∙ c.seat.view_is in
    let H : Type 0 = SeatValue g.row.C-Cell.Denot g.row.C-Actor.Denot g.row.C-Entry.Denot in
    let i : ℕ = c.position-at.result in
    let at : get_elem? c.seat.inside.row.items i ≡ some (c.args.cell, c.position-at.ensures.0) = ap (λ (l : List (ℕ × Option ℕ)). get_elem? l i) (sym c.as_slice.ensures.value) ∙ c.position-at.ensures.1 in
    let released : c.turn_by-2.new.place.me.0 ≡ after_release c.straighten.new.place.me.0 c.args.cell = ap (λ m. m.0) c.turn_by-2.ensures.slots ∙ (ap (λ m. m.0) c.release_as.ensures.2 ∙ ap (λ m. after_release m.0 c.args.cell) c.turn_by.ensures.slots) in
    let gone = told_released g.C.Core.invariant g.C.Core.log_at g.C.Core.log g.C.Core.needs c.straighten.new.place.table_id.words c.seat.inside.number i c.args.cell c.position-at.ensures.0 c.seat.inside.row.items c.seat.inside.lifted c.straighten.new.place.me s at in
    let table = c.turn_by-2.ensures.same.0 ∙ (c.release_as.ensures.0 ∙ c.turn_by.ensures.same.0) in
    (λ z. record { table_id = table z; lifted = c.seat.inside.lifted; ranks = (c.remove.ensures.items ∙ sym gone) z; view = released z })
    ∙ ap (λ (h : H). record h { ranks = without h.ranks c.args.cell; view = after_release h.view c.args.cell }) shown
