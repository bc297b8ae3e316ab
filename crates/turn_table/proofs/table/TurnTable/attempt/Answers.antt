use Rattle.std.proofs.Common.{◌≡◌, ◌<◌, ℕ, List, length, sym, refl, ap, ◌∙◌, subst, arith, [], ◌∷◌, ◌++◌, Option}
use mathlib.Core.Option.{some}
use Rattle.atomic_table.specs.{Seated.TableId, Table.{turned, Me}}
use Rattle.turn_table.specs.{Law.IsPossible, Numbered.value_of, Seat.{SeatValue, IsSeated}, Views.{HasAll, after_take}, declared.view.View.View}
use Rattle.turn_table.proofs.Seats.{seated_taken, seated_refused, length_numbers}
use Rattle.turn_table.proofs.Turned.{straight, back, may_straighten}
use Rattle.turn_table.proofs.table.TurnTable.attempt.Goals as goal

pub straighten-requires : goal.straighten-requires
straighten-requires g c = may_straighten g.C.Core.invariant g.C.Core.log_at g.C.Core.log g.C.Core.needs c.seat.inside.place.table_id.words c.seat.inside.number c.seat.inside.ahead c.len.result c.seat.inside.row.items c.seat.inside.lifted c.seat.inside.place.me c.seat.invariant c.len.ensures.value

pub push-requires : goal.push-requires
push-requires g c =
    let s = back g.C.Core.invariant g.C.Core.log_at g.C.Core.log g.C.Core.needs c.seat.inside.place.table_id.words c.straighten.new.place.table_id.words c.seat.inside.number c.seat.inside.ahead c.len.result c.seat.inside.row.items c.seat.inside.lifted c.seat.inside.place.me c.straighten.new.place.me c.seat.invariant c.len.ensures.value c.straighten.ensures.slots (ap (λ (z : TableId). z.words) c.straighten.ensures.same.0) in
    let shown : (let w : SeatValue g.row.C-Cell.Denot g.row.C-Actor.Denot g.row.C-Entry.Denot = record { table_id = c.straighten.new.place.table_id; lifted = c.seat.inside.lifted; ranks = c.seat.inside.row.items; view = c.straighten.new.place.me.0 } in w) ≡ c.args.seat.now = (λ z. record { table_id = c.straighten.ensures.same.0 z; lifted = c.seat.inside.lifted; ranks = c.seat.inside.row.items; view = ap (λ m. m.0) c.straighten.ensures.slots z }) ∙ c.seat.view_is in
    let v : View g.row.C-Cell.Denot g.row.C-Actor.Denot g.row.C-Entry.Denot = c.straighten.new.place.me.0 in
    let same : length v.held ≡ length c.args.seat.now.view.held = ap (λ (h : SeatValue g.row.C-Cell.Denot g.row.C-Actor.Denot g.row.C-Entry.Denot). length h.view.held) shown in
    let few : length c.args.seat.now.view.held < 7 = c.requires.room in omega (arith, ap length s.rows, length_numbers v.held, length_numbers c.seat.inside.row.items)

pub invariant_of-seat-2 : goal.invariant_of-seat-2
invariant_of-seat-2 g c =
    let s = back g.C.Core.invariant g.C.Core.log_at g.C.Core.log g.C.Core.needs c.seat.inside.place.table_id.words c.straighten.new.place.table_id.words c.seat.inside.number c.seat.inside.ahead c.len.result c.seat.inside.row.items c.seat.inside.lifted c.seat.inside.place.me c.straighten.new.place.me c.seat.invariant c.len.ensures.value c.straighten.ensures.slots (ap (λ (z : TableId). z.words) c.straighten.ensures.same.0) in
    let shown : (let w : SeatValue g.row.C-Cell.Denot g.row.C-Actor.Denot g.row.C-Entry.Denot = record { table_id = c.straighten.new.place.table_id; lifted = c.seat.inside.lifted; ranks = c.seat.inside.row.items; view = c.straighten.new.place.me.0 } in w) ≡ c.args.seat.now = (λ z. record { table_id = c.straighten.ensures.same.0 z; lifted = c.seat.inside.lifted; ranks = c.seat.inside.row.items; view = ap (λ m. m.0) c.straighten.ensures.slots z }) ∙ c.seat.view_is in
    let H : Type 0 = SeatValue g.row.C-Cell.Denot g.row.C-Actor.Denot g.row.C-Entry.Denot in
    let M : Type 0 = Me (Option g.row.C-Cell.Denot) (View g.row.C-Cell.Denot g.row.C-Actor.Denot g.row.C-Entry.Denot) in
    let inside : c.args.cell < c.straighten.new.place.table_id.words = subst (λ (z : TableId). c.args.cell < z.words) (sym c.requires.own ∙ sym (ap (λ (h : H). h.table_id) shown)) c.requires.cell.0 in
    let t = c.grab-found.ensures.took c.if-found-ne0.false in
    straight g.C.Core.invariant g.C.Core.log_at g.C.Core.log g.C.Core.needs _ _ 0 _ _ _ refl (subst (λ (row : List (ℕ × Option ℕ)). IsSeated g.C.Core.invariant g.C.Core.log_at g.C.Core.log g.C.Core.needs c.turn.new.self.table_id.words c.seat.inside.number row c.seat.inside.lifted c.turn.new.self.me) (sym c.push.ensures.items)
    (seated_taken g.C.Core.invariant g.C.Core.log_at g.C.Core.log g.C.Core.needs c.straighten.new.place.table_id.words c.turn.new.self.table_id.words c.seat.inside.number c.args.cell c.args.rank c.seat.inside.row.items c.seat.inside.lifted c.straighten.new.place.me c.turn.new.self.me t.0 s
    (ap (λ (h : H). h.lifted) shown ∙ c.requires.home)
    (ap (λ (h : H). value_of h.view.held c.args.cell) shown ∙ c.requires.cell.1) inside
    (c.turn.ensures.2 ∙ ap (λ (z : M). let w : M = (z.0, turned z.1) in w) t.1)
    (subst (IsPossible g.C.Core.invariant g.C.Core.log_at g.C.Core.log g.C.Core.needs) (ap (λ (z : M). z.0) t.1) t.2)
    (ap (λ (z : TableId). z.words) (c.turn.ensures.0 ∙ c.grab-found.ensures.same.0))))

pub invariant_of-seat : goal.invariant_of-seat
invariant_of-seat g c =
    let s = back g.C.Core.invariant g.C.Core.log_at g.C.Core.log g.C.Core.needs c.seat.inside.place.table_id.words c.straighten.new.place.table_id.words c.seat.inside.number c.seat.inside.ahead c.len.result c.seat.inside.row.items c.seat.inside.lifted c.seat.inside.place.me c.straighten.new.place.me c.seat.invariant c.len.ensures.value c.straighten.ensures.slots (ap (λ (z : TableId). z.words) c.straighten.ensures.same.0) in
    let shown : (let w : SeatValue g.row.C-Cell.Denot g.row.C-Actor.Denot g.row.C-Entry.Denot = record { table_id = c.straighten.new.place.table_id; lifted = c.seat.inside.lifted; ranks = c.seat.inside.row.items; view = c.straighten.new.place.me.0 } in w) ≡ c.args.seat.now = (λ z. record { table_id = c.straighten.ensures.same.0 z; lifted = c.seat.inside.lifted; ranks = c.seat.inside.row.items; view = ap (λ m. m.0) c.straighten.ensures.slots z }) ∙ c.seat.view_is in
    straight g.C.Core.invariant g.C.Core.log_at g.C.Core.log g.C.Core.needs _ _ 0 _ _ _ refl (seated_refused g.C.Core.invariant g.C.Core.log_at g.C.Core.log g.C.Core.needs c.straighten.new.place.table_id.words c.grab-found.new.place.table_id.words c.seat.inside.number c.args.cell c.grab-found.result c.seat.inside.row.items c.seat.inside.lifted c.straighten.new.place.me c.grab-found.new.place.me s
    (c.grab-found.ensures.busy c.if-found-ne0.true).0 (ap (λ (z : TableId). z.words) c.grab-found.ensures.same.0))

pub returns-then-found-ne0-clause-possible : goal.returns-then-found-ne0-clause-possible
returns-then-found-ne0-clause-possible g c =
    let s = back g.C.Core.invariant g.C.Core.log_at g.C.Core.log g.C.Core.needs c.seat.inside.place.table_id.words c.straighten.new.place.table_id.words c.seat.inside.number c.seat.inside.ahead c.len.result c.seat.inside.row.items c.seat.inside.lifted c.seat.inside.place.me c.straighten.new.place.me c.seat.invariant c.len.ensures.value c.straighten.ensures.slots (ap (λ (z : TableId). z.words) c.straighten.ensures.same.0) in
    let shown : (let w : SeatValue g.row.C-Cell.Denot g.row.C-Actor.Denot g.row.C-Entry.Denot = record { table_id = c.straighten.new.place.table_id; lifted = c.seat.inside.lifted; ranks = c.seat.inside.row.items; view = c.straighten.new.place.me.0 } in w) ≡ c.args.seat.now = (λ z. record { table_id = c.straighten.ensures.same.0 z; lifted = c.seat.inside.lifted; ranks = c.seat.inside.row.items; view = ap (λ m. m.0) c.straighten.ensures.slots z }) ∙ c.seat.view_is in
    (seated_refused g.C.Core.invariant g.C.Core.log_at g.C.Core.log g.C.Core.needs c.straighten.new.place.table_id.words c.grab-found.new.place.table_id.words c.seat.inside.number c.args.cell c.grab-found.result c.seat.inside.row.items c.seat.inside.lifted c.straighten.new.place.me c.grab-found.new.place.me s
    (c.grab-found.ensures.busy c.if-found-ne0.true).0 (ap (λ (z : TableId). z.words) c.grab-found.ensures.same.0)).possible

pub returns-clause-ok : goal.returns-clause-ok
returns-clause-ok g c =
    let s = back g.C.Core.invariant g.C.Core.log_at g.C.Core.log g.C.Core.needs c.seat.inside.place.table_id.words c.straighten.new.place.table_id.words c.seat.inside.number c.seat.inside.ahead c.len.result c.seat.inside.row.items c.seat.inside.lifted c.seat.inside.place.me c.straighten.new.place.me c.seat.invariant c.len.ensures.value c.straighten.ensures.slots (ap (λ (z : TableId). z.words) c.straighten.ensures.same.0) in
    let shown : (let w : SeatValue g.row.C-Cell.Denot g.row.C-Actor.Denot g.row.C-Entry.Denot = record { table_id = c.straighten.new.place.table_id; lifted = c.seat.inside.lifted; ranks = c.seat.inside.row.items; view = c.straighten.new.place.me.0 } in w) ≡ c.args.seat.now = (λ z. record { table_id = c.straighten.ensures.same.0 z; lifted = c.seat.inside.lifted; ranks = c.seat.inside.row.items; view = ap (λ m. m.0) c.straighten.ensures.slots z }) ∙ c.seat.view_is in
    let H : Type 0 = SeatValue g.row.C-Cell.Denot g.row.C-Actor.Denot g.row.C-Entry.Denot in
    let t = c.grab-found.ensures.took c.if-found-ne0.false in
    let view = ap (λ m. m.0) c.turn.ensures.2 ∙ ap (λ m. m.0) t.1 in
    let table = c.turn.ensures.0 ∙ c.grab-found.ensures.same.0 in (
      t.0,
      (λ z. record { table_id = table z; lifted = c.seat.inside.lifted; ranks = c.push.ensures.items z; view = view z })
          ∙ ap (λ (h : H). record h { ranks = h.ranks ++ (c.args.cell, c.args.rank) ∷ []; view = after_take g.C.Core.log_at g.C.Core.log h.view c.args.cell t.0 }) shown,
      (t.3.0, ap (λ m. m.0.seen) c.turn.ensures.2 ∙ (t.3.1 ∙ ap (λ (h : H). t.3.0 ++ h.view.seen) shown)),
      subst (λ (h : H). HasAll h.view.actor_count h.view → (d : g.row.C-Cell.Denot) → value_of h.view.known c.args.cell ≡ some d → t.0 ≡ d) shown t.4,
    )
