use Rattle.std.proofs.Common.{◌≡◌, ◌<◌, ℕ, length, arith, Bool, List, true, false, sym, ap, ◌∙◌, subst, Option}
use mathlib.Core.Option.{some}
use Rattle.atomic_table.specs.{Seated.TableId, Table.{Me, rest}}
use Rattle.turn_table.specs.{Law.sight, Numbered.{value_of, numbers_of, replace, after_first}, Seat.{SeatValue, IsSeated, slots_of, values_of}, Views.after_commit, declared.view.View.View}
use Rattle.turn_table.proofs.Emptied.{first_gone}
use Rattle.turn_table.proofs.Turned.{straight, still}
use Rattle.turn_table.proofs.Seats.{length_numbers, seated_committed, commit_ready, first_inside, first_number, slots_empty, values_slots}
use Rattle.turn_table.proofs.table.TurnTable.commit_lot.Goals as goal

pub put_in-requires-clause-empty : goal.put_in-requires-clause-empty
put_in-requires-clause-empty g c =
    let H : Type 0 = SeatValue g.row.C-Cell.Denot g.row.C-Actor.Denot g.row.C-Entry.Denot in
    let home : c.seat.inside.lifted ≡ true = ap (λ (h : H). h.lifted) c.seat.view_is ∙ c.requires.lifted in
    let same : numbers_of (g.L.Lot.cells c.args.cells) ≡ numbers_of c.seat.inside.place.me.0.held = c.requires.cells.0 ∙ ap (λ (h : H). numbers_of h.view.held) (sym c.seat.view_is) in
    (still g.C.Core.invariant g.C.Core.log_at g.C.Core.log g.C.Core.needs _ _ _ _ _ _ home c.seat.invariant).slots ∙ (ap (λ (b : Bool). slots_of b c.seat.inside.place.me.0.held) home ∙ sym (slots_empty (g.L.Lot.cells c.args.cells) c.seat.inside.place.me.0.held same))

pub commit_as-requires-clause-own : goal.commit_as-requires-clause-own
commit_as-requires-clause-own g c =
    let H : Type 0 = SeatValue g.row.C-Cell.Denot g.row.C-Actor.Denot g.row.C-Entry.Denot in
    let home : c.seat.inside.lifted ≡ true = ap (λ (h : H). h.lifted) c.seat.view_is ∙ c.requires.lifted in
    let same : numbers_of (g.L.Lot.cells c.args.cells) ≡ numbers_of c.seat.inside.place.me.0.held = c.requires.cells.0 ∙ ap (λ (h : H). numbers_of h.view.held) (sym c.seat.view_is) in
    let s = subst (λ (b : Bool). IsSeated g.C.Core.invariant g.C.Core.log_at g.C.Core.log g.C.Core.needs c.seat.inside.place.table_id.words c.seat.inside.number c.seat.inside.row.items b c.seat.inside.place.me) home (still g.C.Core.invariant g.C.Core.log_at g.C.Core.log g.C.Core.needs _ _ _ _ _ _ home c.seat.invariant) in
    let table : c.seat.inside.place.table_id ≡ c.args.self.now = ap (λ (h : H). h.table_id) c.seat.view_is ∙ c.requires.own in (
      c.put_in.ensures.same.0 ∙ table,
      subst (λ (z : TableId). c.remove-first.result.0 < z.words) table (first_inside g.C.Core.invariant g.C.Core.log_at g.C.Core.log g.C.Core.needs _ _ _ _ _ (g.L.Lot.cells c.args.cells) s same c.requires.cells.1 (first_number c.seat.inside.row.items c.remove-first.result c.remove-first.ensures.value)),
    )

pub commit_as-requires-clause-goes : goal.commit_as-requires-clause-goes
commit_as-requires-clause-goes g c =
    let V : Type 0 = View g.row.C-Cell.Denot g.row.C-Actor.Denot g.row.C-Entry.Denot in
    let H : Type 0 = SeatValue g.row.C-Cell.Denot g.row.C-Actor.Denot g.row.C-Entry.Denot in
    let home : c.seat.inside.lifted ≡ true = ap (λ (h : H). h.lifted) c.seat.view_is ∙ c.requires.lifted in
    let view : c.seat.inside.place.me.0 ≡ c.args.seat.now.view = ap (λ (h : H). h.view) c.seat.view_is in
    let same : numbers_of (g.L.Lot.cells c.args.cells) ≡ numbers_of c.seat.inside.place.me.0.held = c.requires.cells.0 ∙ ap (λ (h : H). numbers_of h.view.held) (sym c.seat.view_is) in
    let s = subst (λ (b : Bool). IsSeated g.C.Core.invariant g.C.Core.log_at g.C.Core.log g.C.Core.needs c.seat.inside.place.table_id.words c.seat.inside.number c.seat.inside.row.items b c.seat.inside.place.me) home (still g.C.Core.invariant g.C.Core.log_at g.C.Core.log g.C.Core.needs _ _ _ _ _ _ home c.seat.invariant) in
    let e = c.requires.event in
    commit_ready g.C.Core.invariant g.C.Core.log_at g.C.Core.log g.C.Core.needs g.C.Core.change _ _ c.args.number _ e.0 c.args.actor.now _ c.seat.inside.place.me c.put_in.new.place.me (g.L.Lot.cells c.args.cells) s same c.requires.cells.1
    c.put_in.ensures.slots (first_number c.seat.inside.row.items c.remove-first.result c.remove-first.ensures.value) (ap (λ (v : V). value_of v.actors c.args.number) view ∙ e.1) (subst (λ (v : V). g.C.Core.change (sight v) (g.L.Lot.cells c.args.cells) c.args.number e.0 c.args.actor.now) (sym view) e.2)
    (subst (λ (v : V). (j : ℕ) (x : g.row.C-Actor.Denot) (n : ℕ) → value_of (replace v.actors c.args.number c.args.actor.now) j ≡ some x → g.C.Core.needs x n → (d : g.row.C-Cell.Denot) × (value_of (after_first (g.L.Lot.cells c.args.cells)) n ≡ some d)) (sym view) c.requires.left)

pub invariant_of-seat : goal.invariant_of-seat
invariant_of-seat g c =
    let V : Type 0 = View g.row.C-Cell.Denot g.row.C-Actor.Denot g.row.C-Entry.Denot in
    let M : Type 0 = Me (Option g.row.C-Cell.Denot) V in
    let H : Type 0 = SeatValue g.row.C-Cell.Denot g.row.C-Actor.Denot g.row.C-Entry.Denot in
    let home : c.seat.inside.lifted ≡ true = ap (λ (h : H). h.lifted) c.seat.view_is ∙ c.requires.lifted in
    let same : numbers_of (g.L.Lot.cells c.args.cells) ≡ numbers_of c.seat.inside.place.me.0.held = c.requires.cells.0 ∙ ap (λ (h : H). numbers_of h.view.held) (sym c.seat.view_is) in
    let s = subst (λ (b : Bool). IsSeated g.C.Core.invariant g.C.Core.log_at g.C.Core.log g.C.Core.needs c.seat.inside.place.table_id.words c.seat.inside.number c.seat.inside.row.items b c.seat.inside.place.me) home (still g.C.Core.invariant g.C.Core.log_at g.C.Core.log g.C.Core.needs _ _ _ _ _ _ home c.seat.invariant) in
    let now = c.commit_as.ensures in
    let log = g.C.Core.log in
    let now_is : c.commit_as.new.place.me ≡ (after_commit g.C.Core.log_at log c.seat.inside.place.me.0 (g.L.Lot.cells c.args.cells) c.args.number c.args.actor.now, rest (slots_of false (g.L.Lot.cells c.args.cells))) =
    now.2 ∙ (ap (λ (m : M). let w : M = (after_commit g.C.Core.log_at log m.0 (values_of m.1) c.args.number c.args.actor.now, rest m.1) in w) c.put_in.ensures.slots
    ∙ ap (λ cs. let w : M = (after_commit g.C.Core.log_at log c.seat.inside.place.me.0 cs c.args.number c.args.actor.now, rest (slots_of false (g.L.Lot.cells c.args.cells))) in w) (values_slots (g.L.Lot.cells c.args.cells))) in
    straight g.C.Core.invariant g.C.Core.log_at g.C.Core.log g.C.Core.needs _ _ _ _ _ _ (c.seat.invariant.home home) (subst (λ (row : List (ℕ × Option ℕ)). IsSeated g.C.Core.invariant g.C.Core.log_at log g.C.Core.needs c.commit_as.new.place.table_id.words c.seat.inside.number row false c.commit_as.new.place.me) (sym c.remove-first.ensures.items)
    (seated_committed g.C.Core.invariant g.C.Core.log_at log g.C.Core.needs _ _ _ c.args.number c.args.actor.now _ c.seat.inside.place.me _ (g.L.Lot.cells c.args.cells) s same c.requires.cells.1 now_is now.3 (ap (λ (z : TableId). z.words) (now.0 ∙ c.put_in.ensures.same.0))))

pub remove-first-requires : goal.remove-first-requires
remove-first-requires g c =
    let H : Type 0 = SeatValue g.row.C-Cell.Denot g.row.C-Actor.Denot g.row.C-Entry.Denot in
    let home : c.seat.inside.lifted ≡ true = ap (λ (h : H). h.lifted) c.seat.view_is ∙ c.requires.lifted in
    let same : numbers_of (g.L.Lot.cells c.args.cells) ≡ numbers_of c.seat.inside.place.me.0.held = c.requires.cells.0 ∙ ap (λ (h : H). numbers_of h.view.held) (sym c.seat.view_is) in
    let rows : numbers_of c.seat.inside.row.items ≡ numbers_of c.seat.inside.place.me.0.held = (still g.C.Core.invariant g.C.Core.log_at g.C.Core.log g.C.Core.needs _ _ _ _ _ _ home c.seat.invariant).rows in
    let some : 0 < length (g.L.Lot.cells c.args.cells) = c.requires.cells.1 in
    omega (arith, some, ap length same, ap length rows, length_numbers (g.L.Lot.cells c.args.cells), length_numbers c.seat.inside.place.me.0.held, length_numbers c.seat.inside.row.items)

pub returns-clause-seat : goal.returns-clause-seat
returns-clause-seat g c =
    let V : Type 0 = View g.row.C-Cell.Denot g.row.C-Actor.Denot g.row.C-Entry.Denot in
    let M : Type 0 = Me (Option g.row.C-Cell.Denot) V in
    let H : Type 0 = SeatValue g.row.C-Cell.Denot g.row.C-Actor.Denot g.row.C-Entry.Denot in
    let now = c.commit_as.ensures in
    let log = g.C.Core.log in
    let now_is : c.commit_as.new.place.me.0 ≡ after_commit g.C.Core.log_at log c.seat.inside.place.me.0 (g.L.Lot.cells c.args.cells) c.args.number c.args.actor.now =
    ap (λ (m : M). m.0) now.2 ∙ (ap (λ (m : M). after_commit g.C.Core.log_at log m.0 (values_of m.1) c.args.number c.args.actor.now) c.put_in.ensures.slots
    ∙ ap (λ cs. after_commit g.C.Core.log_at log c.seat.inside.place.me.0 cs c.args.number c.args.actor.now) (values_slots (g.L.Lot.cells c.args.cells))) in
    let table = now.0 ∙ (c.put_in.ensures.same.0 ∙ ap (λ (h : H). h.table_id) c.seat.view_is) in
    let ranks = c.remove-first.ensures.items ∙ (first_gone c.seat.inside.row.items ∙ ap (λ (h : H). after_first h.ranks) c.seat.view_is) in
    let view = now_is ∙ ap (λ (h : H). after_commit g.C.Core.log_at log h.view (g.L.Lot.cells c.args.cells) c.args.number c.args.actor.now) c.seat.view_is in
    λ z. record { table_id = table z; lifted = false; ranks = ranks z; view = view z }
