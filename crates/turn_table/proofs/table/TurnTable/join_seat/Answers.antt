use Rattle.std.proofs.Common.{rules, refl, ◌≤◌, ◌++◌, ℕ, Option, subst, ◌≡◌, ◌≢◌, [], List, length, sym, ap, ◌∙◌}
use mathlib.Core.Option.{some}
use Rattle.atomic_table.specs.{Seated.TableId, Table.Me}
use Rattle.turn_table.specs.{Law.IsPossible, Numbered.{Extends, HaveOwnNumbers, longer, value_of}, Seat.{SeatValue, slots_of}, Views.joined_view, declared.view.View.View}
use Rattle.turn_table.proofs.Numbered.{both_apart}
use Rattle.turn_table.proofs.Turned.{none_turned, moved_on}
use Rattle.turn_table.proofs.{Allowed.{join_allowed, look_allowed}, Seats.{seated_together, joined_active, shorter_less, both_begin}}
use Rattle.turn_table.proofs.table.TurnTable.join_seat.Goals as goal

pub join_seat-requires : goal.join_seat-requires
join_seat-requires g c = let bare : c.other.inside.place.me.0.held ≡ [] = ap (λ (h : SeatValue g.row.C-Cell.Denot g.row.C-Actor.Denot g.row.C-Entry.Denot). h.view.held) c.other.view_is ∙ c.requires.bare in (
  search rules,
  search rules,
  c.other.invariant.turned ∙ none_turned c.other.inside.ahead _ (ap (slots_of c.other.inside.lifted) bare),
  search rules,
  join_allowed g.C.Core.invariant g.C.Core.log_at g.C.Core.log g.C.Core.needs (length c.self.inside.table.shared.key.actors.value.items) _ _ _ _ c.seat.invariant.seated.active bare,
)

pub load-requires : goal.load-requires
load-requires g c =
    let V : Type 0 = View g.row.C-Cell.Denot g.row.C-Actor.Denot g.row.C-Entry.Denot in
    let now : c.join_seat.new.seat.me.0 ≡ joined_view c.seat.inside.place.me.0 c.other.inside.place.me.0 = ap (λ m. m.0) c.join_seat.ensures.2 in (
      search rules,
      search rules,
      look_allowed g.C.Core.invariant g.C.Core.log_at g.C.Core.log g.C.Core.needs (length c.self.inside.table.shared.key.actors.value.items) _ _ _ _ (subst (λ (v : V). v.actors ≢ []) (sym now) (joined_active g.C.Core.invariant g.C.Core.log_at g.C.Core.log g.C.Core.needs c.seat.inside.place.me.0 c.other.inside.place.me.0 c.seat.invariant.seated.own.0 c.seat.invariant.seated.own.1))
          (subst (λ (v : V). length v.told ≤ length v.seen) (sym now) (shorter_less c.seat.inside.place.me.0.seen c.other.inside.place.me.0.seen)),
    )

pub invariant_of-seat : goal.invariant_of-seat
invariant_of-seat g c =
    let V : Type 0 = View g.row.C-Cell.Denot g.row.C-Actor.Denot g.row.C-Entry.Denot in
    let now = c.load.ensures.2.0 ∙ c.join_seat.ensures.2 in
    let all = slots_of c.seat.inside.lifted c.seat.inside.place.me.0.held in
    moved_on g.C.Core.invariant g.C.Core.log_at g.C.Core.log g.C.Core.needs _ _ _ _ _ _ _ _ (joined_view c.seat.inside.place.me.0 c.other.inside.place.me.0) c.seat.invariant now refl
    (seated_together g.C.Core.invariant g.C.Core.log_at g.C.Core.log g.C.Core.needs _ _ _ _ _ (c.seat.inside.place.me.0, all) ((joined_view c.seat.inside.place.me.0 c.other.inside.place.me.0), all) c.other.inside.place.me.0 c.seat.invariant.seated refl (subst (λ (v : V). IsPossible g.C.Core.invariant g.C.Core.log_at g.C.Core.log g.C.Core.needs v) (ap (λ m. m.0) now) c.load.ensures.2.1)
    (ap (λ (z : TableId). z.words) (c.load.ensures.0 ∙ c.join_seat.ensures.0)))

pub returns-clause-lists : goal.returns-clause-lists
returns-clause-lists g c =
    let V : Type 0 = View g.row.C-Cell.Denot g.row.C-Actor.Denot g.row.C-Entry.Denot in let H : Type 0 = SeatValue g.row.C-Cell.Denot g.row.C-Actor.Denot g.row.C-Entry.Denot in
    let now : c.join_seat.new.seat.me.0 ≡ joined_view c.seat.inside.place.me.0 c.other.inside.place.me.0 = ap (λ m. m.0) c.join_seat.ensures.2 in
    let h = both_begin c.seat.inside.place.me.0.seen c.other.inside.place.me.0.seen (subst (λ (v : V). Extends v.seen v.told) now c.load.ensures.2.2) in
    let M : Type 0 = Me (Option g.row.C-Cell.Denot) V in
    let E : Type 0 = List g.row.C-Entry.Denot in
    let seen : c.load.new.seat.me.0.seen ≡ longer c.seat.inside.place.me.0.seen c.other.inside.place.me.0.seen = ap (λ (m : M). m.0.seen) c.load.ensures.2.0 ∙ ap (λ (v : V). v.seen) now in
    let mine : c.seat.inside.place.me.0.seen ≡ c.args.seat.now.view.seen = ap (λ (k : H). k.view.seen) c.seat.view_is in
    let theirs : c.other.inside.place.me.0.seen ≡ c.args.other.view.seen = ap (λ (k : H). k.view.seen) c.other.view_is in
    ((h.0.0, seen ∙ (h.0.1 ∙ ap (λ (l : E). h.0.0 ++ l) mine)), (h.1.0, seen ∙ (h.1.1 ∙ ap (λ (l : E). h.1.0 ++ l) theirs)))

pub returns-clause-apart : goal.returns-clause-apart
returns-clause-apart g c =
    let V : Type 0 = View g.row.C-Cell.Denot g.row.C-Actor.Denot g.row.C-Entry.Denot in let H : Type 0 = SeatValue g.row.C-Cell.Denot g.row.C-Actor.Denot g.row.C-Entry.Denot in
    let now : c.join_seat.new.seat.me.0 ≡ joined_view c.seat.inside.place.me.0 c.other.inside.place.me.0 = ap (λ m. m.0) c.join_seat.ensures.2 in
    let mine : c.seat.inside.place.me.0.actors ≡ c.args.seat.now.view.actors = ap (λ (k : H). k.view.actors) c.seat.view_is in
    let theirs : c.other.inside.place.me.0.actors ≡ c.args.other.view.actors = ap (λ (k : H). k.view.actors) c.other.view_is in
    let A : Type 0 = List (ℕ × g.row.C-Actor.Denot) in
    let P : A × A → Type 0 = λ z. (i : ℕ) (a b : g.row.C-Actor.Denot) → value_of z.0 i ≡ some a → value_of z.1 i ≡ some b → ⊥ in
    subst P (λ i. (mine i, theirs i)) (both_apart c.seat.inside.place.me.0.actors c.other.inside.place.me.0.actors (subst (λ (v : V). HaveOwnNumbers v.actors) now c.load.ensures.2.3))
