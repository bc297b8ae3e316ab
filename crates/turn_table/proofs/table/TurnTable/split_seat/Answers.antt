use Rattle.std.proofs.Common.{rules, refl, false, [], ◌≡◌, ◌≢◌, ap, ◌∙◌}
use Rattle.atomic_table.specs.Seated.{TableId}
use Rattle.turn_table.specs.{Numbered.value_of, Seat.{SeatValue, slots_of}, Views.after_split, declared.view.View.View}
use Rattle.turn_table.proofs.Turned.{straight, moved_on}
use Rattle.turn_table.proofs.Seats.{seated_left, seated_alone}
use Rattle.turn_table.proofs.table.TurnTable.split_seat.Goals as goal

pub invariant_of-seat : goal.invariant_of-seat
invariant_of-seat g c = let view : c.seat.inside.place.me.0 ≡ c.args.seat.now.view = ap (λ (h : SeatValue g.row.C-Cell.Denot g.row.C-Actor.Denot g.row.C-Entry.Denot). h.view) c.seat.view_is in
    let other : c.args.number ≢ c.seat.inside.place.me.0.number = λ e. c.requires.actor.0 (e ∙ ap (λ (v : View g.row.C-Cell.Denot g.row.C-Actor.Denot g.row.C-Entry.Denot). v.number) view) in
    moved_on g.C.Core.invariant g.C.Core.log_at g.C.Core.log g.C.Core.needs _ _ _ _ _ _ _ _ (after_split c.seat.inside.place.me.0 c.args.number) c.seat.invariant c.cut-place.ensures.kept.2 refl (seated_left g.C.Core.invariant g.C.Core.log_at g.C.Core.log g.C.Core.needs _ _ _ c.args.number _ _ (c.seat.inside.place.me.0, slots_of c.seat.inside.lifted c.seat.inside.place.me.0.held) (after_split c.seat.inside.place.me.0 c.args.number, slots_of c.seat.inside.lifted c.seat.inside.place.me.0.held) c.requires.actor.1.0 (ap (λ (v : View g.row.C-Cell.Denot g.row.C-Actor.Denot g.row.C-Entry.Denot). value_of v.actors c.args.number) view ∙ c.requires.actor.1.1) (λ k. g.C.Core.idle_free c.requires.actor.1.0 k c.requires.actor.1.2) c.seat.invariant.seated other refl (ap (λ (z : TableId). z.words) c.cut-place.ensures.kept.0))

pub invariant_of-result : goal.invariant_of-result
invariant_of-result g c = let view : c.seat.inside.place.me.0 ≡ c.args.seat.now.view = ap (λ (h : SeatValue g.row.C-Cell.Denot g.row.C-Actor.Denot g.row.C-Entry.Denot). h.view) c.seat.view_is in
    let t = c.requires.actor.1 in
    straight g.C.Core.invariant g.C.Core.log_at g.C.Core.log g.C.Core.needs _ _ 0 _ _ _ refl (seated_alone g.C.Core.invariant g.C.Core.log_at g.C.Core.log g.C.Core.needs _ _ _ _ _ _ _ _ (c.seat.inside.place.me.0, slots_of c.seat.inside.lifted c.seat.inside.place.me.0.held) _ t.0 c.seat.invariant.seated (ap (λ (v : View g.row.C-Cell.Denot g.row.C-Actor.Denot g.row.C-Entry.Denot). value_of v.actors c.args.number) view ∙ t.1)
    (λ e. c.requires.actor.0 (e ∙ ap (λ (v : View g.row.C-Cell.Denot g.row.C-Actor.Denot g.row.C-Entry.Denot). v.number) view)) c.cut-place.ensures.given.1 (search rules))

pub returns-clause-possible : goal.returns-clause-possible
returns-clause-possible g c = (
  (let view : c.seat.inside.place.me.0 ≡ c.args.seat.now.view = ap (λ (h : SeatValue g.row.C-Cell.Denot g.row.C-Actor.Denot g.row.C-Entry.Denot). h.view) c.seat.view_is in
      let other : c.args.number ≢ c.seat.inside.place.me.0.number = λ e. c.requires.actor.0 (e ∙ ap (λ (v : View g.row.C-Cell.Denot g.row.C-Actor.Denot g.row.C-Entry.Denot). v.number) view) in
      (moved_on g.C.Core.invariant g.C.Core.log_at g.C.Core.log g.C.Core.needs _ _ _ _ _ _ _ _ (after_split c.seat.inside.place.me.0 c.args.number) c.seat.invariant c.cut-place.ensures.kept.2 refl (seated_left g.C.Core.invariant g.C.Core.log_at g.C.Core.log g.C.Core.needs _ _ _ c.args.number _ _ (c.seat.inside.place.me.0, slots_of c.seat.inside.lifted c.seat.inside.place.me.0.held) (after_split c.seat.inside.place.me.0 c.args.number, slots_of c.seat.inside.lifted c.seat.inside.place.me.0.held) c.requires.actor.1.0 (ap (λ (v : View g.row.C-Cell.Denot g.row.C-Actor.Denot g.row.C-Entry.Denot). value_of v.actors c.args.number) view ∙ c.requires.actor.1.1) (λ k. g.C.Core.idle_free c.requires.actor.1.0 k c.requires.actor.1.2) c.seat.invariant.seated other refl (ap (λ (z : TableId). z.words) c.cut-place.ensures.kept.0))).seated).possible,
  (let view : c.seat.inside.place.me.0 ≡ c.args.seat.now.view = ap (λ (h : SeatValue g.row.C-Cell.Denot g.row.C-Actor.Denot g.row.C-Entry.Denot). h.view) c.seat.view_is in
      let t = c.requires.actor.1 in
      seated_alone g.C.Core.invariant g.C.Core.log_at g.C.Core.log g.C.Core.needs _ 0 _ [] false _ _ _ (c.seat.inside.place.me.0, slots_of c.seat.inside.lifted c.seat.inside.place.me.0.held) _ t.0 c.seat.invariant.seated (ap (λ (v : View g.row.C-Cell.Denot g.row.C-Actor.Denot g.row.C-Entry.Denot). value_of v.actors c.args.number) view ∙ t.1)
      (λ e. c.requires.actor.0 (e ∙ ap (λ (v : View g.row.C-Cell.Denot g.row.C-Actor.Denot g.row.C-Entry.Denot). v.number) view)) c.cut-place.ensures.given.1 refl).possible,
)
