use Rattle.std.proofs.Common.{◌≡◌, [], sym, ap, ◌∙◌, subst, List, Option}
use Rattle.turn_table.specs.{Law.IsClosed, Seat.SeatValue, Views.HasAll, declared.view.View.View}
use Rattle.turn_table.proofs.Opened.{closes}
use Rattle.turn_table.proofs.table.TurnTable.close.Goals as goal

pub returns : goal.returns
returns g c =
    let V : Type 0 = View g.row.C-Cell.Denot g.row.C-Actor.Denot g.row.C-Entry.Denot in
    let v : V = c.seat.inside.place.me.0 in
    let view : v ≡ c.args.seat.view = ap (λ (h : SeatValue g.row.C-Cell.Denot g.row.C-Actor.Denot g.row.C-Entry.Denot). h.view) c.seat.view_is in
    let all : HasAll v.actor_count v = subst (λ (w : V). HasAll w.actor_count w) (sym view) c.requires.all in
    let bare : v.held ≡ [] = ap (λ (w : V). w.held) view ∙ c.requires.bare in
    let done = closes g.C.Core.invariant g.C.Core.log_at g.C.Core.log g.C.Core.needs _ _ _ _ v all bare c.seat.invariant.seated.active c.close_with.ensures.values.2 in
    let P : List (Option g.row.C-Cell.Denot) × V → Type 0 = λ z. IsClosed g.C.Core.invariant g.C.Core.log_at g.C.Core.log z.0 z.1 in
    subst P (λ i. (sym c.taken_apart.ensures i, view i)) done
