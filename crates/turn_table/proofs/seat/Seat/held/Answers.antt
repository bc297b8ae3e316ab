use Rattle.std.proofs.Common.{ℕ, List, Option, ap, subst, sym}
use Rattle.turn_table.specs.{Numbered.HaveOwnNumbers, Seat.SeatValue}
use Rattle.turn_table.proofs.Numbered.{distinct_same}
use Rattle.turn_table.proofs.seat.Seat.held.Goals as goal

pub returns-clause-apart : goal.returns-clause-apart
returns-clause-apart g c =
    let s = c.self.invariant.seated in
    subst (λ (l : List (ℕ × Option ℕ)). HaveOwnNumbers l) (ap (λ (h : SeatValue g.row.C-Cell.Denot g.row.C-Actor.Denot g.row.C-Entry.Denot). h.ranks) c.self.view_is)
    (distinct_same c.self.inside.place.me.0.held c.self.inside.row.items (sym s.rows) s.distinct)
