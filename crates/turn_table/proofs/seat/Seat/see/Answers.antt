use Rattle.std.proofs.Common.{◌≡◌, ◌<◌, ℕ, List, length, false, sym, refl, ap, ◌∙◌, arith, Option}
use mathlib.Core.Option.{some}
use lib.ListN.{get_elem?}
use Rattle.atomic_table.specs.Seated.{TableId}
use Rattle.turn_table.specs.{Numbered.value_of, Seat.SeatValue}
use Rattle.turn_table.proofs.{Numbered.below_length, Seats.{as_many, held_told}, Turned.{back, may_straighten, turned_on, lent}}
use Rattle.turn_table.proofs.seat.Seat.see.Goals as goal

pub straighten-requires : goal.straighten-requires
straighten-requires g c = may_straighten g.C.Core.invariant g.C.Core.log_at g.C.Core.log g.C.Core.needs c.self.inside.place.table_id.words c.self.inside.number c.self.inside.ahead c.len.result c.self.inside.row.items c.self.inside.lifted c.self.inside.place.me c.self.invariant c.len.ensures.value

pub position-self-inside-requires : goal.position-self-inside-requires
position-self-inside-requires g c =
    let s = back g.C.Core.invariant g.C.Core.log_at g.C.Core.log g.C.Core.needs c.self.inside.place.table_id.words c.straighten.new.place.table_id.words c.self.inside.number c.self.inside.ahead c.len.result c.self.inside.row.items c.self.inside.lifted c.self.inside.place.me c.straighten.new.place.me c.self.invariant c.len.ensures.value c.straighten.ensures.slots (ap (λ (z : TableId). z.words) c.straighten.ensures.same.0) in
    let held : value_of c.straighten.new.place.me.0.held c.args.cell ≡ some c.requires.held.0 = ap (λ m. value_of m.0.held c.args.cell) c.straighten.ensures.slots ∙ (ap (λ (h : SeatValue g.row.C-Cell.Denot g.row.C-Actor.Denot g.row.C-Entry.Denot). value_of h.view.held c.args.cell) c.self.view_is ∙ c.requires.held.1) in
    let h = held_told g.C.Core.invariant g.C.Core.log_at g.C.Core.log g.C.Core.needs c.straighten.new.place.table_id.words c.self.inside.number c.args.cell c.self.inside.row.items c.self.inside.lifted c.straighten.new.place.me c.requires.held.0 s held in
    (h.0, ap (λ (l : List (ℕ × Option ℕ)). value_of l c.args.cell) c.as_slice.ensures.value ∙ h.1)

pub turn_by-requires : goal.turn_by-requires
turn_by-requires g c =
    let s = back g.C.Core.invariant g.C.Core.log_at g.C.Core.log g.C.Core.needs c.self.inside.place.table_id.words c.straighten.new.place.table_id.words c.self.inside.number c.self.inside.ahead c.len.result c.self.inside.row.items c.self.inside.lifted c.self.inside.place.me c.straighten.new.place.me c.self.invariant c.len.ensures.value c.straighten.ensures.slots (ap (λ (z : TableId). z.words) c.straighten.ensures.same.0) in
    let held : value_of c.straighten.new.place.me.0.held c.args.cell ≡ some c.requires.held.0 = ap (λ m. value_of m.0.held c.args.cell) c.straighten.ensures.slots ∙ (ap (λ (h : SeatValue g.row.C-Cell.Denot g.row.C-Actor.Denot g.row.C-Entry.Denot). value_of h.view.held c.args.cell) c.self.view_is ∙ c.requires.held.1) in
    let i : ℕ = c.position-self-inside.result in
    let home : c.self.inside.lifted ≡ false = ap (λ (h : SeatValue g.row.C-Cell.Denot g.row.C-Actor.Denot g.row.C-Entry.Denot). h.lifted) c.self.view_is ∙ c.requires.home in
    let at : get_elem? c.self.inside.row.items i ≡ some (c.args.cell, c.position-self-inside.ensures.0) = ap (λ (l : List (ℕ × Option ℕ)). get_elem? l i) (sym c.as_slice.ensures.value) ∙ c.position-self-inside.ensures.1 in
    let low : i < length c.self.inside.row.items = below_length c.self.inside.row.items i _ at in omega (arith, low, as_many g.C.Core.invariant g.C.Core.log_at g.C.Core.log g.C.Core.needs c.straighten.new.place.table_id.words c.self.inside.number c.self.inside.row.items c.self.inside.lifted c.straighten.new.place.me s)

pub front-requires-clause-front : goal.front-requires-clause-front
front-requires-clause-front g c =
    let s = back g.C.Core.invariant g.C.Core.log_at g.C.Core.log g.C.Core.needs c.self.inside.place.table_id.words c.straighten.new.place.table_id.words c.self.inside.number c.self.inside.ahead c.len.result c.self.inside.row.items c.self.inside.lifted c.self.inside.place.me c.straighten.new.place.me c.self.invariant c.len.ensures.value c.straighten.ensures.slots (ap (λ (z : TableId). z.words) c.straighten.ensures.same.0) in
    let held : value_of c.straighten.new.place.me.0.held c.args.cell ≡ some c.requires.held.0 = ap (λ m. value_of m.0.held c.args.cell) c.straighten.ensures.slots ∙ (ap (λ (h : SeatValue g.row.C-Cell.Denot g.row.C-Actor.Denot g.row.C-Entry.Denot). value_of h.view.held c.args.cell) c.self.view_is ∙ c.requires.held.1) in
    let i : ℕ = c.position-self-inside.result in
    let home : c.self.inside.lifted ≡ false = ap (λ (h : SeatValue g.row.C-Cell.Denot g.row.C-Actor.Denot g.row.C-Entry.Denot). h.lifted) c.self.view_is ∙ c.requires.home in
    let at : get_elem? c.self.inside.row.items i ≡ some (c.args.cell, c.position-self-inside.ensures.0) = ap (λ (l : List (ℕ × Option ℕ)). get_elem? l i) (sym c.as_slice.ensures.value) ∙ c.position-self-inside.ensures.1 in
    let t = lent g.C.Core.invariant g.C.Core.log_at g.C.Core.log g.C.Core.needs c.straighten.new.place.table_id.words c.self.inside.number i c.args.cell _ c.self.inside.row.items c.self.inside.lifted c.straighten.new.place.me c.turn_by.new.place.me s home at c.turn_by.ensures.slots in (t.0, t.1)

pub invariant_of-self : goal.invariant_of-self
invariant_of-self g c =
    let s = back g.C.Core.invariant g.C.Core.log_at g.C.Core.log g.C.Core.needs c.self.inside.place.table_id.words c.straighten.new.place.table_id.words c.self.inside.number c.self.inside.ahead c.len.result c.self.inside.row.items c.self.inside.lifted c.self.inside.place.me c.straighten.new.place.me c.self.invariant c.len.ensures.value c.straighten.ensures.slots (ap (λ (z : TableId). z.words) c.straighten.ensures.same.0) in
    let held : value_of c.straighten.new.place.me.0.held c.args.cell ≡ some c.requires.held.0 = ap (λ m. value_of m.0.held c.args.cell) c.straighten.ensures.slots ∙ (ap (λ (h : SeatValue g.row.C-Cell.Denot g.row.C-Actor.Denot g.row.C-Entry.Denot). value_of h.view.held c.args.cell) c.self.view_is ∙ c.requires.held.1) in
    let i : ℕ = c.position-self-inside.result in
    let home : c.self.inside.lifted ≡ false = ap (λ (h : SeatValue g.row.C-Cell.Denot g.row.C-Actor.Denot g.row.C-Entry.Denot). h.lifted) c.self.view_is ∙ c.requires.home in
    let at : get_elem? c.self.inside.row.items i ≡ some (c.args.cell, c.position-self-inside.ensures.0) = ap (λ (l : List (ℕ × Option ℕ)). get_elem? l i) (sym c.as_slice.ensures.value) ∙ c.position-self-inside.ensures.1 in
    let same = c.front.follows.holds-at-none in
    turned_on g.C.Core.invariant g.C.Core.log_at g.C.Core.log g.C.Core.needs c.straighten.new.place.table_id.words c.front.follows.lender-at-none.table_id.words c.self.inside.number i c.args.cell _ c.self.inside.row.items c.self.inside.lifted c.straighten.new.place.me c.front.follows.lender-at-none.me s home at (ap (λ p. p.me) same ∙ c.turn_by.ensures.slots) (ap (λ p. p.table_id.words) same ∙ ap (λ (z : TableId). z.words) c.turn_by.ensures.same.0)

pub returns : goal.returns
returns g c =
    let s = back g.C.Core.invariant g.C.Core.log_at g.C.Core.log g.C.Core.needs c.self.inside.place.table_id.words c.straighten.new.place.table_id.words c.self.inside.number c.self.inside.ahead c.len.result c.self.inside.row.items c.self.inside.lifted c.self.inside.place.me c.straighten.new.place.me c.self.invariant c.len.ensures.value c.straighten.ensures.slots (ap (λ (z : TableId). z.words) c.straighten.ensures.same.0) in
    let held : value_of c.straighten.new.place.me.0.held c.args.cell ≡ some c.requires.held.0 = ap (λ m. value_of m.0.held c.args.cell) c.straighten.ensures.slots ∙ (ap (λ (h : SeatValue g.row.C-Cell.Denot g.row.C-Actor.Denot g.row.C-Entry.Denot). value_of h.view.held c.args.cell) c.self.view_is ∙ c.requires.held.1) in
    let i : ℕ = c.position-self-inside.result in
    let home : c.self.inside.lifted ≡ false = ap (λ (h : SeatValue g.row.C-Cell.Denot g.row.C-Actor.Denot g.row.C-Entry.Denot). h.lifted) c.self.view_is ∙ c.requires.home in
    let at : get_elem? c.self.inside.row.items i ≡ some (c.args.cell, c.position-self-inside.ensures.0) = ap (λ (l : List (ℕ × Option ℕ)). get_elem? l i) (sym c.as_slice.ensures.value) ∙ c.position-self-inside.ensures.1 in
    let t = lent g.C.Core.invariant g.C.Core.log_at g.C.Core.log g.C.Core.needs c.straighten.new.place.table_id.words c.self.inside.number i c.args.cell _ c.self.inside.row.items c.self.inside.lifted c.straighten.new.place.me c.turn_by.new.place.me s home at c.turn_by.ensures.slots in
    let same = c.front.follows.holds-at-none in
    let table = ap (λ p. p.table_id) same ∙ (c.turn_by.ensures.same.0 ∙ c.straighten.ensures.same.0) in
    let view = ap (λ p. p.me.0) same ∙ (ap (λ m. m.0) c.turn_by.ensures.slots ∙ ap (λ m. m.0) c.straighten.ensures.slots) in
    let shown = (λ z. record { table_id = table z; lifted = c.self.inside.lifted; ranks = c.self.inside.row.items; view = view z }) ∙ c.self.view_is in
    let mine : c.straighten.new.place.me.0 ≡ c.args.self.now.view = ap (λ m. m.0) c.straighten.ensures.slots ∙ ap (λ (h : SeatValue g.row.C-Cell.Denot g.row.C-Actor.Denot g.row.C-Entry.Denot). h.view) c.self.view_is in
    ((refl, (λ _. tt), shown), record { same = tt; value = ap (λ v. value_of v.held c.args.cell) (sym mine) ∙ t.2 c.front.result.now c.front.ensures.value })
