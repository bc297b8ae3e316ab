-- Where a session's query is to be answered, the parts on its desk come to a sum that can be counted.
use Rattle.std.proofs.Common.{◌≡◌, ◌∙◌, ℕ, ◌<◌, Option, refl, sym, ap, subst}
use Rattle.std.specs.Prelude.{IsSome}
use Rattle.part_steps.specs.core_image.proofs.Answered.{few}
use Rattle.part_steps.specs.core_steps.specs.Books.{book_asks, book_places}
use Rattle.part_steps.specs.core_steps.specs.declared.books.BookStep.TheVariants as book
use Rattle.query_router.specs.{Desk.{DeskValue, verdict_of}}
use Rattle.part_steps.specs.seat_steps.proofs.Around.{around}
use Rattle.session_steps.proofs.Servers.{desk-is, role-is}
use Rattle.part_steps.specs.seat_steps.specs.{Booked.IsDue, Floors.{IsAround, IsSeated}, Looks.Sees, declared.floor.{Floor.Floor, Player.Player}}
use Rattle.session_steps.specs.Books.{AreBooksOf, CanSum}
use Rattle.part_steps.specs.volap_cell.specs.{Cells.{CellValue, desk_in}, Setting.{Setting, desk_cell}, World.World, declared.command.Command.Command}
use Rattle.part_steps.specs.volap_cell.specs.declared.command.Work.TheVariants as work_is

module _ (f : Floor) (p : Player) (desk image : ℕ) (books : AreBooksOf f p desk image) (due : IsDue f p (book_places (book.Answer desk)) (book_asks (book.Answer desk))) where
  sums-in : (s : Setting) (w : World) → IsAround f p s w → CanSum (desk_in (w.cells desk))
  sums-in s w is =
      let can = (due.prepared s w is).asked in
      let i = is.inv.holds in
      let its : Command = record { of = can.of; work = work_is.Query } in
      let x = books.server in
      let role = role-is f p desk image books s w is in
      let low : x < s.servers = subst (λ (k : ℕ). x < k) (sym is.servers) books.low in
      let op = i.desking.on_desk p.number x its can.command role refl in
      let asked = i.telling.progress p.number its can.command in
      let here : desk_in (w.cells desk) ≡ desk_in (w.cells (desk_cell s x)) = ap (λ (y : ℕ). desk_in (w.cells y)) (desk-is f p desk image books s w is) in
      let sum = ap (λ (d : DeskValue). verdict_of d.parts) (sym here) ∙ can.sum in
      subst CanSum (sym here) (
        subst (λ (o : Option ℕ). IsSome o) (sym op) refl,
        few s w is.inv.ghost_of i x can.of asked.0 low op asked.2 can.answer sum,
        (can.answer, sum),
      )

  pub can-sum : IsSeated f p → Sees p desk (λ cell. CanSum (desk_in cell))
  can-sum seated c held = (let it = around f p seated in subst (λ (x : CellValue). CanSum (desk_in x)) (it.2.held desk c held) (sums-in it.0 it.1 it.2))
