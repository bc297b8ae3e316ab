-- The desk and the image of a session's server, and how a command ends by the parts that are on the desk.
use Rattle.std.specs.Prelude.{ℕ, ◌≡◌, ◌+◌, ◌^◌, ◌<◌, ⊤, true, false, Option, Some, None, IsSome}
use Rattle.part_steps.specs.core_due.specs.declared.works.WorkDue.{WorkDue}
use Rattle.part_steps.specs.core_due.specs.declared.works.WorkDue.TheVariants as is_due
use Rattle.part_steps.specs.core_image.specs.Asking.{IsSum}
use Rattle.part_steps.specs.core_steps.specs.{Books.{book_asks, book_places}, Parts.{part_asks, part_places}, declared.books.BookStep.BookStep}
use Rattle.part_steps.specs.core_steps.specs.declared.books.BookStep.TheVariants as book
use Rattle.part_steps.specs.core_steps.specs.declared.parts.PartStep.TheVariants.{TakePart}
use Rattle.measure_agg.specs.Aggregate.{Aggregate}
use Rattle.query_router.specs.{Desk.{DeskValue, sum_of, verdict_of}, declared.part.Verdict.TheVariants.Sum}
use Rattle.part_steps.specs.seat_steps.specs.{Booked.IsDue, Looks.Sees, declared.floor.{Floor.Floor, Player.Player}}
use Rattle.session_steps.specs.declared.commands.End.{End}
use Rattle.session_steps.specs.declared.commands.End.TheVariants as end
use Rattle.turn_table.specs.Seat.{cell_count}
use Rattle.part_steps.specs.volap_cell.specs.{Cells.desk_in, Setting.image_cell, Values.actor_of, declared.{command.Work.Work, role.Role.TheVariants.Session}}
use Rattle.part_steps.specs.volap_cell.specs.declared.command.Work.TheVariants as work_is
use Rattle.part_steps.specs.volap_turns.specs.Rows.{IsThere}

-- a session's server has its desk and its image in these cells
pub record AreBooksOf (f : Floor) (p : Player) (desk image : ℕ) : Type 0 where
  pub server : ℕ
  pub role : (actor_of p.actor).role ≡ Session server
  pub low : server < f.with.servers
  pub bytes : f.with.servers < 2 ^ 8
  pub desk_is : desk ≡ 3 + f.with.servers + server
  pub image_is : image ≡ image_cell server
  pub within : desk < cell_count f.table

-- Ends of commands.

-- by which step a command fails of which a part found no memory; none where no part of it is laid yet
abbrev pub fails_by : (desk image : ℕ) → Work → Option BookStep
fails_by desk image (work_is.Insert row false) = None
fails_by desk image (work_is.Insert row true) = Some (book.FailRouted desk image)
fails_by desk image work = Some (book.FailQuery desk)

-- the step is one that ends a command whose parts are on this desk
abbrev pub EndsAtDesk : (desk image : ℕ) → BookStep → Type 0
EndsAtDesk desk image (book.Ack d i) = (d ≡ desk) × (i ≡ image)
EndsAtDesk desk image (book.Answer d) = d ≡ desk
EndsAtDesk desk image (book.FailRouted d i) = (d ≡ desk) × (i ≡ image)
EndsAtDesk desk image (book.FailQuery d) = d ≡ desk
EndsAtDesk desk image step = ⊥

-- what is due by the parts on a desk is prepared, where it is that one of them is taken, or that the command ends
abbrev pub IsDueBy : Floor → Player → (desk image : ℕ) → Option WorkDue → Type 0
IsDueBy f p desk image (Some (is_due.Takes at)) = IsDue f p (part_places (TakePart desk)) (part_asks (TakePart desk))
IsDueBy f p desk image (Some (is_due.Books step)) = EndsAtDesk desk image step × IsDue f p (book_places step) (book_asks step)
IsDueBy f p desk image due = ⊤

-- the parts on a desk are of a command, and come to a sum that can be counted
abbrev pub CanSum : DeskValue → Type 0
CanSum desk = IsSome desk.op × ((sum_of desk.parts).count < 2 ^ 63) × IsSum (verdict_of desk.parts)

-- the parts on a held desk come to this sum
abbrev pub SumsTo : Player → ℕ → Aggregate → Type 0
SumsTo p desk agg = Sees p desk (λ cell. verdict_of (desk_in cell).parts ≡ Some (Sum agg))

-- a command ends so by this step
abbrev pub IsEndBy : Player → BookStep → End → Type 0
IsEndBy p (book.Ack desk image) e = e ≡ end.Acked
IsEndBy p (book.Answer desk) e = (agg : Aggregate) × (e ≡ end.Answered agg) × IsThere p.seat.view.held desk × SumsTo p desk agg
IsEndBy p (book.FailUnrouted image) e = e ≡ end.Failed
IsEndBy p (book.FailRouted desk image) e = e ≡ end.Failed
IsEndBy p (book.FailQuery desk) e = e ≡ end.Failed
IsEndBy p step e = ⊥
