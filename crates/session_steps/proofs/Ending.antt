-- How a session's command ends, by the step that is made.
use Rattle.std.proofs.Common.{◌≡◌, ◌∙◌, ℕ, Some, sym, ap, subst}
use Rattle.part_steps.specs.core_steps.specs.{Books.{book_asks, book_kind, book_places, book_tells}, declared.books.BookStep.BookStep}
use Rattle.part_steps.specs.core_steps.specs.declared.books.BookStep.TheVariants as book
use Rattle.measure_agg.specs.Aggregate.{Aggregate}
use Rattle.query_router.specs.{Desk.verdict_of, declared.part.Verdict.TheVariants.Sum}
use Rattle.part_steps.specs.seat_steps.proofs.Around.{around, still-sees}
use Rattle.session_steps.proofs.CommandsMade.{EndsBy, ack-ends, answer-ends, query-ends, routed-ends, unrouted-ends}
use Rattle.part_steps.specs.seat_steps.specs.{Booked.{HasBooked, IsDue}, Floors.IsSeated, declared.floor.{Floor.Floor, Player.Player}}
use Rattle.session_steps.specs.{Books.IsEndBy, declared.commands.End.End}
use Rattle.session_steps.specs.declared.commands.End.TheVariants as end
use Rattle.part_steps.specs.volap_cell.specs.{Cells.{desk_in}, Setting.Setting, Values.{ActorValue, actor_of}, World.World}

one-sum : (x y : Aggregate) → Some (Sum x) ≡ Some (Sum y) → x ≡ y
one-sum x y e = cc

module _ {f : Floor} {See : Setting → World → ℕ → Type 0} {was now : Player} (seated : IsSeated f was) where
  pub ends-by : (step : BookStep) (e : End) → IsEndBy was step e → IsDue f was (book_places step) (book_asks step)
      → (booked : HasBooked f (book_kind step) See (book_tells step) (book_places step) was now) → EndsBy e booked.mid now
  ends-by (book.Ack desk image) e is due booked = subst (λ x. EndsBy x booked.mid now) (sym is) (ack-ends booked.whole desk image booked.at booked.made)
  ends-by (book.Answer desk) e (agg, is, there, sums) due booked =
      let told = answer-ends booked.whole desk booked.at booked.made in
      let same : told.answer ≡ agg = one-sum told.answer agg (sym told.sum ∙ still-sees booked.took desk (λ cell. verdict_of (desk_in cell).parts ≡ Some (Sum agg)) there sums told.cell told.held) in
      subst (λ x. EndsBy x booked.mid now) (ap end.Answered same ∙ sym is) told.by
  ends-by (book.FailUnrouted image) e is due booked =
      let it = around f was seated in
      let can = (due.prepared it.0 it.1 it.2).asked in
      let mine = ap (λ (a : ActorValue). a.command) (ap actor_of booked.took.same.actor ∙ sym it.2.actor) in
      subst (λ x. EndsBy x booked.mid now) (sym is) (unrouted-ends booked.whole image can.of can.row (mine ∙ can.command) booked.at booked.made)
  ends-by (book.FailRouted desk image) e is due booked = subst (λ x. EndsBy x booked.mid now) (sym is) (routed-ends booked.whole desk image booked.at booked.made)
  ends-by (book.FailQuery desk) e is due booked =
      let it = around f was seated in
      let can = (due.prepared it.0 it.1 it.2).asked in
      let mine = ap (λ (a : ActorValue). a.command) (ap actor_of booked.took.same.actor ∙ sym it.2.actor) in
      subst (λ x. EndsBy x booked.mid now) (sym is) (query-ends booked.whole desk can.of (mine ∙ can.command) booked.at booked.made)
  ends-by (book.Route desk image) e is due booked = absurd is
  ends-by (book.Sync image) e is due booked = absurd is
