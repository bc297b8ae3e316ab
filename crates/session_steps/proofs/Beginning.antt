-- What a session's beginnings and notes come to.
use Rattle.std.proofs.Common.{◌≡◌, ◌∙◌, ◌≤◌, ℕ, ℤ, false, List, length, Some, is_some, refl, sym, ap, subst}
use Rattle.part_steps.specs.core_counts.specs.Counting.{went_if}
use Rattle.part_steps.specs.core_image.specs.Told.{asked_by, begun_by, refused_by, unknown_by}
use Rattle.part_steps.specs.core_steps.specs.{Begins.{begin_kind, begin_places, begin_tells}, Notes.{note_kind, note_places, note_tells}}
use Rattle.part_steps.specs.core_steps.specs.declared.begins.BeginStep.TheVariants as begin
use Rattle.part_steps.specs.core_steps.specs.declared.notes.NoteStep.TheVariants as note
use Rattle.dim_hierarchy.specs.{declared.filter.Pick.Pick, declared.row.Coord.Coord}
use Rattle.list_words.proofs.Elements.{Some-same}
use Rattle.session_steps.proofs.CommandsMade.{insert-begins, query-begins, refused-noted, unknown-noted}
use Rattle.part_steps.specs.seat_steps.proofs.Since.{mid-same, pushed-since}
use Rattle.part_steps.specs.seat_steps.specs.{Booked.{HasBooked, IsUnchanged}, declared.floor.{Floor.Floor, Player.Player}}
use Rattle.session_steps.specs.Begins.{HasAsked, HasBegunInsert, HasNoted, row_at}
use Rattle.part_steps.specs.volap_cell.specs.{ImageKinds.{IsFree, doing}, Setting.Setting, Values.{ActorValue, actor_of}, World.World, declared.command.Command.Command, declared.command.Work.Work}
use Rattle.part_steps.specs.volap_cell.specs.declared.command.Work.TheVariants as work_is

-- where a command is read of an actor, it is that of which is said where it began
pub began-at : (of : ℕ) (work : Work) (now : Player) (command : Command) → (actor_of now.actor).command ≡ doing of work → now.actor.command ≡ Some command → command.of ≡ of
began-at of work now command is read = (let both : Some command ≡ doing of work = sym read ∙ is in ap (λ (c : Command). c.of) (sym (Some-same command (record { of = of; work = work }) both)))

still-free : {p mid : Player} → IsUnchanged p mid → IsFree (actor_of p.actor) → IsFree (actor_of mid.actor)
still-free at free = subst IsFree (sym at.actor) free

module _ {f : Floor} {See : Setting → World → ℕ → Type 0} {p was now : Player} (same : IsUnchanged p was) (noted : (actor_of p.actor).seen ≤ length p.seat.view.seen) where
  pub insert-begun : (image : ℕ) (at : Coord) (measures : ℤ)
      → (booked : HasBooked f (begin_kind (begin.Insert image at measures)) See (begin_tells (begin.Insert image at measures)) (begin_places (begin.Insert image at measures)) was now)
      → HasBegunInsert f (length (booked.mid).seat.view.seen) at measures p now
  insert-begun image at measures booked =
      let of = length (booked.mid).seat.view.seen in
      let both = insert-begins booked.whole image at measures booked.at booked.made in
      record {
        pushed = pushed-since p same booked (begun_by at measures) both.0 noted;
        position = refl;
        actor = both.1 ∙ ap (λ (a : ActorValue). record a { command = doing of (work_is.Insert (row_at of at measures) false); seen = length now.seat.view.seen }) (mid-same p same booked).actor;
      }

  pub query-begun : IsFree (actor_of p.actor) → (desk image : ℕ) (filter : List Pick)
      → (booked : HasBooked f (begin_kind (begin.Query desk image filter)) See (begin_tells (begin.Query desk image filter)) (begin_places (begin.Query desk image filter)) was now)
      → HasAsked f (length (booked.mid).seat.view.seen) filter p now
  query-begun free desk image filter booked =
      let of = length (booked.mid).seat.view.seen in
      let both = query-begins booked.whole desk image filter booked.at booked.made in
      let none = (still-free (mid-same p same booked) free).command in
      record {
        pushed = pushed-since p same booked (asked_by filter) both.0 noted;
        position = refl;
        actor = both.1 ∙ ap (λ (a : ActorValue). record a { command = doing of work_is.Query; seen = length now.seat.view.seen }) (mid-same p same booked).actor;
        went = (booked.made).counted ∙ (λ k. went_if (is_some (none k)) (is_some (actor_of (booked.mid).actor).errand) (is_some (actor_of now.actor).errand) (booked.mid).actor.went);
      }

  pub unknown-told : IsFree (actor_of p.actor) → (dim : ℕ) → HasBooked f (note_kind (note.Unknown dim)) See (note_tells (note.Unknown dim)) (note_places (note.Unknown dim)) was now → HasNoted f (unknown_by dim) p now
  unknown-told free dim booked =
      let both = unknown-noted booked.whole dim (still-free (mid-same p same booked) free) booked.at booked.made in
      record {
        pushed = pushed-since p same booked (unknown_by dim) both.0 noted;
        actor = both.1 ∙ ap (λ (a : ActorValue). record a { seen = length now.seat.view.seen }) (mid-same p same booked).actor;
      }

  pub refused-told : IsFree (actor_of p.actor) → HasBooked f (note_kind note.Refused) See (note_tells note.Refused) (note_places note.Refused) was now → HasNoted f refused_by p now
  refused-told free booked =
      let both = refused-noted booked.whole (still-free (mid-same p same booked) free) booked.at booked.made in
      record {
        pushed = pushed-since p same booked refused_by both.0 noted;
        actor = both.1 ∙ ap (λ (a : ActorValue). record a { seen = length now.seat.view.seen }) (mid-same p same booked).actor;
      }
