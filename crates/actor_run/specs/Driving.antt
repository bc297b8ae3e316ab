-- A session's command from its beginning to its end, while others go on too.
use Rattle.std.specs.Prelude.{ℕ, ◌≡◌, ◌≤◌, List, ◌∷◌, length, Option, Some, None}
use Rattle.row_ledger.specs.{Right.IsRight, declared.event.Event.Event}
use Rattle.script_run.specs.Places.{begins_of}
use Rattle.whole_steps.specs.seat_steps.specs.{Floors.Stands, declared.floor.{Floor.Floor, Player.Player}}
use Rattle.whole_steps.specs.session_steps.specs.{Commands.{IsEndFor, IsEndOf, IsFurtherWork, IsOfSession}, declared.commands.End.End}
use Rattle.turn_table.specs.Numbered.{Extends}
use Rattle.whole_steps.specs.volap_cell.specs.{ImageKinds.doing, Setting.site_in, Values.{actor_of}, declared.command.Work.Work, declared.role.Role.TheVariants.Session}

-- The session has had this command open since it stood so, and has pushed no event of its own since.
pub record IsOpenSince (f : Floor) (start now : Player) : Type 0 where
  pub stands : Stands f now
  pub number : now.number ≡ start.number
  pub server : ℕ
  pub role : (actor_of start.actor).role ≡ Session server
  pub of : ℕ
  pub work : Work
  pub command : (actor_of start.actor).command ≡ doing of work
  pub kind : IsOfSession work
  pub no_job : (actor_of start.actor).job ≡ None
  pub work_now : Work
  pub further : IsFurtherWork work work_now
  pub actor : actor_of now.actor ≡ record (actor_of start.actor) { command = doing of work_now; errand = (actor_of now.actor).errand; purse = (actor_of now.actor).purse; boxes = (actor_of now.actor).boxes }
  pub noted : (actor_of start.actor).seen ≤ length start.seat.view.seen
  pub seen : Extends now.seat.view.seen start.seat.view.seen

-- The command has ended so, by the newest event that the session has seen, and it has begun nothing since; the history is right.
pub record EndsSince (f : Floor) (e : End) (start now : Player) : Type 0 where
  pub stands : Stands f now
  pub number : now.number ≡ start.number
  pub older : List Event
  pub behind : Extends older start.seat.view.seen
  pub newest : Event
  pub now_is : now.seat.view.seen ≡ newest ∷ older
  pub right : IsRight (site_in (actor_of now.actor).setting) now.seat.view.seen
  pub only : begins_of now.seat.view.seen start.number ≡ begins_of start.seat.view.seen start.number
  pub ends : (of : ℕ) (work : Work) → (actor_of start.actor).command ≡ doing of work → IsEndFor e work × IsEndOf e of newest
  pub actor : actor_of now.actor ≡ record (actor_of start.actor) { command = None; errand = None; seen = length now.seat.view.seen; purse = (actor_of now.actor).purse; boxes = (actor_of now.actor).boxes }

-- it is still open, or has ended so
abbrev pub GoesSince : Floor → Option End → Player → Player → Type 0
GoesSince f None start now = IsOpenSince f start now
GoesSince f (Some e) start now = EndsSince f e start now
