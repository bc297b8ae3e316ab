-- A called command, from its beginning to its end, as its actor sees it. The newest event comes first.
use Rattle.std.specs.Prelude.{ℕ, ◌≡◌, ◌≤◌, List, ◌∷◌, [], ◌++◌, length, Option, Some, None}
use Rattle.row_ledger.specs.{Past.event_at, Right.IsRight, declared.event.Event.Event, declared.settings.{Call.Call, How.How}}
use Rattle.row_ledger.specs.declared.event.Event.TheVariants.{Called, Ended}
use Rattle.script_run.specs.{Places.begins_of, Runs.{HasPulls, PullsAlone}}
use Rattle.session_steps.specs.seat_steps.specs.{Floors.Stands, declared.floor.{Floor.Floor, Player.Player}}
use Rattle.turn_table.specs.Numbered.{Extends}
use Rattle.session_steps.specs.volap_cell.specs.{ImageKinds.doing, Setting.site_in, Values.{ActorValue, JobValue, actor_of}, declared.command.{Command.Command, Work.Work}}

-- the actor is as before but for its command, its job, and what it has noted and keeps for them
abbrev pub IsButCommand : (command : Option Command) (job : Option JobValue) (a b : ActorValue) → Type 0
IsButCommand command job a b = b ≡ record a { command = command; job = job; seen = b.seen; purse = b.purse; boxes = b.boxes; gone_gates = b.gone_gates }

-- The call began with the event at this position, at or past the end of what had been seen; the actor has begun nothing else since.
pub record CalledAt (of : ℕ) (call : Call) (start now : Player) : Type 0 where
  pub number : now.number ≡ start.number
  pub past : length start.seat.view.seen ≤ of
  pub at : event_at now.seat.view.seen of ≡ Some (Called start.number call)
  pub one : begins_of now.seat.view.seen start.number ≡ begins_of start.seat.view.seen start.number ++ of ∷ []
  pub seen : Extends now.seat.view.seen start.seat.view.seen

-- It is open.
pub record IsCallOpen (f : Floor) (of : ℕ) (call : Call) (start now : Player) : Type 0 where
  pub called : CalledAt of call start now
  pub stands : Stands f now
  pub work : Work
  pub job : Option JobValue
  pub actor : IsButCommand (doing of work) job (actor_of start.actor) (actor_of now.actor)
  pub noted : (actor_of now.actor).seen ≤ length now.seat.view.seen

-- It has ended so with the newest event, which makes a right history; and where no other command that pulls was open meanwhile, it had
-- pulled as it was to.
pub record IsCallDone (f : Floor) (of : ℕ) (call : Call) (how : How) (start now : Player) : Type 0 where
  pub called : CalledAt of call start now
  pub stands : Stands f now
  pub actor : IsButCommand None None (actor_of start.actor) (actor_of now.actor)
  pub noted : (actor_of now.actor).seen ≡ length now.seat.view.seen
  pub older : List Event
  pub newest : now.seat.view.seen ≡ Ended of how ∷ older
  pub right : IsRight (site_in (actor_of now.actor).setting) now.seat.view.seen
  pub pulls : PullsAlone older of → HasPulls f.with older (Ended of how)
