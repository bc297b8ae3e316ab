-- Commands that are called: what is asked of their actors before each step, and what the step comes to. The newest event comes first.
use Rattle.std.specs.Prelude.{ℕ, ◌≡◌, ◌≤◌, ◌<◌, List, length, Option, Some, None, false}
use Rattle.session_steps.specs.core_image.specs.{NotesDue.MayBeLeft, Told.called_by}
use Rattle.describing_set.specs.declared.listing.Spot.{Spot}
use Rattle.row_ledger.specs.{Classes.class_of, Groups.IsCallOf, declared.event.Event.Event, declared.settings.{Call.Call, How.How}}
use Rattle.row_ledger.specs.declared.class.Class.TheVariants as class
use Rattle.row_ledger.specs.declared.event.Event.TheVariants as event
use Rattle.session_steps.specs.seat_steps.specs.{Booked.HasPushed, declared.floor.{Floor.Floor, Player.Player}}
use Rattle.script_run.specs.Runs.{HasPulls, PullsAlone}
use Rattle.server_image.specs.Registry.{RegistryValue}
use Rattle.session_steps.specs.volap_cell.specs.{Commands.{MayCall, MayNoteEnd, after_action, due_pull, pulled_once}, ImageKinds.{IsBegun, IsFree, LeavesAs, doing}, Planning.next_job, Values.{ActorValue, JobValue, actor_of}, declared.command.{Balance.Balance, Work.Work}}
use Rattle.session_steps.specs.volap_cell.specs.declared.command.Work.TheVariants as work_is

-- this event, whoever pushes it and wherever it then stands
abbrev pub this : Event → ActorValue → ℕ → Event
this e a place = e

-- Beginnings.

-- An actor that does nothing may make the call, and has noted no more of the history than it has seen. A pull is for a server that is
-- there.
pub record CanCall (f : Floor) (call : Call) (p : Player) : Type 0 where
  pub free : IsFree (actor_of p.actor)
  pub allowed : MayCall (actor_of p.actor).role call
  pub server : (x : ℕ) → class_of call ≡ class.Sync x → x < f.with.servers
  pub valid : IsCallOf f.hierarchy call
  pub noted : (actor_of p.actor).seen ≤ length p.seat.view.seen

-- the work and the job with which the call begins; what stands then is what some registry has
abbrev pub BeginsWith : Floor → Call → Work → Option JobValue → Type 0
BeginsWith f call work job = (registry : RegistryValue) × IsBegun f.with.workers registry (class_of call) work job

-- The actor's call has begun with the newest event, which stands at this position.
pub record HasCalled (f : Floor) (of : ℕ) (call : Call) (was now : Player) : Type 0 where
  pub pushed : HasPushed f (called_by call) was now
  pub position : of ≡ length pushed.older
  pub work : Work
  pub job : Option JobValue
  pub begins : BeginsWith f call work job
  pub actor : actor_of now.actor ≡ record (actor_of was.actor) { command = doing of work; job = job; seen = length now.seat.view.seen }

-- Commands that go on. Their actors are at no part, and have noted no more of the history than they have seen.

-- for the actor's command this server is the next to pull
pub record CanPullFor (f : Floor) (server : ℕ) (p : Player) : Type 0 where
  pub of : ℕ
  pub work : Work
  pub command : (actor_of p.actor).command ≡ doing of work
  pub due : due_pull f.with.servers work ≡ Some server
  pub no_part : (actor_of p.actor).errand ≡ None
  pub noted : (actor_of p.actor).seen ≤ length p.seat.view.seen

-- The server has pulled this listing with the newest event, and the command is one pull further.
pub record HasPulledFor (f : Floor) (server : ℕ) (was now : Player) : Type 0 where
  pub of : ℕ
  pub work : Work
  pub command : (actor_of was.actor).command ≡ doing of work
  pub listing : List Spot
  pub pushed : HasPushed f (this (event.Synced server listing)) was now
  pub actor : actor_of now.actor ≡ record (actor_of was.actor) { command = doing of (pulled_once work); seen = length now.seat.view.seen }

-- the actor's balance may leave the action that it is at, which was declined, or has not frozen its shard
pub record CanLeaveAction (p : Player) : Type 0 where
  pub of : ℕ
  pub balance : Balance
  pub command : (actor_of p.actor).command ≡ doing of (work_is.Balance balance)
  pub job : JobValue
  pub job_is : (actor_of p.actor).job ≡ Some job
  pub left : MayBeLeft job.stage
  pub no_part : (actor_of p.actor).errand ≡ None
  pub noted : (actor_of p.actor).seen ≤ length p.seat.view.seen

-- The action was left so with the newest event, and the balance is at the next one, if it has planned one more.
pub record HasLeftAction (f : Floor) (was now : Player) : Type 0 where
  pub of : ℕ
  pub balance : Balance
  pub command : (actor_of was.actor).command ≡ doing of (work_is.Balance balance)
  pub job : JobValue
  pub job_is : (actor_of was.actor).job ≡ Some job
  pub how : How
  pub leaves : LeavesAs job.stage how
  pub pushed : HasPushed f (this (event.Left of job.shard how)) was now
  pub actor : actor_of now.actor ≡ record (actor_of was.actor) {
    command = doing of (work_is.Balance (after_action false job balance));
    job = next_job (after_action false job balance);
    seen = length now.seat.view.seen;
  }

-- Ends.

-- the actor's command may end so by its own note
pub record CanEndCall (f : Floor) (how : How) (p : Player) : Type 0 where
  pub of : ℕ
  pub work : Work
  pub command : (actor_of p.actor).command ≡ doing of work
  pub ends : MayNoteEnd f.with.servers work (actor_of p.actor).job how
  pub no_part : (actor_of p.actor).errand ≡ None
  pub noted : (actor_of p.actor).seen ≤ length p.seat.view.seen

-- The command has ended so with the newest event, and the actor does nothing. Where no other command that pulls was open meanwhile, it had
-- pulled as it was to.
pub record HasEndedCall (f : Floor) (how : How) (was now : Player) : Type 0 where
  pub of : ℕ
  pub work : Work
  pub command : (actor_of was.actor).command ≡ doing of work
  pub pushed : HasPushed f (this (event.Ended of how)) was now
  pub pulls : PullsAlone pushed.older of → HasPulls f.with pushed.older (event.Ended of how)
  pub actor : actor_of now.actor ≡ record (actor_of was.actor) { command = None; job = None; seen = length now.seat.view.seen }
