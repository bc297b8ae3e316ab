-- The administrator's splits, moves and balances: what is open, how far it comes, and how it ends. The newest event comes first.
use Rattle.std.specs.Prelude.{ℕ, ◌≡◌, ◌≤◌, ⊤, Bool, true, false, List, [], ◌∷◌, length, Option, Some, None}
use Rattle.seat_steps.specs.core_image.specs.NotesDue.{MayBeLeft}
use Rattle.job_steps.specs.declared.steps.JobDid.{JobDid}
use Rattle.job_steps.specs.declared.steps.JobDid.TheVariants as did
use Rattle.row_ledger.specs.declared.{event.Event.Event, settings.How.How}
use Rattle.row_ledger.specs.declared.event.Event.TheVariants as event
use Rattle.row_ledger.specs.declared.settings.How.TheVariants as how
use Rattle.seat_steps.specs.{Booked.{HasPushed, IsAsBefore}, Floors.Stands, declared.floor.{Floor.Floor, Player.Player}}
use Rattle.turn_table.specs.Numbered.{Extends}
use Rattle.seat_steps.specs.volap_cell.specs.{Commands.{MayNoteEnd, after_action}, ImageKinds.doing, Planning.next_job, Values.{ActorValue, JobValue, actor_of}, declared.command.{Balance.Balance, Work.Work}}
use Rattle.seat_steps.specs.volap_cell.specs.declared.command.Work.TheVariants as work_is

-- What is open.

-- a split or a move, or a balance
abbrev pub IsOfAdmin : Work → Type 0
IsOfAdmin (work_is.Action action) = ⊤
IsOfAdmin (work_is.Balance balance) = ⊤
IsOfAdmin work = ⊥

-- An actor has such a command open and is at no part, and has noted no more of the history than it has seen.
pub record HasJobOpen (p : Player) : Type 0 where
  pub of : ℕ
  pub work : Work
  pub command : (actor_of p.actor).command ≡ doing of work
  pub kind : IsOfAdmin work
  pub no_part : (actor_of p.actor).errand ≡ None
  pub noted : (actor_of p.actor).seen ≤ length p.seat.view.seen

-- How far it comes.

-- a balance may be further; a split and a move are the same work
abbrev pub IsFurtherJob : Work → Work → Type 0
IsFurtherJob (work_is.Balance balance) work_now = (balance_now : Balance) × (work_now ≡ work_is.Balance balance_now)
IsFurtherJob work work_now = work_now ≡ work

-- The same command is open still, and of the actor nothing else changed but its job and its purse. It has pushed no event.
pub record GoesOnWithJob (f : Floor) (was now : Player) : Type 0 where
  pub stands : Stands f now
  pub number : now.number ≡ was.number
  pub command : (of : ℕ) (work : Work) → (actor_of was.actor).command ≡ doing of work → (work_now : Work) × IsFurtherJob work work_now
      × (actor_of now.actor ≡ record (actor_of was.actor) { command = doing of work_now; job = (actor_of now.actor).job; purse = (actor_of now.actor).purse })
  pub seen : Extends now.seat.view.seen was.seat.view.seen

-- the event that an action of a command comes to: it is done, with a worker to go to or none, or it is given up
abbrev pub IsOutcome : (done : Bool) → (to : Option ℕ) → (of shard : ℕ) → Event → Type 0
IsOutcome true None of shard e = (left : ℕ) × (right : ℕ) × (e ≡ event.Split of shard left right)
IsOutcome true (Some to) of shard e = e ≡ event.Moved of shard to
IsOutcome false to of shard e = e ≡ event.Left of shard how.Postponed

-- this event, whoever pushes it and wherever it then stands
abbrev pub always : Event → ActorValue → ℕ → Event
always e a place = e

-- The balance's action has come to the newest event, and the balance is at the next one, if it has planned one more.
pub record HasPassed (f : Floor) (was now : Player) : Type 0 where
  pub of : ℕ
  pub balance : Balance
  pub command : (actor_of was.actor).command ≡ doing of (work_is.Balance balance)
  pub job : JobValue
  pub job_is : (actor_of was.actor).job ≡ Some job
  pub done : Bool
  pub newest : Event
  pub outcome : IsOutcome done job.to of job.shard newest
  pub pushed : HasPushed f (always newest) was now
  pub actor : actor_of now.actor ≡ record (actor_of was.actor) {
    purse = [];
    seen = length now.seat.view.seen;
    command = doing of (work_is.Balance (after_action done job balance));
    job = next_job (after_action done job balance);
    gone_gates = (actor_of now.actor).gone_gates;
  }

-- How it ends.

-- a command of one action ends fine right behind the event of that action, which stands behind what was seen before; or it is given up
abbrev pub IsEndedBy : How → (to : Option ℕ) → (of shard : ℕ) → (older was : List Event) → Type 0
IsEndedBy how.Fine to of shard older was = (e : Event) × IsOutcome true to of shard e × ((past : List Event) × (older ≡ e ∷ past) × Extends past was)
IsEndedBy how.Postponed to of shard older was = ⊤
IsEndedBy how_it_ends to of shard older was = ⊥

-- The split or the move has ended so with the newest event, and the actor does nothing.
pub record HasEndedAction (f : Floor) (how_it_ends : How) (was now : Player) : Type 0 where
  pub of : ℕ
  pub work : Work
  pub command : (actor_of was.actor).command ≡ doing of work
  pub job : JobValue
  pub job_is : (actor_of was.actor).job ≡ Some job
  pub pushed : HasPushed f (always (event.Ended of how_it_ends)) was now
  pub ended : IsEndedBy how_it_ends job.to of job.shard pushed.older was.seat.view.seen
  pub actor : actor_of now.actor ≡ record (actor_of was.actor) {
    purse = [];
    seen = length now.seat.view.seen;
    command = None;
    job = None;
    gone_gates = (actor_of now.actor).gone_gates;
  }

-- What is due for others to do: nothing changed, and the command may end so by its own note.
pub record IsToEnd (f : Floor) (how_it_ends : How) (was now : Player) : Type 0 where
  pub same : IsAsBefore f was now
  pub of : ℕ
  pub work : Work
  pub command : (actor_of was.actor).command ≡ doing of work
  pub ends : MayNoteEnd f.with.servers work (actor_of was.actor).job how_it_ends

-- or the balance may leave the action that it is at
pub record IsToLeave (f : Floor) (was now : Player) : Type 0 where
  pub same : IsAsBefore f was now
  pub of : ℕ
  pub balance : Balance
  pub command : (actor_of was.actor).command ≡ doing of (work_is.Balance balance)
  pub job : JobValue
  pub job_is : (actor_of was.actor).job ≡ Some job
  pub left : MayBeLeft job.stage

abbrev pub CameTo : Floor → JobDid → Player → Player → Type 0
CameTo f did.Step was now = GoesOnWithJob f was now
CameTo f did.Passed was now = HasPassed f was now
CameTo f did.Waits was now = IsAsBefore f was now
CameTo f (did.Ends how_it_ends) was now = IsToEnd f how_it_ends was now
CameTo f did.Leaves was now = IsToLeave f was now
CameTo f (did.Ended how_it_ends) was now = HasEndedAction f how_it_ends was now
