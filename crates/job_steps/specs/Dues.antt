-- What the steps of jobs ask in whatever state the seat may be.
use Rattle.std.specs.Prelude.{ℕ, ◌≡◌, ◌-◌, ⊤, [], length, Option, Some, None, option_map, slice_get}
use Rattle.seat_steps.specs.core_due.specs.{Look.setting_by, Wants.last_noted, WorksReady.AreBytes}
use Rattle.seat_steps.specs.core_steps.specs.{Jobs.{job_asks, job_places}, declared.jobs.JobStep.JobStep}
use Rattle.seat_steps.specs.core_steps.specs.declared.jobs.JobStep.TheVariants as job
use Rattle.job_steps.specs.{Jobs.HasJobOpen, declared.steps.JobDid.JobDid}
use Rattle.job_steps.specs.declared.steps.JobDid.TheVariants as did
use Rattle.seat_steps.specs.link_descent.specs.declared.entered.Fresh.{Fresh}
use Rattle.row_ledger.specs.declared.settings.How.{How}
use Rattle.seat_steps.specs.{Booked.IsDue, Looks.{Sees, lead_of}, declared.{floor.{Floor.Floor, Player.Player}, looks.Lead.Lead}}
use Rattle.seat_steps.specs.volap_cell.specs.{AdminKinds.HasJob, Cells.where_in, Setting.map_cell, Values.{ActorValue, Builds, BuildingValue, CollectingValue, Collects, IsCalled, IsFrozen, JobValue, actor_of}, declared.{command.{Balance.Balance, Command.Command, Work.Work}, job.Frozen.Frozen}}
use Rattle.seat_steps.specs.volap_cell.specs.{ImageKinds.doing}
use Rattle.seat_steps.specs.volap_cell.specs.declared.command.Work.TheVariants as work_is
use Rattle.seat_steps.specs.volap_turns.specs.Rows.{IsThere}
use Rattle.shard_plan.specs.declared.action.Load.{Load}

-- such a command is open, whose numbers are bytes
pub record IsAtJob (f : Floor) (p : Player) : Type 0 where
  pub opened : HasJobOpen p
  pub bytes : AreBytes f.with.servers opened.work

-- Steps that are due.

abbrev pub IsJobDue : Floor → Player → JobStep → Type 0
IsJobDue f p step = IsDue f p (job_places step) (job_asks step)

-- by what the actor is, whatever it holds and has seen
abbrev pub IsJobDueAnyhow : Floor → Player → JobStep → Type 0
IsJobDueAnyhow f p step = (q : Player) → q.number ≡ p.number → actor_of q.actor ≡ actor_of p.actor → IsJobDue f q step

-- the step goes on with a job or a balance, and no action is over by it
abbrev pub IsQuiet : JobStep → Type 0
IsQuiet (job.FinishSplit map gate left right) = ⊥
IsQuiet (job.FinishMove from to gate new) = ⊥
IsQuiet (job.FinishHere map gate new) = ⊥
IsQuiet job.Postpone = ⊥
IsQuiet step = ⊤

-- an action is done by the step: a split's job has no worker to go to
abbrev pub IsEnd : JobStep → ActorValue → Type 0
IsEnd (job.FinishSplit map gate left right) a = (x : JobValue) → a.job ≡ Some x → x.to ≡ None
IsEnd (job.FinishMove from to gate new) a = ⊤
IsEnd (job.FinishHere map gate new) a = ⊤
IsEnd step a = ⊥

-- how that is told: a balance is past the action, and any other command has ended
abbrev pub over_by : Option Command → How → JobDid
over_by None how_it_ends = did.Ended how_it_ends
over_by (Some c) how_it_ends = did.Passed

-- what is due in place of a job that isn't frozen yet, or is declined: a balance leaves the action
abbrev pub stopped : Work → How → JobDid
stopped (work_is.Balance b) how_it_ends = did.Leaves
stopped work how_it_ends = did.Ends how_it_ends

-- How far a job has come.

-- the shard of a job that isn't frozen yet, and the table of its worker
pub record IsToFreeze (f : Floor) (a : ActorValue) (map shard : ℕ) : Type 0 where
  pub job : JobValue
  pub has : HasJob a job IsCalled
  pub map_is : map ≡ map_cell (setting_by [] f.with) job.worker
  pub shard_is : shard ≡ job.shard

-- it is frozen at this gate
pub record IsToDrain (a : ActorValue) (gate : ℕ) : Type 0 where
  pub job : JobValue
  pub frozen : Frozen
  pub has : HasJob a job (IsFrozen frozen)
  pub gate_is : gate ≡ frozen.gate

-- its rows are collected: the block that was noted last, the gate, and how many rows of its queue were read
pub record IsToCollect (a : ActorValue) (noted : Option ℕ) (gate queued : ℕ) : Type 0 where
  pub job : JobValue
  pub collecting : CollectingValue
  pub has : HasJob a job (Collects collecting)
  pub noted_is : noted ≡ last_noted collecting.items
  pub gate_is : gate ≡ collecting.frozen.gate
  pub queued_is : queued ≡ collecting.queued

-- the last one of its new blocks
abbrev pub last_unbuilt : BuildingValue → Option Fresh
last_unbuilt b = slice_get b.unbuilt (length b.unbuilt - 1)

-- which isn't in its cell yet
pub record IsToBuild (a : ActorValue) (cell : ℕ) : Type 0 where
  pub job : JobValue
  pub building : BuildingValue
  pub has : HasJob a job (Builds building)
  pub last : Fresh
  pub last_is : last_unbuilt building ≡ Some last
  pub cell_is : cell ≡ last.cell

-- all are in their cells: the table of its worker, its gate, and the table of the worker to which it goes
pub record IsToFinish (f : Floor) (a : ActorValue) (map gate : ℕ) (to : Option ℕ) : Type 0 where
  pub job : JobValue
  pub building : BuildingValue
  pub has : HasJob a job (Builds building)
  pub in_cells : last_unbuilt building ≡ None
  pub map_is : map ≡ map_cell (setting_by [] f.with) job.worker
  pub gate_is : gate ≡ building.frozen.gate
  pub to_is : to ≡ option_map (map_cell (setting_by [] f.with)) job.to

-- with no action before it, a balance that has planned nothing reads this load next
pub record IsToRead (f : Floor) (a : ActorValue) (map shard : ℕ) : Type 0 where
  pub of : ℕ
  pub balance : Balance
  pub command : a.command ≡ doing of (work_is.Balance balance)
  pub no_job : a.job ≡ None
  pub unplanned : balance.plan ≡ None
  pub load : Load
  pub load_at : slice_get balance.loads balance.read ≡ Some load
  pub map_is : map ≡ map_cell (setting_by [] f.with) load.worker
  pub shard_is : shard ≡ load.shard

-- the held table leads there
pub record LeadsTo (p : Player) (map shard : ℕ) (to : Lead) : Type 0 where
  pub there : IsThere p.seat.view.held map
  pub leads : Sees p map (λ cell. to ≡ lead_of (where_in cell shard))
