-- Splits, moves and balances: what a job and a balance have found, collected and built.
use Rattle.std.specs.{List.AllZip, Prelude.{ℕ, ◌≡◌, ◌+◌, ◌<◌, ◌≤◌, Bool, true, IsTrue, List, [], ◌++◌, Option, Some, None, IsSome, is_some, map, take, drop, length, reverse, count_by, All, Any, Contains}}
use Rattle.dim_hierarchy.specs.declared.row.Row.{Row}
use Rattle.dc_node.specs.declared.block.Block.{Block}
use Rattle.describing_set.specs.{Plane.IsHierarchyPlane, declared.plane.Plane.Plane}
use Rattle.cell_stock.specs.{Stock.PurseValue, declared.purse.Spare.Spare}
use Rattle.shard_build.specs.link_descent.specs.declared.entered.Fresh.{Fresh}
use Rattle.row_ledger.specs.{Bounds.may, Past.{Ack, Insert, acked, before, insert_at, work, Step}, Shards.{Place, comes_from, frontier, is_live, place}, Work.{AreReadOf, IsCause, Reading, Settles, loads as loads_of, is_done}, Workers.is_on, declared.event.Event.Event, declared.settings.Decline.Decline}
use Rattle.shard_plan.specs.{Balancing.plan, declared.action.Action.Action, declared.action.Load.Load}
use Rattle.shard_plan.specs.declared.action.Action.TheVariants as action
use Rattle.shard_build.specs.shard_store.specs.{declared.gate.Gate.Gate, declared.gate.Phase.Phase, declared.queue.Queue.Queue}
use Rattle.shard_build.specs.shard_store.specs.declared.gate.Phase.TheVariants as phase
use Rattle.shard_build.specs.tree_shape.specs.{Collecting.IsCollecting, Shape.{Shape, numbers}}
use Rattle.list_words.specs.Counts.{Each, times}
use Rattle.volap_cell.specs.{AdminKinds.{IsBuiltOf, cells_needed, spent_in}, Growing.IsUnder, Planning.{has_load, next_job, worker_among}, Setting.{Setting, site_in}, Stocking.cells_at, Values.{JobValue, StageValue, IsCalled, IsDeclined, IsFrozen, Collects, Builds, CollectingValue, BuildingValue}, declared.command.Balance.Balance, declared.command.Command.Command, declared.command.Work.Work, declared.job.Frozen.Frozen}
use Rattle.volap_cell.specs.declared.command.Work.TheVariants as work_is

-- Whose job it is.

-- the action that a job carries out
abbrev pub action_to : ℕ → Option ℕ → Action
action_to shard None = action.Split shard
action_to shard (Some worker) = action.Move shard worker

abbrev pub action_of : JobValue → Action
action_of job = action_to job.shard job.to

-- a job at its beginning
abbrev pub begun_job : JobValue → JobValue
begun_job job = record job { stage = IsCalled }

-- the command asks for the job as its only action, or as the one that is next
abbrev pub IsJobOf : Work → JobValue → Type 0
IsJobOf (work_is.Action a) job = action_of job ≡ a
IsJobOf (work_is.Balance b) job = next_job b ≡ Some (begun_job job)
IsJobOf work job = ⊥

-- Stages.

-- The shard is frozen for the job. The rows of its tree and those that stood in its queue then are counted, no insert comes to the
-- tree any more, and the purse and what is spent of it are as many cells as the job needs.
pub record IsFrozenFor (s : Setting) (trees : ℕ → Gate) (phases : ℕ → Option Phase) (gate : ℕ → ℕ) (purse : List Spare) (job : JobValue) (f : Frozen) : Type 0 where
  pub gate_is : f.gate ≡ gate job.shard
  pub upto : ℕ
  pub phase_is : phases f.gate ≡ Some (phase.Frozen upto)
  pub rows : f.rows ≡ (trees f.gate).agg.count + upto
  pub cells : length purse + length (spent_in job.stage) ≡ cells_needed job.to f.rows
  pub split : job.to ≡ None → IsSome f.plane
  pub move : (worker : ℕ) → job.to ≡ Some worker → f.plane ≡ None
  pub plane : (p : Plane) → f.plane ≡ Some p → IsHierarchyPlane s.hierarchy p

-- the row of an insert that began
abbrev pub HasBegun : List Event → Row → Type 0
HasBegun history r = (i : Insert) × (insert_at history r.no ≡ Some i) × (i.row ≡ r)

-- The rows collected are those at the blocks read and then the first ones of the queue.
pub record IsCollected (history : List Event) (blocks : ℕ → Block) (trees : ℕ → Gate) (queues : ℕ → Queue) (phases : ℕ → Option Phase) (active : ℕ → ℕ) (shape : ℕ → Shape) (c : CollectingValue) : Type 0 where
  pub drained : active c.frozen.gate ≡ 0
  pub at_blocks : List Row
  pub named : Each (HasBegun history) at_blocks
  pub rows : c.rows ≡ at_blocks ++ take c.queued (queues c.frozen.gate).rows
  pub collecting : IsCollecting (cells_at blocks trees c.frozen.gate) (shape c.frozen.gate) c.items c.read (numbers at_blocks)
  pub upto : (n : ℕ) → phases c.frozen.gate ≡ Some (phase.Frozen n) → c.queued ≤ n
  pub blocks_first : 1 ≤ c.queued → c.items ≡ []

-- The trees are built of all rows of the old tree and of the queue as it was when the shard was frozen; the blocks from the end of
-- the list on are in their cells.
pub record IsBuilding (s : Setting) (history : List Event) (blocks : ℕ → Block) (made : ℕ → Bool) (trees : ℕ → Gate) (queues : ℕ → Queue) (phases : ℕ → Option Phase) (active : ℕ → ℕ) (shape : ℕ → Shape) (purse : List Spare) (b : BuildingValue) : Type 0 where
  pub drained : active b.frozen.gate ≡ 0
  pub upto : ℕ
  pub phase_is : phases b.frozen.gate ≡ Some (phase.Frozen upto)
  pub at_blocks : List Row
  pub named : Each (HasBegun history) at_blocks
  pub read : IsCollecting (cells_at blocks trees b.frozen.gate) (shape b.frozen.gate) [] b.read (numbers at_blocks)
  pub built : List Fresh
  pub purse_was : PurseValue
  pub purse_now : PurseValue
  pub purse_is : purse_now.spares ≡ purse
  pub trees_are : IsBuiltOf s.hierarchy b.frozen.plane (at_blocks ++ take upto (queues b.frozen.gate).rows) purse_was purse_now (record b { unbuilt = b.unbuilt ++ built })
  pub in_cells : Each (λ f. (blocks f.cell ≡ f.block) × (made f.cell ≡ true)) built

-- what a declined job has read, and why that declines it
pub record IsDeclinedFor (s : Setting) (history : List Event) (placed : ℕ → Bool) (of : ℕ) (job : JobValue) (why : Decline) : Type 0 where
  pub rows : List Row
  pub read : AreReadOf placed (before history of) history job.shard rows
  pub cause : IsCause s.hierarchy (action_of job) rows why

-- the frozen shard of a stage

abbrev pub frozen_in : StageValue → Option Frozen
frozen_in (IsFrozen f) = Some f
frozen_in (Collects c) = Some c.frozen
frozen_in (Builds b) = Some b.frozen
frozen_in _ = None

pub record Working (s : Setting) (history : List Event) (blocks : ℕ → Block) (made : ℕ → Bool) (trees : ℕ → Gate) (phases : ℕ → Option Phase) (active : ℕ → ℕ) (queues : ℕ → Queue) (purses : ℕ → List Spare) (commands : ℕ → Option Command) (jobs : ℕ → Option JobValue) (gate : ℕ → ℕ) (shape : ℕ → Shape) (placed : ℕ → Bool) : Type 0 where
  pub command : (a : ℕ) (j : JobValue) → jobs a ≡ Some j → (c : Command) × (commands a ≡ Some c) × IsJobOf c.work j
  pub front : (a : ℕ) (j : JobValue) → jobs a ≡ Some j → is_on s.workers history j.shard j.worker ≡ true
  pub to : (a worker : ℕ) (j : JobValue) → jobs a ≡ Some j → j.to ≡ Some worker → worker < s.workers
  pub unspent : (a : ℕ) (j : JobValue) → jobs a ≡ Some j → frozen_in j.stage ≡ None → purses a ≡ []
  pub declined : (a : ℕ) (j : JobValue) (c : Command) (why : Decline) → jobs a ≡ Some j → commands a ≡ Some c → j.stage ≡ IsDeclined why → IsDeclinedFor s history placed c.of j why
  pub frozen : (a : ℕ) (j : JobValue) (f : Frozen) → jobs a ≡ Some j → frozen_in j.stage ≡ Some f → IsFrozenFor s trees phases gate (purses a) j f
  pub collected : (a : ℕ) (j : JobValue) (k : CollectingValue) → jobs a ≡ Some j → j.stage ≡ Collects k → IsCollected history blocks trees queues phases active shape k
  pub building : (a : ℕ) (j : JobValue) (b : BuildingValue) → jobs a ≡ Some j → j.stage ≡ Builds b → IsBuilding s history blocks made trees queues phases active shape (purses a) b

-- Balances.

-- a load that was read: as many rows as it tells, each of the shard, and all of them that were acknowledged before the balance began
pub record IsReadLoad (s : Setting) (history : List Event) (placed : ℕ → Bool) (home : ℕ → ℕ) (of : ℕ) (r : Reading) : Type 0 where
  pub count : r.load.rows ≡ length r.rows
  pub once : (n : ℕ) → times n (numbers r.rows) ≤ 1
  pub under : All (λ (x : Row). IsUnder history placed home r.load.shard x.no) r.rows
  pub usable : All (Contains (may placed history)) r.rows
  pub own : All (λ (k : Ack). IsUnder history placed home r.load.shard k.row.no → Contains r.rows k.row) (acked (before history of))

-- the shards and workers of loads
abbrev pub places_in : List Load → List Place
places_in loads = map (λ (l : Load). place l.shard l.worker) loads

-- a shard stands where the balance has it
abbrev pub StandsBy : Setting → List Event → List Load → ℕ → Type 0
StandsBy s h standing x = (has_load standing x ≡ true) × (is_on s.workers h x (worker_among standing x) ≡ true)

-- what is still to do: the shards of these actions stand, where the balance has them, and their new workers are there
abbrev pub IsAhead : Setting → List Event → List Load → Action → Type 0
IsAhead s h standing (action.Split x) = StandsBy s h standing x
IsAhead s h standing (action.Move x worker) = StandsBy s h standing x × (worker < s.workers)

-- a plan: that of the loads that were read, some actions of which are over, each with its event
pub record IsPlanned (s : Setting) (history : List Event) (placed : ℕ → Bool) (of : ℕ) (b : Balance) (actions : List Action) : Type 0 where
  pub all_read : b.read ≡ length b.loads
  pub is_plan : actions ≡ plan b.loads s.workers b.most
  pub within : b.over ≤ length actions
  pub few : length actions ≤ b.most
  pub events : AllZip (λ a (step : Step). Settles (site_in s) placed of a step.past step.event) (take b.over actions) (reverse (work history of))
  pub done : b.done ≡ count_by (λ (step : Step). is_done step.event) (work history of)
  pub ahead : All (IsAhead s history b.standing) (drop b.over actions)

-- The shards that stood when the balance began are the loads; those read so far have their readings. Until the plan is made, and so
-- until its first action, these shards stand as they did, and there is one to read; later each that stands comes from one of them.
pub record IsBalancing (s : Setting) (history : List Event) (placed : ℕ → Bool) (home : ℕ → ℕ) (job : Option JobValue) (of : ℕ) (b : Balance) : Type 0 where
  pub places : places_in b.loads ≡ frontier s.workers (before history of)
  pub readings : List Reading
  pub loads : loads_of readings ≡ take b.read b.loads
  pub each : All (IsReadLoad s history placed home of) readings
  pub read : b.read ≤ length b.loads
  pub still : b.plan ≡ None → (frontier s.workers history ≡ frontier s.workers (before history of)) × (work history of ≡ []) × (b.over ≡ 0) × (b.done ≡ 0) × (b.standing ≡ b.loads) × (b.read < length b.loads)
  pub planned : (actions : List Action) → b.plan ≡ Some actions → IsPlanned s history placed of b actions
  pub from : (x : ℕ) → is_live s.workers history x ≡ true → Any (λ (l : Load). IsTrue (comes_from history l.shard x)) b.loads
  pub at_work : is_some job ≡ is_some (next_job b)

pub record Balancing (s : Setting) (history : List Event) (commands : ℕ → Option Command) (jobs : ℕ → Option JobValue) (placed : ℕ → Bool) (home : ℕ → ℕ) : Type 0 where
  pub balance : (a of : ℕ) (b : Balance) → commands a ≡ Some (record { of = of; work = work_is.Balance b }) → IsBalancing s history placed home (jobs a) of b
