-- What the kinds ask that fill a cell with a block and that end a job, beyond that their cells and their actor are those of a state; and
-- what their inner functions ask and do.
use Rattle.std.specs.{Ordering.nat_cmp, Prelude.{ℕ, ◌≡◌, ◌≢◌, ◌+◌, ◌^◌, ◌<◌, ◌≤◌, ⊤, Bool, true, false, IsTrue, IsSome, List, [], ◌∷◌, ◌++◌, Option, Some, None, All, drop, length}}
use Rattle.std.specs.FinMap as map
use Rattle.dim_hierarchy.specs.{Dimension.Dimension, Rows.IsRowOf, declared.row.Row.Row}
use Rattle.cell_stock.specs.{Stock.{AreOut, Gives, PurseValue, StockValue}, declared.purse.Spare.Spare}
use Rattle.core_tree.specs.link_descent.specs.declared.entered.Fresh.{Fresh}
use Rattle.mapping_table.specs.declared.place.Where.{Where}
use Rattle.mapping_table.specs.declared.place.Where.TheVariants as where_is
use Rattle.row_ledger.specs.{LedgerValue.LedgerValue, declared.event.Event.Event}
use Rattle.row_ledger.specs.declared.event.Event.TheVariants as event
use Rattle.row_ledger.specs.declared.settings.How.TheVariants as how
use Rattle.server_image.specs.Registry.{RegistryValue, IsRehosted, on_frontier}
use Rattle.core_tree.specs.shard_store.specs.{Gate.IsQueueOf, declared.gate.Gate.Gate}
use Rattle.core_tree.specs.volap_cell.specs.{AdminKinds.{HasFrozen, HasJob, IsGateFor, IsUpTo, Retires}, Cells.{CellValue, BlockCell, MapOf, TheLedger, TheRegistry, TheStock, tag_of}, Commands.stands_after, ImageKinds.doing, Planning.{HasLoadNext, next_job}, Values.{ActorValue, JobValue, BuildingValue, Builds}, declared.command.Balance.Balance, declared.command.Command.Command, declared.command.Work.Work, declared.job.Building.Building, declared.job.Job.Job, declared.job.Unbuilt.Unbuilt}
use Rattle.core_tree.specs.volap_cell.specs.declared.command.Work.TheVariants as work_is
use Rattle.core_tree.specs.volap_cell.specs.declared.job.Stage.TheVariants as stage_is
use Rattle.core_image.specs.NotesDue.{GoesOn, MayGoOn}

-- Building.

-- the last block of the actor's job that isn't in its cell yet is the one for this cell
pub record CanBuildBlock (at : ℕ) (a : ActorValue) : Type 0 where
  pub job : JobValue
  pub building : BuildingValue
  pub has : HasJob a job (Builds building)
  pub others : List Fresh
  pub next : Fresh
  pub unbuilt : building.unbuilt ≡ others ++ next ∷ []
  pub here : next.cell ≡ at

-- where a job builds, some block isn't in its cell yet
abbrev pub IsUnbuilt : Job → Type 0
IsUnbuilt job = (b : Building) → job.stage ≡ stage_is.Building b → b.unbuilt ≢ []

-- the last one is in the cell
pub record BuildsLast (b b_now : Building) (cell_now : CellValue) : Type 0 where
  pub others : List Unbuilt
  pub next : Unbuilt
  pub unbuilt : b.unbuilt ≡ others ++ next ∷ []
  pub filled : cell_now ≡ BlockCell next.block.value
  pub now : b_now ≡ record b { unbuilt = others }

abbrev pub BuildsNext : Job → Job → CellValue → Type 0
BuildsNext job job_now cell_now = (b : Building) → job.stage ≡ stage_is.Building b → (b_now : Building) × BuildsLast b b_now cell_now × (job_now ≡ record job { stage = stage_is.Building b_now })

-- Giving up.

-- the actor's job has frozen its shard; a byte still counts the actions of a balance that are over
pub record CanPostpone (stock ledger : CellValue) (a : ActorValue) : Type 0 where
  pub of : ℕ
  pub work : Work
  pub command : a.command ≡ doing of work
  pub job : JobValue
  pub is_job : a.job ≡ Some job
  pub frozen : HasFrozen job.stage
  pub few : (b : Balance) → work ≡ work_is.Balance b → b.over + 1 < 2 ^ 8
  pub stands : (b : Balance) → work ≡ work_is.Balance b → HasLoadNext (record b { over = b.over + 1 })
  pub stock_is : tag_of stock ≡ TheStock
  pub ledger_is : tag_of ledger ≡ TheLedger

-- all that is in the purse and all that was spent may go back
pub record MayGiveAll (stock : StockValue) (purse spent : List Spare) : Type 0 where
  pub mine : AreOut stock purse
  pub all : AreOut stock (purse ++ spent)

-- what was spent is free again
pub record GivesSpent (before now : StockValue) (spares : List Spare) : Type 0 where
  pub spent : PurseValue
  pub spent_now : PurseValue
  pub is : spent.spares ≡ spares
  pub gives : Gives before now spent spent_now

-- and before that the purse is emptied
pub record GivesAll (stock stock_now : StockValue) (purse purse_now : PurseValue) (spares : List Spare) : Type 0 where
  pub between : StockValue
  pub gives : Gives stock between purse purse_now
  pub spent : GivesSpent between stock_now spares

-- whether a command plans its actions: then one that is given up isn't its end
abbrev pub plans : Work → Bool
plans (work_is.Balance b) = true
plans work = false

-- how many pushes go by it
abbrev pub gone_by : Bool → ℕ
gone_by true = 1
gone_by false = 2

abbrev pub given_up : Bool → ℕ → ℕ → Event
given_up true of shard = event.Left of shard how.Postponed
given_up false of shard = event.Ended of how.Postponed

pub record NotesGivenUp (planned : Bool) (of shard : ℕ) (ledger ledger_now : LedgerValue) : Type 0 where
  pub history : ledger_now.history ≡ given_up planned of shard ∷ ledger.history
  pub promised : ledger_now.promised + gone_by planned ≡ ledger.promised

-- a command that plans goes on, and any other one ends
abbrev pub MayClose : Bool → Option Command → Bool → Type 0
MayClose true command has_job = MayGoOn command has_job
MayClose false command has_job = ⊤

abbrev pub Closes : Bool → Option Command → Option Command → Option JobValue → Type 0
Closes true command command_now job = GoesOn command command_now job
Closes false command command_now job = (command_now ≡ None) × (job ≡ None)

-- Finishing.

-- The blocks of the new trees of the actor's job are in their cells, the gate is the one that it has frozen, and the other cells are the
-- registry's, the stock's and the ledger's; a byte still counts the actions of a balance that are over.
pub record IsBuiltUp (gate_at : ℕ) (registry stock ledger : CellValue) (a : ActorValue) : Type 0 where
  pub of : ℕ
  pub work : Work
  pub command : a.command ≡ doing of work
  pub job : JobValue
  pub building : BuildingValue
  pub has : HasJob a job (Builds building)
  pub in_cells : building.unbuilt ≡ []
  pub here : building.frozen.gate ≡ gate_at
  pub few : (b : Balance) → work ≡ work_is.Balance b → b.over + 1 < 2 ^ 8
  pub stands : (b : Balance) → work ≡ work_is.Balance b → HasLoadNext (record b { over = b.over + 1 })
  pub registry_is : tag_of registry ≡ TheRegistry
  pub stock_is : tag_of stock ≡ TheStock
  pub ledger_is : tag_of ledger ≡ TheLedger

-- of a move, with the last spare for its gate
pub record IsMovedUp (gate_at new_at : ℕ) (registry stock ledger : CellValue) (a : ActorValue) : Type 0 where
  pub up : IsBuiltUp gate_at registry stock ledger a
  pub worker : ℕ
  pub to_is : up.job.to ≡ Some worker
  pub rest : List Spare
  pub spare : Spare
  pub spares : a.purse ≡ rest ++ spare ∷ []
  pub cell : new_at ≡ spare.cell

-- the tables are those of the worker that has the shard and of the one to which it moves
pub record CanFinishMove (from to : CellValue) (gate_at new_at : ℕ) (registry stock ledger : CellValue) (a : ActorValue) : Type 0 where
  pub moved : IsMovedUp gate_at new_at registry stock ledger a
  pub elsewhere : moved.worker ≢ moved.up.job.worker
  pub from_is : tag_of from ≡ MapOf moved.up.job.worker
  pub to_is : tag_of to ≡ MapOf moved.worker

-- the shard moves to the worker that has it, whose table it is
pub record CanFinishHere (table : CellValue) (gate_at new_at : ℕ) (registry stock ledger : CellValue) (a : ActorValue) : Type 0 where
  pub moved : IsMovedUp gate_at new_at registry stock ledger a
  pub here : moved.worker ≡ moved.up.job.worker
  pub table_is : tag_of table ≡ MapOf moved.worker

-- New gates.

-- rows that may stand in a queue
pub record CanQueue (h : List Dimension) (rows : List Row) : Type 0 where
  pub valid : All (IsRowOf h) rows
  pub few : length rows < 2 ^ 32

-- they stand behind those that stood in the gate's queue
pub record QueuesAll (h : List Dimension) (rows : List Row) (gate gate_now : Gate) : Type 0 where
  pub same : gate_now ≡ record gate { queue = gate_now.queue }
  pub behind : gate_now.queue.rows ≡ gate.queue.rows ++ rows
  pub valid : IsQueueOf h gate_now.queue

-- a frozen gate, and the rows that came to its queue later
pub record IsLate (h : List Dimension) (gate : Gate) : Type 0 where
  pub upto : ℕ
  pub frozen : IsUpTo gate upto
  pub within : upto ≤ length gate.queue.rows
  pub late : CanQueue h (drop upto gate.queue.rows)

-- the job builds one tree, for a worker
pub record MovesTo (job : JobValue) : Type 0 where
  pub building : BuildingValue
  pub stage_is : job.stage ≡ Builds building
  pub worker : ℕ
  pub to_is : job.to ≡ Some worker

pub record MayMakeWay (h : List Dimension) (from : map.FinMap nat_cmp Where) (gate : Gate) (job : JobValue) : Type 0 where
  pub moves : MovesTo job
  pub gate_is : IsLate h gate
  pub known : IsSome (map.get from job.shard)

-- the gate of the new tree has the late rows in its queue
abbrev pub IsNextGate : List Dimension → Gate → JobValue → Gate → Type 0
IsNextGate h gate job made = (b : BuildingValue) (upto : ℕ) → job.stage ≡ Builds b → IsUpTo gate upto → IsGateFor h job.shard b.left (drop upto gate.queue.rows) made

-- and the tables lead to its cell
pub record MakesWay (h : List Dimension) (new_at : ℕ) (from from_now to to_now : map.FinMap nat_cmp Where) (gate : Gate) (job : JobValue) (made : Gate) : Type 0 where
  pub next : IsNextGate h gate job made
  pub leads_on : (worker : ℕ) → job.to ≡ Some worker → from_now ≡ map.insert from job.shard (where_is.Moved worker)
  pub leads : to_now ≡ map.insert to job.shard (where_is.Gate new_at)

-- so does the only one
pub record MakesWayHere (h : List Dimension) (new_at : ℕ) (table table_now : map.FinMap nat_cmp Where) (gate : Gate) (job : JobValue) (made : Gate) : Type 0 where
  pub next : IsNextGate h gate job made
  pub leads : table_now ≡ map.insert table job.shard (where_is.Gate new_at)

-- The rest.

-- the old gate is gone, with the list of the blocks that the job has read
abbrev pub RetiresFor : List Dimension → Gate → Gate → Job → Type 0
RetiresFor h gate gate_now job = (b : Building) → job.stage ≡ stage_is.Building b → Retires h b.read gate gate_now

-- all spares but the last one may go back
pub record MayGiveRest (stock : StockValue) (spares : List Spare) : Type 0 where
  pub some : 0 < length spares
  pub out : (rest : List Spare) (spare : Spare) → spares ≡ rest ++ spare ∷ [] → AreOut stock rest

pub record GivesRest (stock stock_now : StockValue) (spares spares_now : List Spare) : Type 0 where
  pub rest : List Spare
  pub spare : Spare
  pub is : spares ≡ rest ++ spare ∷ []
  pub purse : PurseValue
  pub purse_now : PurseValue
  pub purse_is : purse.spares ≡ rest
  pub gives : Gives stock stock_now purse purse_now
  pub now : purse_now.spares ≡ spares_now

-- that an action is done, and that a command ends with it which doesn't plan
abbrev pub with_end : Bool → ℕ → Event → List Event → List Event
with_end true of e h = e ∷ h
with_end false of e h = event.Ended of how.Fine ∷ e ∷ h

pub record NotesDone (planned : Bool) (of : ℕ) (e : Event) (ledger ledger_now : LedgerValue) : Type 0 where
  pub history : ledger_now.history ≡ with_end planned of e ledger.history
  pub promised : ledger_now.promised + gone_by planned ≡ ledger.promised

-- one action more of a balance is done, and after a move its loads stand where they do now
abbrev pub with_one_done : ℕ → Option ℕ → Balance → Balance
with_one_done shard to b = record b { standing = stands_after true shard to b.standing; done = b.done + 1 }

pub record MayCount (command : Option Command) : Type 0 where
  pub of : ℕ
  pub balance : Balance
  pub command_is : command ≡ doing of (work_is.Balance balance)
  pub few : balance.done + 1 < 2 ^ 8

abbrev pub CountsDone : ℕ → Option ℕ → Option Command → Option Command → Type 0
CountsDone shard to command command_now = (of : ℕ) (b : Balance) → command ≡ doing of (work_is.Balance b) → command_now ≡ doing of (work_is.Balance (with_one_done shard to b))

-- a command that plans may go on behind that
pub record MayGoOnDone (command : Option Command) (has_job : Bool) : Type 0 where
  pub count : MayCount command
  pub few : count.balance.over + 1 < 2 ^ 8
  pub stands : HasLoadNext (record count.balance { over = count.balance.over + 1 })
  pub some : has_job ≡ true

abbrev pub MayCloseDone : Bool → Option Command → Bool → Type 0
MayCloseDone true command has_job = MayGoOnDone command has_job
MayCloseDone false command has_job = ⊤

-- and goes on with its next job; any other one ends
abbrev pub GoesOnDone : ℕ → Option ℕ → Option Command → Option Command → Option JobValue → Type 0
GoesOnDone shard to command command_now job =
    (of : ℕ) (b : Balance) → command ≡ doing of (work_is.Balance b)
    → (command_now ≡ doing of (work_is.Balance (record (with_one_done shard to b) { over = b.over + 1 }))) × (job ≡ next_job (record (with_one_done shard to b) { over = b.over + 1 }))

abbrev pub ClosesDone : Bool → ℕ → Option ℕ → Option Command → Option Command → Option JobValue → Type 0
ClosesDone true shard to command command_now job = GoesOnDone shard to command command_now job
ClosesDone false shard to command command_now job = (command_now ≡ None) × (job ≡ None)

-- the actor's job moves a shard of the registry from the frozen gate, the spares but the last one may go back, and there are promises
pub record MayFinish (gate : Gate) (registry : RegistryValue) (stock : StockValue) (ledger : LedgerValue) (a : ActorValue) : Type 0 where
  pub of : ℕ
  pub work : Work
  pub command : a.command ≡ doing of work
  pub job : JobValue
  pub is_job : a.job ≡ Some job
  pub moves : MovesTo job
  pub upto : ℕ
  pub frozen : IsUpTo gate upto
  pub drained : gate.active ≡ 0
  pub listed : IsTrue (on_frontier job.shard registry)
  pub spares : MayGiveRest stock a.purse
  pub promised : gone_by (plans work) ≤ ledger.promised
  pub close : MayCloseDone (plans work) a.command true

pub record FinishesFor (h : List Dimension) (gate_at : ℕ) (gate gate_now : Gate) (registry registry_now : RegistryValue) (stock stock_now : StockValue) (ledger ledger_now : LedgerValue) (a b : ActorValue) : Type 0 where
  pub of : ℕ
  pub work : Work
  pub command : a.command ≡ doing of work
  pub job : JobValue
  pub building : BuildingValue
  pub has : HasJob a job (Builds building)
  pub worker : ℕ
  pub to_is : job.to ≡ Some worker
  pub retires : Retires h building.read gate gate_now
  pub rehosted : IsRehosted job.shard worker registry registry_now
  pub gives : GivesRest stock stock_now a.purse []
  pub noted : NotesDone (plans work) of (event.Moved of job.shard worker) ledger ledger_now
  pub closed : ClosesDone (plans work) job.shard job.to a.command b.command b.job
  pub seen : b.seen ≡ length ledger_now.history
  pub actor_is : b ≡ record a { purse = []; seen = b.seen; command = b.command; job = b.job; gone_gates = a.gone_gates ++ gate_at ∷ [] }
