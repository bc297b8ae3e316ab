-- What the step of a balance that reads a load asks of the cells that it is given and of its actor, beyond that they are those of a
-- state; and what its calls do.
use Rattle.std.specs.Prelude.{ℕ, ◌≡◌, ◌+◌, ◌^◌, ◌<◌, ◌==◌, List, Option, Some, None, length, slice_get, slice_set, if◌then◌else◌}
use Rattle.balancer.specs.Turn.{rows_of_all}
use Rattle.mapping_table.specs.declared.place.Where.TheVariants as where_is
use Rattle.shard_plan.specs.{Balancing.plan, declared.action.Action.Action, declared.action.Load.Load}
use Rattle.core_tree.specs.volap_cell.specs.{Cells.{CellValue, MapOf, tag_of, where_in}, ImageKinds.doing, Planning.next_job, Values.{ActorValue, JobValue}, declared.command.Balance.Balance, declared.command.Command.Command}
use Rattle.core_tree.specs.volap_cell.specs.declared.command.Work.TheVariants as work_is

-- the actor is at a balance that has a load to read, and its worker's table leads to the gate that is held; so many workers there are
pub record CanReadLoad (workers : ℕ) (map : CellValue) (gate_at : ℕ) (a : ActorValue) : Type 0 where
  pub of : ℕ
  pub balance : Balance
  pub command : a.command ≡ doing of (work_is.Balance balance)
  pub load : Load
  pub load_at : slice_get balance.loads balance.read ≡ Some load
  pub map_is : tag_of map ≡ MapOf load.worker
  pub leads : where_in map load.shard ≡ Some (where_is.Gate gate_at)
  pub workers_are : workers ≡ a.setting.workers

-- the loads of a balance, when so many rows were read for the next one
abbrev pub loads_read : Balance → Load → ℕ → List Load
loads_read b load rows = slice_set b.loads b.read (record load { rows = rows })

-- the plan is made once all loads are read
abbrev pub plan_once : List Load → ℕ → ℕ → ℕ → Option (List Action)
plan_once loads read workers most = if read == length loads then Some (plan loads workers most) else None

-- the balance has a load to read, has planned nothing and moved no shard, and there are few loads, with few rows
pub record CanNote (b : Balance) (rows : ℕ) : Type 0 where
  pub load : Load
  pub load_at : slice_get b.loads b.read ≡ Some load
  pub unplanned : b.plan ≡ None
  pub standing : b.standing ≡ b.loads
  pub few : length b.loads < 2 ^ 32
  pub few_rows : b.read + 1 ≡ length b.loads → rows_of_all (loads_read b load rows) < 2 ^ 63

-- the load is read, and what is planned is planned
abbrev pub after_load : Balance → Load → ℕ → ℕ → Balance
after_load b load rows workers = record b {
  loads = loads_read b load rows;
  read = b.read + 1;
  standing = loads_read b load rows;
  plan = plan_once (loads_read b load rows) (b.read + 1) workers b.most;
}

abbrev pub NotesLoad : Balance → ℕ → ℕ → Balance → Option JobValue → Type 0
NotesLoad b rows workers b_now job = (load : Load) → slice_get b.loads b.read ≡ Some load → (b_now ≡ after_load b load rows workers) × (job ≡ next_job b_now)

-- a command that is such a balance
pub record CanRead (c : Command) (rows : ℕ) : Type 0 where
  pub balance : Balance
  pub work : c.work ≡ work_is.Balance balance
  pub can : CanNote balance rows

abbrev pub ReadsIn : Command → ℕ → ℕ → Command → Option JobValue → Type 0
ReadsIn c rows workers c_now job = (b : Balance) → c.work ≡ work_is.Balance b → (b_now : Balance) × (c_now ≡ record c { work = work_is.Balance b_now }) × NotesLoad b rows workers b_now job
