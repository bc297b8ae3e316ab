-- What an actor is when rooms, capacities and pointers are left out: what the core is said of.
use Rattle.std.specs.Prelude.{ℕ, Bool, Option, option_map, List, map}
use Rattle.cell_stock.specs.declared.purse.Spare.{Spare}
use Rattle.dc_node.specs.declared.todo.Item.{Item}
use Rattle.dim_hierarchy.specs.{Compiled.Compiled, declared.filter.Pick.Pick, declared.row.Row.Row}
use Rattle.shard_build.specs.link_descent.specs.declared.entered.Fresh.{Fresh}
use Rattle.measure_agg.specs.Aggregate.{Aggregate}
use Rattle.row_ledger.specs.declared.settings.Decline.{Decline}
use Rattle.volap_cell.specs.{Setting.Setting, declared.actor.About.About, declared.actor.Actor.Actor, declared.command.Command.Command, declared.errand.Errand.Errand, declared.errand.Reading.Reading, declared.errand.RowErrand.RowErrand, declared.errand.Task.Task, declared.job.Building.Building, declared.job.BuiltTree.BuiltTree, declared.job.Collecting.Collecting, declared.job.Frozen.Frozen, declared.job.Job.Job, declared.job.Stage.Stage, declared.role.Role.Role}
use Rattle.volap_cell.specs.declared.errand.Task.TheVariants as task
use Rattle.volap_cell.specs.declared.job.Stage.TheVariants as stage

-- Errands.

pub record ReadingValue : Type 0 where
  pub wanted : Compiled
  pub agg : Aggregate
  pub items : List Item
  pub pin : Option ℕ

pub data TaskValue : Type 0 where
  OfRow : RowErrand → TaskValue
  Unread : List Pick → TaskValue
  Read : ReadingValue → TaskValue

pub record ErrandValue : Type 0 where
  pub server : ℕ
  pub shard : ℕ
  pub worker : ℕ
  pub task : TaskValue

abbrev pub reading_of : Reading → ReadingValue
reading_of r = record { wanted = r.wanted; agg = r.agg; items = r.todo.items; pin = r.pin }

abbrev pub task_of : Task → TaskValue
task_of (task.Row r) = OfRow r
task_of (task.Unread f) = Unread f
task_of (task.Read r) = Read (reading_of r.value)

abbrev pub errand_of : Errand → ErrandValue
errand_of e = record { server = e.server; shard = e.shard; worker = e.worker; task = task_of e.task }

-- Jobs.

pub record CollectingValue : Type 0 where
  pub frozen : Frozen
  pub items : List Item
  pub read : List ℕ
  pub queued : ℕ
  pub rows : List Row

pub record BuildingValue : Type 0 where
  pub frozen : Frozen
  pub read : List ℕ
  pub left : BuiltTree
  pub right : Option BuiltTree
  pub unbuilt : List Fresh
  pub spent : List Spare

pub data StageValue : Type 0 where
  IsCalled : StageValue
  IsDeclined : Decline → StageValue
  IsFrozen : Frozen → StageValue
  Collects : CollectingValue → StageValue
  Builds : BuildingValue → StageValue

pub record JobValue : Type 0 where
  pub shard : ℕ
  pub worker : ℕ
  pub to : Option ℕ
  pub stage : StageValue

abbrev pub collecting_of : Collecting → CollectingValue
collecting_of c = record { frozen = c.frozen; items = c.todo.items; read = c.read; queued = c.queued; rows = c.rows }

abbrev pub building_of : Building → BuildingValue
building_of b = record { frozen = b.frozen; read = b.read; left = b.left; right = b.right; unbuilt = map (λ u. record { cell = u.cell; block = u.block.value }) b.unbuilt; spent = b.spent.spares }

abbrev pub stage_of : Stage → StageValue
stage_of stage.Called = IsCalled
stage_of (stage.Declined d) = IsDeclined d
stage_of (stage.Frozen f room) = IsFrozen f
stage_of (stage.Collecting c) = Collects (collecting_of c)
stage_of (stage.Building b) = Builds (building_of b)

abbrev pub job_of : Job → JobValue
job_of j = record { shard = j.shard; worker = j.worker; to = j.to; stage = stage_of j.stage }

-- Actors.

pub record ActorValue : Type 0 where
  pub number : ℕ
  pub role : Role
  pub setting : Setting
  pub seen : ℕ
  pub counted : Bool
  pub purse : List Spare
  pub boxes : ℕ
  pub command : Option Command
  pub errand : Option ErrandValue
  pub job : Option JobValue
  pub gone_gates : List ℕ

abbrev pub setting_of : About → Setting
setting_of a = record { hierarchy = a.hierarchy.value; servers = a.with.value.servers; workers = a.with.value.workers; stock_cells = a.with.value.cells; roles = a.roles.value }

abbrev pub actor_of : Actor → ActorValue
actor_of a = record {
  number = a.number;
  role = a.role;
  setting = setting_of a.about;
  seen = a.seen;
  counted = a.counted;
  purse = a.purse.spares;
  boxes = a.boxes;
  command = a.command;
  errand = option_map errand_of a.errand;
  job = option_map (λ j. job_of j.value) a.job;
  gone_gates = a.gone_gates.cells;
}
