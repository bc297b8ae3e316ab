-- What the parts of the invariant see of a state. Each part takes the fields that it reads and never the whole view, so that
-- after a step that leaves these fields alone it is the same proposition.
use Rattle.std.specs.Prelude.{ℕ, Bool, Option, Some, None, List, [], pos}
use Rattle.dim_hierarchy.specs.declared.row.Row.{Row}
use Rattle.dc_node.specs.declared.block.Block.{Block}
use Rattle.shard_build.specs.shard_store.specs.{declared.gate.Gate.Gate, declared.gate.Phase.Phase, declared.queue.Queue.Queue}
use Rattle.cell_stock.specs.{Stock.StockValue, declared.purse.Spare.Spare}
use Rattle.row_ledger.specs.{Past.{Insert, insert_at}, declared.event.Event.Event}
use Rattle.mapping_table.specs.declared.place.Where.{Where}
use Rattle.query_router.specs.Desk.{DeskValue}
use Rattle.server_image.specs.{Image.ImageValue, Registry.RegistryValue}
use Rattle.volap_cell.specs.{Cells.{Tag, tag_of, block_in, has_block, gate_shard, phase_of, way_in, active_in, pins_in, queue_in, gone_in, ledger_in, stock_in, registry_in, image_in, desk_in, where_in}, Errands.{Taken, RowWay, ReadPart, taken_of, way_of, read_of}, Setting.{Setting, ledger_cell, stock_cell, registry_cell, image_cell, desk_cell, map_cell}, Values.JobValue, World.World, declared.command.Command.Command, declared.role.Role.Role}

-- the row of the insert that began at a position
abbrev pub no_row : Row
no_row = record { no = 0; at = record { at = [] }; measures = pos 0 }

abbrev pub row_or : Option Insert → Row
row_or (Some i) = i.row
row_or None = no_row

abbrev pub row_at : List Event → ℕ → Row
row_at h number = row_or (insert_at h number)

pub record View : Type 0 where
  -- by cell
  pub tags : ℕ → Tag
  pub blocks : ℕ → Block
  pub made : ℕ → Bool
  pub gates : ℕ → Option ℕ
  pub phases : ℕ → Option Phase
  pub trees : ℕ → Gate
  pub active : ℕ → ℕ
  pub pins : ℕ → ℕ
  pub queues : ℕ → Queue
  pub gone : ℕ → List ℕ
  -- the one of each, and by server and worker
  pub history : List Event
  pub promised : ℕ
  pub row : ℕ → Row
  pub stock : StockValue
  pub registry : RegistryValue
  pub images : ℕ → ImageValue
  pub desks : ℕ → DeskValue
  pub maps : ℕ → ℕ → Option Where
  -- by actor
  pub numbers : ℕ → ℕ
  pub roles : ℕ → Role
  pub settings : ℕ → Setting
  pub seen : ℕ → ℕ
  pub counted_in : ℕ → Bool
  pub purses : ℕ → List Spare
  pub boxes : ℕ → ℕ
  pub commands : ℕ → Option Command
  pub taken : ℕ → Option Taken
  pub ways : ℕ → Option RowWay
  pub reads : ℕ → Option ReadPart
  pub jobs : ℕ → Option JobValue
  pub gone_gates : ℕ → List ℕ

abbrev pub view : Setting → World → View
view s w = record {
  tags = λ y. tag_of (w.cells y);
  blocks = λ y. block_in (w.cells y);
  made = λ y. has_block (w.cells y);
  gates = λ y. gate_shard (w.cells y);
  phases = λ y. phase_of (w.cells y);
  trees = λ y. way_in (w.cells y);
  active = λ y. active_in (w.cells y);
  pins = λ y. pins_in (w.cells y);
  queues = λ y. queue_in (w.cells y);
  gone = λ y. gone_in (w.cells y);
  history = (ledger_in (w.cells ledger_cell)).history;
  promised = (ledger_in (w.cells ledger_cell)).promised;
  row = row_at (ledger_in (w.cells ledger_cell)).history;
  stock = stock_in (w.cells stock_cell);
  registry = registry_in (w.cells registry_cell);
  images = λ server. image_in (w.cells (image_cell server));
  desks = λ server. desk_in (w.cells (desk_cell s server));
  maps = λ worker. where_in (w.cells (map_cell s worker));
  numbers = λ a. (w.actors a).number;
  roles = λ a. (w.actors a).role;
  settings = λ a. (w.actors a).setting;
  seen = λ a. (w.actors a).seen;
  counted_in = λ a. (w.actors a).counted;
  purses = λ a. (w.actors a).purse;
  boxes = λ a. (w.actors a).boxes;
  commands = λ a. (w.actors a).command;
  taken = λ a. taken_of (w.actors a).errand;
  ways = λ a. way_of (w.actors a).errand;
  reads = λ a. read_of (w.actors a).errand;
  jobs = λ a. (w.actors a).job;
  gone_gates = λ a. (w.actors a).gone_gates;
}
