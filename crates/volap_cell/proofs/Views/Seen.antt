-- What is seen of a cell and of an actor, in one record each; and which fields of the view a commit touches. A change that leaves
-- what is seen beside these leaves every other field.
use Rattle.std.proofs.Common.{ℕ, Bool, false, cond, List, [], Option, None}
use Rattle.dc_node.specs.declared.block.Block.{Block}
use Rattle.shard_build.specs.shard_store.specs.{declared.gate.Gate.Gate, declared.gate.Phase.Phase, declared.queue.Queue.Queue}
use Rattle.cell_stock.specs.{Stock.StockValue, declared.purse.Spare.Spare}
use Rattle.row_ledger.specs.LedgerValue.{LedgerValue}
use Rattle.mapping_table.specs.declared.place.Where.{Where}
use Rattle.query_router.specs.Desk.{DeskValue}
use Rattle.server_image.specs.{Image.ImageValue, Registry.RegistryValue}
use Rattle.volap_cell.specs.{Cells.{CellValue, FreeCell, Tag, tag_of, block_in, has_block, gate_shard, phase_of, way_in, active_in, pins_in, queue_in, gone_in, ledger_in, stock_in, registry_in, image_in, desk_in, where_in}, Errands.{Taken, RowWay, ReadPart, taken_of, way_of, read_of}, Setting.Setting, Values.{ActorValue, JobValue}, View.View, declared.command.Command.Command, declared.role.Role.Role}

-- Cells.

pub record GateSeen : Type 0 where
  pub shard : Option ℕ
  pub phase : Option Phase
  pub tree : Gate
  pub active : ℕ
  pub pins : ℕ
  pub queue : Queue
  pub gone : List ℕ

abbrev pub gate_seen : CellValue → GateSeen
gate_seen c = record { shard = gate_shard c; phase = phase_of c; tree = way_in c; active = active_in c; pins = pins_in c; queue = queue_in c; gone = gone_in c }

pub record CellSeen : Type 0 where
  pub tag : Tag
  pub block : Block
  pub made : Bool
  pub gate : GateSeen
  pub ledger : LedgerValue
  pub stock : StockValue
  pub registry : RegistryValue
  pub image : ImageValue
  pub desk : DeskValue
  pub table : ℕ → Option Where

abbrev pub cell_seen : CellValue → CellSeen
cell_seen c = record {
  tag = tag_of c;
  block = block_in c;
  made = has_block c;
  gate = gate_seen c;
  ledger = ledger_in c;
  stock = stock_in c;
  registry = registry_in c;
  image = image_in c;
  desk = desk_in c;
  table = where_in c;
}

-- nothing is seen of a free cell but that it is one of the stock's
abbrev pub bare : CellSeen
bare = cell_seen FreeCell

-- Actors.

pub record ActorSeen : Type 0 where
  pub number : ℕ
  pub role : Role
  pub setting : Setting
  pub seen : ℕ
  pub counted : Bool
  pub purse : List Spare
  pub boxes : ℕ
  pub command : Option Command
  pub taken : Option Taken
  pub way : Option RowWay
  pub reading : Option ReadPart
  pub job : Option JobValue
  pub gone_gates : List ℕ

-- Fields.

-- which fields of the view a commit touches; whose a cell is, and who an actor is, never changes
pub record Touched : Type 0 where
  pub blocks : Bool
  pub gates : Bool
  pub phases : Bool
  pub trees : Bool
  pub active : Bool
  pub pins : Bool
  pub queues : Bool
  pub gone : Bool
  pub ledger : Bool
  pub stock : Bool
  pub registry : Bool
  pub images : Bool
  pub desks : Bool
  pub maps : Bool
  pub seen : Bool
  pub counted_in : Bool
  pub purses : Bool
  pub boxes : Bool
  pub commands : Bool
  pub taken : Bool
  pub ways : Bool
  pub reads : Bool
  pub jobs : Bool
  pub gone_gates : Bool

abbrev pub nothing : Touched
nothing = record {
  blocks = false;
  gates = false;
  phases = false;
  trees = false;
  active = false;
  pins = false;
  queues = false;
  gone = false;
  ledger = false;
  stock = false;
  registry = false;
  images = false;
  desks = false;
  maps = false;
  seen = false;
  counted_in = false;
  purses = false;
  boxes = false;
  commands = false;
  taken = false;
  ways = false;
  reads = false;
  jobs = false;
  gone_gates = false;
}

-- what is seen of a cell beside the fields that are touched
abbrev pub beside : Touched → CellValue → CellSeen
beside t c = record {
  tag = tag_of c;
  block = cond t.blocks bare.block (block_in c);
  made = cond t.blocks bare.made (has_block c);
  gate = record {
    shard = cond t.gates bare.gate.shard (gate_shard c);
    phase = cond t.phases bare.gate.phase (phase_of c);
    tree = cond t.trees bare.gate.tree (way_in c);
    active = cond t.active bare.gate.active (active_in c);
    pins = cond t.pins bare.gate.pins (pins_in c);
    queue = cond t.queues bare.gate.queue (queue_in c);
    gone = cond t.gone bare.gate.gone (gone_in c);
  };
  ledger = cond t.ledger bare.ledger (ledger_in c);
  stock = cond t.stock bare.stock (stock_in c);
  registry = cond t.registry bare.registry (registry_in c);
  image = cond t.images bare.image (image_in c);
  desk = cond t.desks bare.desk (desk_in c);
  table = cond t.maps bare.table (where_in c);
}

-- and of an actor
abbrev pub actor_beside : Touched → ActorValue → ActorSeen
actor_beside t a = record {
  number = a.number;
  role = a.role;
  setting = a.setting;
  seen = cond t.seen 0 a.seen;
  counted = cond t.counted_in false a.counted;
  purse = cond t.purses [] a.purse;
  boxes = cond t.boxes 0 a.boxes;
  command = cond t.commands None a.command;
  taken = cond t.taken None (taken_of a.errand);
  way = cond t.ways None (way_of a.errand);
  reading = cond t.reads None (read_of a.errand);
  job = cond t.jobs None a.job;
  gone_gates = cond t.gone_gates [] a.gone_gates;
}

-- a view with the touched fields of a new one
abbrev pub renewed : Touched → View → View → View
renewed t now v = record {
  tags = v.tags;
  blocks = cond t.blocks now.blocks v.blocks;
  made = cond t.blocks now.made v.made;
  gates = cond t.gates now.gates v.gates;
  phases = cond t.phases now.phases v.phases;
  trees = cond t.trees now.trees v.trees;
  active = cond t.active now.active v.active;
  pins = cond t.pins now.pins v.pins;
  queues = cond t.queues now.queues v.queues;
  gone = cond t.gone now.gone v.gone;
  history = cond t.ledger now.history v.history;
  promised = cond t.ledger now.promised v.promised;
  row = cond t.ledger now.row v.row;
  stock = cond t.stock now.stock v.stock;
  registry = cond t.registry now.registry v.registry;
  images = cond t.images now.images v.images;
  desks = cond t.desks now.desks v.desks;
  maps = cond t.maps now.maps v.maps;
  numbers = v.numbers;
  roles = v.roles;
  settings = v.settings;
  seen = cond t.seen now.seen v.seen;
  counted_in = cond t.counted_in now.counted_in v.counted_in;
  purses = cond t.purses now.purses v.purses;
  boxes = cond t.boxes now.boxes v.boxes;
  commands = cond t.commands now.commands v.commands;
  taken = cond t.taken now.taken v.taken;
  ways = cond t.ways now.ways v.ways;
  reads = cond t.reads now.reads v.reads;
  jobs = cond t.jobs now.jobs v.jobs;
  gone_gates = cond t.gone_gates now.gone_gates v.gone_gates;
}
