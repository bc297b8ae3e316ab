-- What a cell is when pointers are left out, and what is seen of it. Each projection is a function of the cell alone, so that
-- a step that leaves it as it was in each cell that it changes leaves it everywhere.
use Rattle.std.specs.{Ordering.nat_cmp, Prelude.{ℕ, Bool, true, false, Option, Some, None, List, []}}
use Rattle.std.specs.FinMap as map
use Rattle.measure_agg.specs.Aggregate.{agg}
use Rattle.describing_set.specs.declared.set.DescSet.{DescSet}
use Rattle.dc_node.specs.declared.block.Block.{Block}
use Rattle.shard_build.specs.tree_shape.specs.Trees.{leaf_without_rows}
use Rattle.shard_build.specs.shard_store.specs.{declared.gate.Gate.Gate, declared.gate.Phase.Phase, declared.gate.Phase.TheVariants.Open, declared.queue.Queue.Queue}
use Rattle.cell_stock.specs.Stock.{StockValue}
use Rattle.row_ledger.specs.LedgerValue.{LedgerValue}
use Rattle.mapping_table.specs.declared.place.Where.{Where}
use Rattle.query_router.specs.Desk.{DeskValue}
use Rattle.server_image.specs.{Image.ImageValue, Registry.RegistryValue}
use Rattle.volap_cell.specs.declared.cell.Cell.{Cell}
use Rattle.volap_cell.specs.declared.cell.Cell.TheVariants as cell

pub data CellValue : Type 0 where
  FreeCell : CellValue
  LedgerCell : LedgerValue → CellValue
  StockCell : StockValue → CellValue
  RegistryCell : RegistryValue → CellValue
  ImageCell : ℕ → ImageValue → CellValue
  DeskCell : ℕ → DeskValue → CellValue
  MapCell : ℕ → map.FinMap nat_cmp Where → CellValue
  GateCell : Gate → CellValue
  BlockCell : Block → CellValue

abbrev pub cell_of : Cell → CellValue
cell_of cell.Free = FreeCell
cell_of (cell.Ledger l) = LedgerCell l.value
cell_of (cell.Stock s) = StockCell s.value
cell_of (cell.Registry r) = RegistryCell r.value
cell_of (cell.Image s i) = ImageCell s i.value
cell_of (cell.Desk s d) = DeskCell s d.value
cell_of (cell.Map w m) = MapCell w m.value
cell_of (cell.Gate g) = GateCell g.value
cell_of (cell.Block b) = BlockCell b.value

-- whose a cell is
pub data Tag : Type 0 where
  OfStock : Tag
  TheLedger : Tag
  TheStock : Tag
  TheRegistry : Tag
  ImageOf : ℕ → Tag
  DeskOf : ℕ → Tag
  MapOf : ℕ → Tag

-- free cells, gates and blocks are of the stock
abbrev pub tag_of : CellValue → Tag
tag_of FreeCell = OfStock
tag_of (LedgerCell l) = TheLedger
tag_of (StockCell s) = TheStock
tag_of (RegistryCell r) = TheRegistry
tag_of (ImageCell s i) = ImageOf s
tag_of (DeskCell s d) = DeskOf s
tag_of (MapCell w m) = MapOf w
tag_of (GateCell g) = OfStock
tag_of (BlockCell b) = OfStock

-- the server or the worker that a tag names
abbrev pub owned_by : Tag → Option ℕ
owned_by (ImageOf server) = Some server
owned_by (DeskOf server) = Some server
owned_by (MapOf worker) = Some worker
owned_by _ = None

-- Blocks.

-- a cell without a block counts as an empty leaf
abbrev pub block_in : CellValue → Block
block_in (BlockCell b) = b
block_in _ = leaf_without_rows 0

abbrev pub has_block : CellValue → Bool
has_block (BlockCell b) = true
has_block _ = false

-- Gates.

-- the shard of a gate
abbrev pub gate_shard : CellValue → Option ℕ
gate_shard (GateCell g) = Some g.shard
gate_shard _ = None

abbrev pub phase_of : CellValue → Option Phase
phase_of (GateCell g) = Some g.phase
phase_of _ = None

abbrev pub empty_set : DescSet
empty_set = record { parts = record { items = [] } }

abbrev pub no_queue : Queue
no_queue = record { rows = []; agg = agg []; set = empty_set }

-- a gate with nothing but its way to the tree, which alone a tree's laws speak of
abbrev pub way_to_tree : Gate → Gate
way_to_tree g = record { shard = 0; phase = Open; root = g.root; stamp = g.stamp; height = g.height; agg = g.agg; set = g.set; active = 0; pins = 0; queue = no_queue; gone = [] }

abbrev pub no_way : Gate
no_way = record { shard = 0; phase = Open; root = 0; stamp = 0; height = 0; agg = agg []; set = empty_set; active = 0; pins = 0; queue = no_queue; gone = [] }

abbrev pub way_in : CellValue → Gate
way_in (GateCell g) = way_to_tree g
way_in _ = no_way

-- how many inserts are in the tree, and how many queries are pinned to the gate
abbrev pub active_in : CellValue → ℕ
active_in (GateCell g) = g.active
active_in _ = 0

abbrev pub pins_in : CellValue → ℕ
pins_in (GateCell g) = g.pins
pins_in _ = 0

abbrev pub queue_in : CellValue → Queue
queue_in (GateCell g) = g.queue
queue_in _ = no_queue

abbrev pub gone_in : CellValue → List ℕ
gone_in (GateCell g) = g.gone
gone_in _ = []

-- The one ledger, stock and registry, and what servers and workers have; an empty one where a cell has none.

abbrev pub ledger_in : CellValue → LedgerValue
ledger_in (LedgerCell l) = l
ledger_in _ = record { history = []; promised = 0 }

abbrev pub stock_in : CellValue → StockValue
stock_in (StockCell s) = s
stock_in _ = record { cells = 0; free = []; stamps = 0; ids = 0 }

abbrev pub registry_in : CellValue → RegistryValue
registry_in (RegistryCell r) = r
registry_in _ = record { frontier = []; retired = [] }

abbrev pub image_in : CellValue → ImageValue
image_in (ImageCell s i) = i
image_in _ = record { spots = []; growths = []; owed = 0 }

abbrev pub desk_in : CellValue → DeskValue
desk_in (DeskCell s d) = d
desk_in _ = record { op = None; parts = []; sessions = 0 }

-- where a worker's table has the shard
abbrev pub where_in : CellValue → ℕ → Option Where
where_in (MapCell w m) x = map.get m x
where_in _ x = None
