-- What the steps of splits and moves do to the cells that they hold and to their actor, the one administrator.
use Rattle.std.specs.{Ordering.nat_cmp, Prelude.{ℕ, ◌≡◌, ◌≢◌, ◌+◌, ◌^◌, ◌<◌, ◌≤◌, ◌⊎◌, ⊤, true, false, not, List, [], ◌∷◌, ◌++◌, Option, Some, None, map as each, drop, filter, length, slice_get}}
use Rattle.std.specs.FinMap as map
use Rattle.dim_hierarchy.specs.{Dimension.Dimension, declared.row.Row.Row}
use Rattle.dc_node.specs.{Block.rows_in, Summary.coords, declared.block.Block.Block, declared.todo.Item.Item}
use Rattle.describing_set.specs.{DescSet.IsSetOf, Plane.{IsPlaneOf, goes_left}, Sets.JoinsTo, declared.plane.Plane.Plane, declared.set.DescSet.DescSet}
use Rattle.cell_stock.specs.{Stock.{PurseValue, StockValue, Takes, Gives}, declared.purse.Spare.Spare}
use Rattle.shard_build.specs.link_descent.specs.{Visit.noted_right, declared.entered.Fresh.Fresh}
use Rattle.mapping_table.specs.declared.place.Where.{Where}
use Rattle.mapping_table.specs.declared.place.Where.TheVariants as where_is
use Rattle.row_ledger.specs.{LedgerValue.LedgerValue, declared.event.Event.Event, declared.settings.Decline.Decline, declared.settings.Decline.TheVariants.{OnePlace, NoCell}}
use Rattle.row_ledger.specs.declared.event.Event.TheVariants as event
use Rattle.row_ledger.specs.declared.settings.How.TheVariants as how
use Rattle.server_image.specs.Registry.{RegistryValue, IsSplit, IsRehosted}
use Rattle.shard_build.specs.{Built.IsBuilt, declared.builder.Built.Built}
use Rattle.shard_plan.specs.Building.{cells_for, split_need}
use Rattle.shard_build.specs.shard_store.specs.{Gate.IsQueueOf, declared.gate.Gate.Gate}
use Rattle.shard_build.specs.shard_store.specs.declared.gate.Phase.TheVariants as phase
use Rattle.shard_build.specs.tree_shape.specs.Collecting.{root_item, entry_items}
use Rattle.volap_cell.specs.{Cells.{FreeCell, LedgerCell, StockCell, RegistryCell, MapCell, GateCell, BlockCell}, Commands.after_action, ImageKinds.{Pushes, doing}, Planning.next_job, Reusing.without_gate, TreeKinds.{Leads, IsRead, TurnsGate}, Values.{ActorValue, JobValue, StageValue, IsCalled, IsDeclined, IsFrozen, Collects, Builds, CollectingValue, BuildingValue}, World.Change, declared.command.Work.Work, declared.job.BuiltTree.BuiltTree, declared.job.Frozen.Frozen, declared.role.Role.TheVariants.Admin}
use Rattle.volap_cell.specs.declared.command.Work.TheVariants as work_is

-- The actor.

-- its job, with its stage
pub record HasJob (a : ActorValue) (job : JobValue) (stage : StageValue) : Type 0 where
  pub is_job : a.job ≡ Some job
  pub stage_is : job.stage ≡ stage

abbrev pub at_stage : JobValue → StageValue → Option JobValue
at_stage job stage = Some (record job { stage = stage })

-- the stock becomes another one
pub record TurnsStock (stock stock_now : StockValue) (c : Change) : Type 0 where
  pub was : c.before ≡ StockCell stock
  pub is : c.now ≡ StockCell stock_now

-- Freezing.

-- how many rows a gate's tree and queue have
abbrev pub rows_at : Gate → ℕ
rows_at gate = gate.agg.count + length gate.queue.rows

-- how many cells a job needs for so many rows: a split has no worker to go to
abbrev pub cells_needed : Option ℕ → ℕ → ℕ
cells_needed None n = split_need n
cells_needed (Some worker) n = 1 + cells_for n

-- whether the set of all rows has a plane, which a split needs
abbrev pub IsDivided : Option ℕ → DescSet → Option Plane → Type 0
IsDivided None set (Some plane) = IsPlaneOf set plane
IsDivided None set None = ⊥
IsDivided (Some worker) set plane = plane ≡ None

abbrev pub HasOnePlace : Option ℕ → DescSet → Type 0
HasOnePlace None set = (plane : Plane) → ¬ IsPlaneOf set plane
HasOnePlace (Some worker) set = ⊥

-- nothing but the actor's job changes: it is declined
abbrev pub Declines : JobValue → Decline → Gate → StockValue → Change → Change → ActorValue → ActorValue → Type 0
Declines job decline gate stock g c a b = TurnsGate gate gate g × TurnsStock stock stock c × (b ≡ record a { job = at_stage job (IsDeclined decline) })

-- the shard is frozen, anew where it is frozen already, and the cells that the job needs are in the purse
pub record Freezes (job : JobValue) (plane : Option Plane) (gate : Gate) (stock : StockValue) (g c : Change) (a b : ActorValue) : Type 0 where
  pub stock_now : StockValue
  pub purse : PurseValue
  pub purse_now : PurseValue
  pub purse_was : purse.spares ≡ a.purse
  pub purse_is : purse_now.spares ≡ b.purse
  pub takes : Takes (cells_needed job.to (rows_at gate)) stock stock_now purse purse_now
  pub stamps : stock_now.stamps < 2 ^ 63
  pub turns : TurnsStock stock stock_now c
  pub frozen : TurnsGate gate (record gate { phase = phase.Frozen (length gate.queue.rows) }) g
  pub actor_is : b ≡ record a { purse = b.purse; job = at_stage job (IsFrozen (record { gate = g.number; plane = plane; rows = rows_at gate })) }

-- A split whose rows have one place is declined, and then a job for which there are fewer cells than it needs.
pub record DoesFreeze (h : List Dimension) (m g c : Change) (a b : ActorValue) : Type 0 where
  pub job : JobValue
  pub has : HasJob a job IsCalled
  pub empty : a.purse ≡ []
  pub leads : Leads m job.worker job.shard (where_is.Gate g.number)
  pub gate : Gate
  pub stock : StockValue
  pub standing : gate.phase ≢ phase.Gone
  pub set : DescSet
  pub set_of : JoinsTo h gate.set gate.queue.set set
  pub does :
      (HasOnePlace job.to set × Declines job OnePlace gate stock g c a b)
      ⊎ ((plane : Option Plane) × IsDivided job.to set plane
      × (((length stock.free < cells_needed job.to (rows_at gate)) × Declines job (NoCell (cells_needed job.to (rows_at gate)) (length stock.free)) gate stock g c a b)
      ⊎ ((cells_needed job.to (rows_at gate) ≤ length stock.free) × Freezes job plane gate stock g c a b)))

-- Collecting.

-- no insert is in the tree any more: the root is noted
pub record DoesDrained (g : Change) (a b : ActorValue) : Type 0 where
  pub job : JobValue
  pub frozen : Frozen
  pub has : HasJob a job (IsFrozen frozen)
  pub here : frozen.gate ≡ g.number
  pub gate : Gate
  pub same : TurnsGate gate gate g
  pub drained : gate.active ≡ 0
  pub actor_is : b ≡ record a { job = at_stage job (Collects (record { frozen = frozen; items = root_item gate ∷ []; read = []; queued = 0; rows = [] })) }

-- the block that was noted last is read: its rows are collected, and all its entries are noted, and its right link
pub record CollectsBlock (c : Change) (a b : ActorValue) : Type 0 where
  pub job : JobValue
  pub collecting : CollectingValue
  pub has : HasJob a job (Collects collecting)
  pub items : List Item
  pub item : Item
  pub noted : collecting.items ≡ items ++ item ∷ []
  pub here : item.cell ≡ c.number
  pub block : Block
  pub reads : IsRead block c
  pub actor_is : b ≡ record a {
    job = at_stage job (Collects (record collecting {
      items = items ++ entry_items block.body ++ noted_right block item.stamp;
      read = collecting.read ++ item.cell ∷ [];
      rows = collecting.rows ++ rows_in block.body;
    }));
  }

-- the queue as it was when the shard was frozen
abbrev pub IsUpTo : Gate → ℕ → Type 0
IsUpTo gate upto = gate.phase ≡ phase.Frozen upto

-- with nothing noted any more, the next row of the queue is collected
pub record CollectsQueued (g : Change) (a b : ActorValue) : Type 0 where
  pub job : JobValue
  pub collecting : CollectingValue
  pub has : HasJob a job (Collects collecting)
  pub all_read : collecting.items ≡ []
  pub here : collecting.frozen.gate ≡ g.number
  pub gate : Gate
  pub same : TurnsGate gate gate g
  pub upto : ℕ
  pub frozen : IsUpTo gate upto
  pub more : collecting.queued < upto
  pub row : Row
  pub row_at : slice_get gate.queue.rows collecting.queued ≡ Some row
  pub actor_is : b ≡ record a { job = at_stage job (Collects (record collecting { queued = collecting.queued + 1; rows = collecting.rows ++ row ∷ [] })) }

-- Building.

abbrev pub tree_of : Built → BuiltTree
tree_of t = record { root = t.root; stamp = t.stamp; height = t.height; agg = t.agg; set = t.set }

-- the rows on either side of a plane

abbrev pub left_of : List Dimension → Plane → List Row → List Row
left_of h plane rows = filter (λ r. goes_left h plane r.at) rows

abbrev pub right_of : List Dimension → Plane → List Row → List Row
right_of h plane rows = filter (λ r. not (goes_left h plane r.at)) rows

-- the spares that new blocks took
abbrev pub spent_by : List Fresh → List Spare
spent_by blocks = each (λ f. record { cell = f.cell; stamp = f.block.stamp }) blocks

-- a tree for each side of the plane, or one of all rows, with cells of the purse
pub record IsBuiltOf (h : List Dimension) (plane : Option Plane) (rows : List Row) (purse purse_now : PurseValue) (building : BuildingValue) : Type 0 where
  pub built :
      ((plane ≡ None) × ((tree : Built) × IsBuilt h rows purse purse_now tree
      × (building.left ≡ tree_of tree) × (building.right ≡ None) × (building.unbuilt ≡ tree.blocks.items)))
      ⊎ ((cut : Plane) × (plane ≡ Some cut) × ((left : Built) × (right : Built) × (between : PurseValue)
      × IsBuilt h (left_of h cut rows) purse between left × IsBuilt h (right_of h cut rows) between purse_now right
      × (building.left ≡ tree_of left) × (building.right ≡ Some (tree_of right)) × (building.unbuilt ≡ left.blocks.items ++ right.blocks.items)))
  pub spent : building.spent ≡ spent_by building.unbuilt

-- with all rows collected, the new trees are made of them
pub record CollectsAll (h : List Dimension) (g : Change) (a b : ActorValue) : Type 0 where
  pub job : JobValue
  pub collecting : CollectingValue
  pub has : HasJob a job (Collects collecting)
  pub all_read : collecting.items ≡ []
  pub here : collecting.frozen.gate ≡ g.number
  pub gate : Gate
  pub same : TurnsGate gate gate g
  pub frozen : IsUpTo gate collecting.queued
  pub purse : PurseValue
  pub purse_now : PurseValue
  pub purse_was : purse.spares ≡ a.purse
  pub purse_is : purse_now.spares ≡ b.purse
  pub building : BuildingValue
  pub frozen_is : building.frozen ≡ collecting.frozen
  pub read_is : building.read ≡ collecting.read
  pub built : IsBuiltOf h collecting.frozen.plane collecting.rows purse purse_now building
  pub actor_is : b ≡ record a { purse = b.purse; job = at_stage job (Builds building) }

abbrev pub DoesCollect : List Dimension → Change → ActorValue → ActorValue → Type 0
DoesCollect h c a b = CollectsBlock c a b ⊎ CollectsQueued c a b ⊎ CollectsAll h c a b

-- the last block that isn't in its cell goes there
pub record DoesBuildBlock (c : Change) (a b : ActorValue) : Type 0 where
  pub job : JobValue
  pub building : BuildingValue
  pub has : HasJob a job (Builds building)
  pub others : List Fresh
  pub next : Fresh
  pub unbuilt : building.unbuilt ≡ others ++ next ∷ []
  pub here : next.cell ≡ c.number
  pub filled : c.now ≡ BlockCell next.block
  pub actor_is : b ≡ record a { job = at_stage job (Builds (record building { unbuilt = others })) }

-- Finishing.

-- a gate for a new tree, open, with these rows in its queue
pub record IsGateFor (h : List Dimension) (shard : ℕ) (tree : BuiltTree) (queued : List Row) (g : Gate) : Type 0 where
  pub shard_is : g.shard ≡ shard
  pub phase_is : g.phase ≡ phase.Open
  pub root : g.root ≡ tree.root
  pub stamp : g.stamp ≡ tree.stamp
  pub height : g.height ≡ tree.height
  pub agg : g.agg ≡ tree.agg
  pub set : g.set ≡ tree.set
  pub active : g.active ≡ 0
  pub pins : g.pins ≡ 0
  pub queue : g.queue.rows ≡ queued
  pub valid : IsQueueOf h g.queue
  pub gone : g.gone ≡ []

-- the gate is gone: its queue is empty and it has the list of its tree's blocks; all else stays as it was
pub record Retires (h : List Dimension) (read : List ℕ) (gate gate_now : Gate) : Type 0 where
  pub now : gate_now ≡ record gate { phase = phase.Gone; queue = gate_now.queue; gone = read }
  pub empty : gate_now.queue.rows ≡ []
  pub valid : IsQueueOf h gate_now.queue

-- a box that is true: the set of a tree's rows and of those in the queue beside it
abbrev pub IsTrueBox : List Dimension → DescSet → List Row → DescSet → Type 0
IsTrueBox h tree_set queued box = (queue_set : DescSet) × IsSetOf h (coords queued) queue_set × JoinsTo h tree_set queue_set box

-- two events are pushed in one commit
pub record PushesBoth (first second : Event) (l : Change) (seen : ℕ) : Type 0 where
  pub ledger : LedgerValue
  pub ledger_now : LedgerValue
  pub was : l.before ≡ LedgerCell ledger
  pub is : l.now ≡ LedgerCell ledger_now
  pub history : ledger_now.history ≡ second ∷ first ∷ ledger.history
  pub promised : ledger.promised ≡ ledger_now.promised + 2
  pub all_seen : seen ≡ length ledger_now.history

-- A balance goes on with its next action; a command of one action ends fine in the same commit. The old gate, in this cell, is the
-- last one that went.
abbrev pub Finishes : ℕ → ℕ → Work → JobValue → Event → Change → ActorValue → ActorValue → Type 0
Finishes gate of (work_is.Balance balance) job e l a b =
    Pushes e 0 1 l b.seen
    × (b ≡ record a {
      purse = [];
      seen = b.seen;
      command = doing of (work_is.Balance (after_action true job balance));
      job = next_job (after_action true job balance);
      gone_gates = a.gone_gates ++ gate ∷ [];
    })
Finishes gate of work job e l a b =
    PushesBoth e (event.Ended of how.Fine) l b.seen × (b ≡ record a { purse = []; seen = b.seen; command = None; job = None; gone_gates = a.gone_gates ++ gate ∷ [] })

-- The last two spares of the purse become the cells of the children's gates, the left one's first.
pub record DoesFinishSplit (h : List Dimension) (m x l r reg c led : Change) (a b : ActorValue) : Type 0 where
  pub of : ℕ
  pub work : Work
  pub command : a.command ≡ doing of work
  pub job : JobValue
  pub building : BuildingValue
  pub has : HasJob a job (Builds building)
  pub in_cells : building.unbuilt ≡ []
  pub plane : Plane
  pub divided : building.frozen.plane ≡ Some plane
  pub right_tree : BuiltTree
  pub right_is : building.right ≡ Some right_tree
  pub here : building.frozen.gate ≡ x.number
  pub gate : Gate
  pub gate_now : Gate
  pub upto : ℕ
  pub frozen : IsUpTo gate upto
  pub retires : Retires h building.read gate gate_now
  pub turns : TurnsGate gate gate_now x
  pub rest : List Spare
  pub left_spare : Spare
  pub right_spare : Spare
  pub spares : a.purse ≡ rest ++ right_spare ∷ left_spare ∷ []
  pub left_cell : l.number ≡ left_spare.cell
  pub right_cell : r.number ≡ right_spare.cell
  pub stock : StockValue
  pub stock_now : StockValue
  pub left_gate : Gate
  pub right_gate : Gate
  pub left_is : IsGateFor h stock.ids building.left (left_of h plane (drop upto gate.queue.rows)) left_gate
  pub left_now : l.now ≡ GateCell left_gate
  pub right_gate_is : IsGateFor h (stock.ids + 1) right_tree (right_of h plane (drop upto gate.queue.rows)) right_gate
  pub right_now : r.now ≡ GateCell right_gate
  pub table : map.FinMap nat_cmp Where
  pub map_was : m.before ≡ MapCell job.worker table
  pub map_is : m.now ≡ MapCell job.worker (map.insert (map.insert (map.insert table job.shard (where_is.Split plane stock.ids (stock.ids + 1)))
      stock.ids (where_is.Gate l.number)) (stock.ids + 1) (where_is.Gate r.number))
  pub registry : RegistryValue
  pub registry_now : RegistryValue
  pub left_box : DescSet
  pub right_box : DescSet
  pub left_true : IsTrueBox h building.left.set left_gate.queue.rows left_box
  pub right_true : IsTrueBox h right_tree.set right_gate.queue.rows right_box
  pub split : IsSplit job.shard stock.ids left_box (stock.ids + 1) right_box registry registry_now
  pub registry_was : reg.before ≡ RegistryCell registry
  pub registry_is : reg.now ≡ RegistryCell registry_now
  pub given : StockValue
  pub purse : PurseValue
  pub purse_now : PurseValue
  pub purse_was : purse.spares ≡ rest
  pub gives : Gives stock given purse purse_now
  pub ids : stock_now ≡ record given { ids = stock.ids + 2 }
  pub turns_stock : TurnsStock stock stock_now c
  pub finishes : Finishes x.number of work job (event.Split of job.shard stock.ids (stock.ids + 1)) led a b

-- the tables after a move: on the worker that had the shard it has moved, on the other one it has its new gate; where both are
-- one worker, its one table is held
abbrev pub MovesIn : List Change → JobValue → ℕ → ℕ → Type 0
MovesIn (m ∷ []) job to gate = (to ≡ job.worker) × ((table : map.FinMap nat_cmp Where) × (m.before ≡ MapCell to table) × (m.now ≡ MapCell to (map.insert table job.shard (where_is.Gate gate))))
MovesIn (m ∷ n ∷ []) job to gate =
    (to ≢ job.worker)
    × ((table : map.FinMap nat_cmp Where) × (m.before ≡ MapCell job.worker table) × (m.now ≡ MapCell job.worker (map.insert table job.shard (where_is.Moved to))))
    × ((table : map.FinMap nat_cmp Where) × (n.before ≡ MapCell to table) × (n.now ≡ MapCell to (map.insert table job.shard (where_is.Gate gate))))
MovesIn _ job to gate = ⊥

-- The last spare of the purse becomes the cell of the shard's new gate.
pub record DoesFinishMove (h : List Dimension) (maps : List Change) (x g reg c led : Change) (a b : ActorValue) : Type 0 where
  pub of : ℕ
  pub work : Work
  pub command : a.command ≡ doing of work
  pub job : JobValue
  pub to : ℕ
  pub to_is : job.to ≡ Some to
  pub building : BuildingValue
  pub has : HasJob a job (Builds building)
  pub in_cells : building.unbuilt ≡ []
  pub here : building.frozen.gate ≡ x.number
  pub gate : Gate
  pub gate_now : Gate
  pub upto : ℕ
  pub frozen : IsUpTo gate upto
  pub retires : Retires h building.read gate gate_now
  pub turns : TurnsGate gate gate_now x
  pub rest : List Spare
  pub spare : Spare
  pub spares : a.purse ≡ rest ++ spare ∷ []
  pub cell : g.number ≡ spare.cell
  pub new_gate : Gate
  pub new_is : IsGateFor h job.shard building.left (drop upto gate.queue.rows) new_gate
  pub new_now : g.now ≡ GateCell new_gate
  pub moves : MovesIn maps job to g.number
  pub registry : RegistryValue
  pub registry_now : RegistryValue
  pub rehosted : IsRehosted job.shard to registry registry_now
  pub registry_was : reg.before ≡ RegistryCell registry
  pub registry_is : reg.now ≡ RegistryCell registry_now
  pub stock : StockValue
  pub stock_now : StockValue
  pub purse : PurseValue
  pub purse_now : PurseValue
  pub purse_was : purse.spares ≡ rest
  pub gives : Gives stock stock_now purse purse_now
  pub turns_stock : TurnsStock stock stock_now c
  pub finishes : Finishes x.number of work job (event.Moved of job.shard to) led a b

-- Giving up.

-- the cells that a job has beside the purse: those of the new blocks
abbrev pub spent_in : StageValue → List Spare
spent_in (Builds building) = building.spent
spent_in stage = []

-- the shard is frozen for the job
abbrev pub HasFrozen : StageValue → Type 0
HasFrozen (IsFrozen frozen) = ⊤
HasFrozen (Collects collecting) = ⊤
HasFrozen (Builds building) = ⊤
HasFrozen stage = ⊥

-- a balance goes on; a command of one action ends as postponed, without the event of a split or a move
abbrev pub GivesUp : ℕ → Work → JobValue → Change → ActorValue → ActorValue → Type 0
GivesUp of (work_is.Balance balance) job l a b =
    Pushes (event.Left of job.shard how.Postponed) 0 1 l b.seen
    × (b ≡ record a {
      purse = [];
      seen = b.seen;
      command = doing of (work_is.Balance (after_action false job balance));
      job = next_job (after_action false job balance);
    })
GivesUp of work job l a b = Pushes (event.Ended of how.Postponed) 0 2 l b.seen × (b ≡ record a { purse = []; seen = b.seen; command = None; job = None })

-- all its cells go back to the stock
pub record DoesPostpone (c led : Change) (a b : ActorValue) : Type 0 where
  pub of : ℕ
  pub work : Work
  pub command : a.command ≡ doing of work
  pub job : JobValue
  pub is_job : a.job ≡ Some job
  pub frozen : HasFrozen job.stage
  pub stock : StockValue
  pub between : StockValue
  pub stock_now : StockValue
  pub purse : PurseValue
  pub purse_now : PurseValue
  pub spent : PurseValue
  pub spent_now : PurseValue
  pub purse_was : purse.spares ≡ a.purse
  pub spent_was : spent.spares ≡ spent_in job.stage
  pub gives : Gives stock between purse purse_now
  pub gives_spent : Gives between stock_now spent spent_now
  pub turns : TurnsStock stock stock_now c
  pub gives_up : GivesUp of work job led a b

-- Using cells again.

-- the cell is free again, behind the stock's other free ones
pub record Frees (cell : ℕ) (c : Change) : Type 0 where
  pub stock : StockValue
  pub was : c.before ≡ StockCell stock
  pub is : c.now ≡ StockCell (record stock { free = stock.free ++ cell ∷ [] })

-- the administrator, between two commands, may use a gate's cells again: it is gone, and no query is pinned to it
pub record MayReuse (gate : Gate) (a : ActorValue) : Type 0 where
  pub role : a.role ≡ Admin
  pub no_command : a.command ≡ None
  pub is_gone : gate.phase ≡ phase.Gone
  pub unpinned : gate.pins ≡ 0

-- the block that stands last in the gate's list goes
pub record ReusesBlock (g y c : Change) (a b : ActorValue) : Type 0 where
  pub gate : Gate
  pub may : MayReuse gate a
  pub cells : List ℕ
  pub last : gate.gone ≡ cells ++ y.number ∷ []
  pub turns : TurnsGate gate (record gate { gone = cells }) g
  pub freed : y.now ≡ FreeCell
  pub frees : Frees y.number c
  pub actor_is : b ≡ a

-- where none is left, the gate goes itself, and the administrator has it in its list no more
pub record ReusesGate (g c : Change) (a b : ActorValue) : Type 0 where
  pub gate : Gate
  pub may : MayReuse gate a
  pub empty : gate.gone ≡ []
  pub was : g.before ≡ GateCell gate
  pub freed : g.now ≡ FreeCell
  pub frees : Frees g.number c
  pub actor_is : b ≡ record a { gone_gates = without_gate g.number a.gone_gates }
