-- What a page must show: it is read off the whole state, by an actor beside which nobody is at work.
use Rattle.std.specs.{List.AllZip, Prelude.{ℕ, ◌≡◌, ◌≢◌, ◌-◌, cond, false, List, [], ◌∷◌, ◌++◌, length, flat_map, Some, None}}
use Rattle.dim_hierarchy.specs.declared.{filter.Pick.Pick, row.Row.Row}
use Rattle.dc_node.specs.Summary.{coords}
use Rattle.describing_set.specs.{DescSet.IsSetOf, declared.listing.Spot.Spot}
use Rattle.measure_agg.specs.Aggregate.{agg}
use Rattle.row_ledger.specs.{Groups.{IsGroupPage, Question, question}, Pages.IsPageOf, declared.event.Event.Event, declared.event.Event.TheVariants.Called, declared.page.AuditLine.AuditLine, declared.page.GroupPage.GroupPage, declared.page.Page.Page, declared.page.ShardLine.ShardLine, declared.page.TreePage.TreePage, declared.settings.Call.TheVariants.Group}
use Rattle.row_ledger.specs.declared.page.Page.TheVariants as page
use Rattle.shard_build.specs.shard_store.specs.{Gate.root_entry, declared.gate.Phase.TheVariants.Gone}
use Rattle.list_words.specs.Counts.{Each, times}
use Rattle.shard_build.specs.tree_shape.specs.{PageLines.{CellBlocks, lines}, Shape.{Shape, numbers}, Trees.IsTree}
use Rattle.volap_cell.specs.{Growing.table_of, Setting.{Setting, cell_count}, Stocking.cells_at, Values.ActorValue, View.{View, view}, World.World}

-- an actor with nothing to do, and not counted in at its desk
pub record IsIdle (a : ActorValue) : Type 0 where
  pub command : a.command ≡ None
  pub errand : a.errand ≡ None
  pub job : a.job ≡ None
  pub purse : a.purse ≡ []
  pub counted : a.counted ≡ false

-- the rows that a shard has: those in the tree of its gate, whatever shape fits it, and those in its queue
pub record HasRows (s : Setting) (v : View) (x : ℕ) (tree queue : List Row) : Type 0 where
  pub gate : ℕ
  pub is_gate : v.gates gate ≡ Some x
  pub stands : v.phases gate ≢ Some Gone
  pub queue_is : (v.queues gate).rows ≡ queue
  pub named : Each (λ r. v.row r.no ≡ r) tree
  pub tree_is : (g : Shape) → IsTree (table_of s v.row) (cells_at v.blocks v.trees gate) g → (r : ℕ) → times r (numbers tree) ≡ cond (g.placed r) 1 0

-- all blocks of the state, by their cells
abbrev pub blocks_seen : Setting → View → CellBlocks
blocks_seen s v = record { count = cell_count s; block = v.blocks }

-- A page of the tree that stands. It tells of exactly the rows that the shard has; it is as high as the gate says; and it has
-- the line of the root's group and then those of the groups beneath it, read off the blocks of the state.
pub record SeesTree (s : Setting) (v : View) (shown : TreePage) : Type 0 where
  pub tree : List Row
  pub queue : List Row
  pub has : HasRows s v shown.shard tree queue
  pub is_page : IsPageOf s.hierarchy tree queue shown
  pub height : shown.height ≡ (v.trees has.gate).height
  pub nodes : shown.nodes ≡ lines (blocks_seen s v) ((v.trees has.gate).height - 1) 0 (root_entry (v.trees has.gate))

-- a line of the shards' page is that of a spot of the registry
pub record SeesLine (s : Setting) (v : View) (spot : Spot) (line : ShardLine) : Type 0 where
  pub shard : line.shard ≡ spot.shard
  pub worker : line.worker ≡ spot.worker
  pub tree : List Row
  pub queue : List Row
  pub has : HasRows s v spot.shard tree queue
  pub rows : line.rows ≡ length tree
  pub queued : line.queued ≡ length queue
  pub set : IsSetOf s.hierarchy (coords (tree ++ queue)) line.set

-- the rows of a spot of the registry
abbrev pub HasAll : Setting → View → Spot → List Row → Type 0
HasAll s v spot rows = (tree : List Row) × (queue : List Row) × HasRows s v spot.shard tree queue × (rows ≡ tree ++ queue)

pub record SeesAudit (s : Setting) (v : View) (audit : AuditLine) : Type 0 where
  pub parts : List (List Row)
  pub each : AllZip (HasAll s v) v.registry.frontier parts
  pub total : audit.agg ≡ agg (flat_map (λ rows. rows) parts)
  pub shards : audit.shards ≡ length v.registry.frontier

-- the page of a question is that of the rows that the shards have which stand
pub record HasGroups (q : Question) (s : Setting) (v : View) (shown : GroupPage) : Type 0 where
  pub parts : List (List Row)
  pub each : AllZip (HasAll s v) v.registry.frontier parts
  pub is_page : IsGroupPage q (flat_map (λ rows. rows) parts) shown

-- a page of groups is of the question that the newest event asks
pub record SeesGroups (s : Setting) (v : View) (shown : GroupPage) : Type 0 where
  pub session : ℕ
  pub dim : ℕ
  pub level : ℕ
  pub filter : List Pick
  pub past : List Event
  pub called : v.history ≡ Called session (Group dim level filter) ∷ past
  pub has : HasGroups (question s.hierarchy filter dim level) s v shown

abbrev pub SeesPage : Setting → View → Page → Type 0
SeesPage s v (page.Shards lines) = AllZip (SeesLine s v) v.registry.frontier lines
SeesPage s v (page.Tree tree) = SeesTree s v tree
SeesPage s v (page.Audit audit) = SeesAudit s v audit
SeesPage s v (page.Group group) = SeesGroups s v group

-- everyone else is idle, and the page is what the state has
pub record Sees (s : Setting) (w : World) (n : ℕ) (shown : Page) : Type 0 where
  pub alone : (a : ℕ) → a ≢ n → IsIdle (w.actors a)
  pub page : SeesPage s (view s w) shown
