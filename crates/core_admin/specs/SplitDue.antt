-- What the step asks that ends a split, beyond that its cells and its actor are those of a state; and what its inner functions ask and do.
use Rattle.std.specs.{Ordering.nat_cmp, Prelude.{ℕ, ◌≡◌, ◌+◌, ◌^◌, ◌<◌, ◌≤◌, Bool, true, false, IsTrue, IsSome, List, [], ◌∷◌, ◌++◌, Some, None, drop, length}}
use Rattle.std.specs.FinMap as map
use Rattle.cell_stock.specs.{Stock.{AreOut, Gives, PurseValue, StockValue}, declared.purse.Spare.Spare}
use Rattle.describing_set.specs.{Plane.IsHierarchyPlane, Sets.IsDescSetOf, declared.plane.Plane.Plane, declared.set.DescSet.DescSet}
use Rattle.dim_hierarchy.specs.Dimension.{Dimension}
use Rattle.mapping_table.specs.declared.place.Where.{Where}
use Rattle.mapping_table.specs.declared.place.Where.TheVariants as where_is
use Rattle.row_ledger.specs.LedgerValue.{LedgerValue}
use Rattle.row_ledger.specs.declared.event.Event.TheVariants as event
use Rattle.server_image.specs.Registry.{RegistryValue, IsSplit, on_frontier}
use Rattle.core_tree.specs.shard_store.specs.declared.gate.Gate.{Gate}
use Rattle.core_tree.specs.volap_cell.specs.{AdminKinds.{HasJob, IsGateFor, IsTrueBox, IsUpTo, Retires}, Cells.{CellValue, MapOf, tag_of}, ImageKinds.doing, Values.{ActorValue, JobValue, BuildingValue, Builds}, declared.command.Work.Work, declared.job.BuiltTree.BuiltTree}
use Rattle.core_admin.specs.{BuildDue.side_of, FinishDue.{ClosesDone, IsBuiltUp, IsLate, MayCloseDone, NotesDone, gone_by, plans}}

-- The job has built two trees. The last two spares are for the gates of the children, the left one's first; the table is that
-- of the worker that has the shard.
pub record CanFinishSplit (table : CellValue) (gate_at left_at right_at : ℕ) (registry stock ledger : CellValue) (a : ActorValue) : Type 0 where
  pub up : IsBuiltUp gate_at registry stock ledger a
  pub plane : Plane
  pub divided : up.building.frozen.plane ≡ Some plane
  pub right_tree : BuiltTree
  pub right_is : up.building.right ≡ Some right_tree
  pub rest : List Spare
  pub left_spare : Spare
  pub right_spare : Spare
  pub spares : a.purse ≡ rest ++ right_spare ∷ left_spare ∷ []
  pub left_cell : left_at ≡ left_spare.cell
  pub right_cell : right_at ≡ right_spare.cell
  pub table_is : tag_of table ≡ MapOf up.job.worker

-- The children.

-- the job builds a tree for each side of a plane, with valid sets
pub record SplitsInto (h : List Dimension) (job : JobValue) : Type 0 where
  pub building : BuildingValue
  pub stage_is : job.stage ≡ Builds building
  pub plane : Plane
  pub divided : building.frozen.plane ≡ Some plane
  pub right_tree : BuiltTree
  pub right_is : building.right ≡ Some right_tree
  pub is_plane : IsHierarchyPlane h plane
  pub left_valid : IsDescSetOf h building.left.set
  pub right_valid : IsDescSetOf h right_tree.set

-- a frozen gate has late rows, and they are told apart by a plane
pub record MayMakeChild (h : List Dimension) (plane : Plane) (gate : Gate) : Type 0 where
  pub is_plane : IsHierarchyPlane h plane
  pub gate_is : IsLate h gate

-- a gate of a child's tree, with the late rows of its side in its queue
abbrev pub IsChildGate : List Dimension → Plane → Bool → ℕ → BuiltTree → Gate → Gate → Type 0
IsChildGate h plane left shard tree gate made = (upto : ℕ) → IsUpTo gate upto → IsGateFor h shard tree (side_of h plane left (drop upto gate.queue.rows)) made

-- Where the shard leads.

-- two ids that lead nowhere yet
pub record LeadNowhere (table : map.FinMap nat_cmp Where) (first : ℕ) : Type 0 where
  pub few : first + 1 < 2 ^ 32
  pub left : map.get table first ≡ None
  pub right : map.get table (first + 1) ≡ None

-- they lead to the gates of the children
abbrev pub with_children : map.FinMap nat_cmp Where → ℕ → ℕ → ℕ → map.FinMap nat_cmp Where
with_children table first left_at right_at = map.insert (map.insert table first (where_is.Gate left_at)) (first + 1) (where_is.Gate right_at)

-- the shard may be split into these: it is known and stands, and they are new
pub record MayEnterBoth (table : map.FinMap nat_cmp Where) (registry : RegistryValue) (shard first : ℕ) : Type 0 where
  pub known : IsSome (map.get table shard)
  pub nowhere : LeadNowhere table first
  pub listed : IsTrue (on_frontier shard registry)
  pub left_new : on_frontier first registry ≡ false
  pub right_new : on_frontier (first + 1) registry ≡ false

pub record EntersBoth (table table_now : map.FinMap nat_cmp Where) (registry registry_now : RegistryValue) (shard : ℕ) (plane : Plane) (first left_at right_at : ℕ) (left_box right_box : DescSet) : Type 0 where
  pub leads : table_now ≡ with_children (map.insert table shard (where_is.Split plane first (first + 1))) first left_at right_at
  pub split : IsSplit shard first left_box (first + 1) right_box registry registry_now

pub record MayDivideShard (h : List Dimension) (table : map.FinMap nat_cmp Where) (gate : Gate) (registry : RegistryValue) (first : ℕ) (job : JobValue) : Type 0 where
  pub into : SplitsInto h job
  pub gate_is : IsLate h gate
  pub enter : MayEnterBoth table registry job.shard first

-- the gates of the children are made, and the table and the registry lead to them
pub record DividesShard (h : List Dimension) (left_at right_at : ℕ) (table table_now : map.FinMap nat_cmp Where) (gate : Gate) (registry registry_now : RegistryValue) (first : ℕ) (job : JobValue) (left right : Gate) : Type 0 where
  pub building : BuildingValue
  pub stage_is : job.stage ≡ Builds building
  pub plane : Plane
  pub divided : building.frozen.plane ≡ Some plane
  pub right_tree : BuiltTree
  pub right_is : building.right ≡ Some right_tree
  pub left_gate : IsChildGate h plane true first building.left gate left
  pub right_gate : IsChildGate h plane false (first + 1) right_tree gate right
  pub left_box : DescSet
  pub right_box : DescSet
  pub left_true : IsTrueBox h building.left.set left.queue.rows left_box
  pub right_true : IsTrueBox h right_tree.set right.queue.rows right_box
  pub enters : EntersBoth table table_now registry registry_now job.shard plane first left_at right_at left_box right_box

-- The rest.

-- all spares but the last two may go back, and there are two ids more
pub record MayGiveMost (stock : StockValue) (spares : List Spare) : Type 0 where
  pub some : 1 < length spares
  pub out : (rest : List Spare) (left right : Spare) → spares ≡ rest ++ right ∷ left ∷ [] → AreOut stock rest
  pub ids : stock.ids + 2 < 2 ^ 32

pub record GivesMost (stock stock_now : StockValue) (spares spares_now : List Spare) : Type 0 where
  pub rest : List Spare
  pub left : Spare
  pub right : Spare
  pub is : spares ≡ rest ++ right ∷ left ∷ []
  pub given : StockValue
  pub purse : PurseValue
  pub purse_now : PurseValue
  pub purse_is : purse.spares ≡ rest
  pub gives : Gives stock given purse purse_now
  pub now : purse_now.spares ≡ spares_now
  pub ids : stock_now ≡ record given { ids = stock.ids + 2 }

-- the actor's job splits a shard of the frozen gate, the spares but the last two may go back, and there are promises
pub record MayFinishSplit (gate : Gate) (stock : StockValue) (ledger : LedgerValue) (a : ActorValue) : Type 0 where
  pub of : ℕ
  pub work : Work
  pub command : a.command ≡ doing of work
  pub job : JobValue
  pub building : BuildingValue
  pub has : HasJob a job (Builds building)
  pub upto : ℕ
  pub frozen : IsUpTo gate upto
  pub drained : gate.active ≡ 0
  pub spares : MayGiveMost stock a.purse
  pub promised : gone_by (plans work) ≤ ledger.promised
  pub close : MayCloseDone (plans work) a.command true

pub record FinishesDivided (h : List Dimension) (gate_at : ℕ) (gate gate_now : Gate) (stock stock_now : StockValue) (ledger ledger_now : LedgerValue) (a b : ActorValue) : Type 0 where
  pub of : ℕ
  pub work : Work
  pub command : a.command ≡ doing of work
  pub job : JobValue
  pub building : BuildingValue
  pub has : HasJob a job (Builds building)
  pub retires : Retires h building.read gate gate_now
  pub gives : GivesMost stock stock_now a.purse []
  pub noted : NotesDone (plans work) of (event.Split of job.shard stock.ids (stock.ids + 1)) ledger ledger_now
  pub closed : ClosesDone (plans work) job.shard None a.command b.command b.job
  pub seen : b.seen ≡ length ledger_now.history
  pub actor_is : b ≡ record a { purse = []; seen = b.seen; command = b.command; job = b.job; gone_gates = a.gone_gates ++ gate_at ∷ [] }
