-- How the cells and actors of an opening are made, one behind another.
use Rattle.std.specs.{List.range_with_len, Prelude.{ℕ, zero, suc, ◌≡◌, ◌+◌, ◌-◌, ◌*◌, ◌<◌, false, List, [], ◌∷◌, length, get_or, Option, Some, None}}
use Rattle.std.specs.FinMap as map
use Rattle.cell_stock.specs.Stock.{StockValue, IsStock}
use Rattle.describing_set.specs.{DescSet.IsSetOf, declared.listing.Spot.Spot, declared.set.DescSet.DescSet}
use Rattle.dim_hierarchy.specs.Dimension.{Dimension}
use Rattle.measure_agg.specs.Aggregate.{agg}
use Rattle.mapping_table.specs.declared.place.Where.TheVariants as where_is
use Rattle.row_ledger.specs.{LedgerValue.LedgerValue, declared.event.Event.Event, declared.settings.Use.Use}
use Rattle.row_ledger.specs.declared.event.Event.TheVariants as event
use Rattle.shard_build.specs.shard_store.specs.{Gate.IsNewGate, declared.gate.Gate.Gate}
use Rattle.shard_build.specs.tree_shape.specs.Trees.{leaf_without_rows}
use Rattle.volap_cell.specs.{Cells.{CellValue, FreeCell, ImageCell, DeskCell, MapCell, GateCell, BlockCell, cell_of}, Opening.{IsOpening, IsFresh}, Setting.{Setting, actor_count, cell_count}, State.{Has, IsWorldOf}, Steps.Inv, Values.{ActorValue, actor_of}, World.World, declared.actor.Actor.Actor, declared.cell.Cell.Cell, declared.role.Role.Role, declared.role.Role.TheVariants.Hand}

-- what a core with these dimensions, settings and roles is about
abbrev pub setting_for : List Dimension → Use → List Role → Setting
setting_for h with roles = record { hierarchy = h; servers = with.servers; workers = with.workers; stock_cells = with.cells; roles = roles }

-- Behind what stood before stand n more, and of the k-th of them P k holds.
pub record Adds {A : Type 0} (n : ℕ) (P : ℕ → A → Type 0) (before now : List (Option A)) : Type 0 where
  pub count : length now ≡ length before + n
  pub old : (y : ℕ) → y < length before → get_or now y None ≡ get_or before y None
  pub each : (k : ℕ) → k < n → Has (get_or now (length before + k) None) (P k)

-- The cells, by the server or the worker.

abbrev pub IsImage : List Spot → ℕ → Cell → Type 0
IsImage spots server c = cell_of c ≡ ImageCell server (record { spots = spots; growths = []; owed = 0 })

abbrev pub IsDesk : ℕ → Cell → Type 0
IsDesk server c = cell_of c ≡ DeskCell server (record { op = None; parts = []; sessions = 0 })

-- the gates stand side by side, from one on
abbrev pub IsMap : ℕ → ℕ → Cell → Type 0
IsMap first_gate worker c = cell_of c ≡ MapCell worker (map.insert map.empty worker (where_is.Gate (first_gate + worker)))

abbrev pub IsFreeCell : ℕ → Cell → Type 0
IsFreeCell k c = cell_of c ≡ FreeCell

-- an empty gate whose root has the same place among the roots, with that number for its stamp
pub record IsGate (h : List Dimension) (first_root worker : ℕ) (c : Cell) : Type 0 where
  pub gate : Gate
  pub set : DescSet
  pub is : cell_of c ≡ GateCell gate
  pub empty : IsSetOf h [] set
  pub is_new : IsNewGate h worker (first_root + worker) worker 1 (agg []) set gate

abbrev pub IsRoot : ℕ → Cell → Type 0
IsRoot worker c = cell_of c ≡ BlockCell (leaf_without_rows worker)

-- the history in which so many servers have pulled this listing, each once
abbrev pub pulls_of : List Spot → ℕ → List Event
pulls_of listing zero = []
pulls_of listing (suc n) = event.Synced n listing ∷ pulls_of listing n

-- it is noted, and nothing is promised
abbrev pub HasPulled : List Spot → ℕ → LedgerValue → Type 0
HasPulled listing servers l = (l.history ≡ pulls_of listing servers) × (l.promised ≡ 0)

-- The cells behind one another: three that are filled later, images, desks, tables, free ones, gates and roots.
pub record Stands (h : List Dimension) (servers workers cells first_gate first_root : ℕ) (spots : List Spot) (now : List (Option Cell)) : Type 0 where
  pub start : List (Option Cell)
  pub fixed : List (Option Cell)
  pub images : List (Option Cell)
  pub desks : List (Option Cell)
  pub maps : List (Option Cell)
  pub free : List (Option Cell)
  pub gates : List (Option Cell)
  pub start_is : start ≡ []
  pub fixed_are : Adds 3 IsFreeCell start fixed
  pub images_are : Adds servers (IsImage spots) fixed images
  pub desks_are : Adds servers IsDesk images desks
  pub maps_are : Adds workers (IsMap first_gate) desks maps
  pub free_are : Adds (cells - 2 * workers) IsFreeCell maps free
  pub gates_are : Adds workers (IsGate h first_root) free gates
  pub roots_are : Adds workers IsRoot gates now

-- the stock once the cells of the first shards are taken, which are the last ones
pub record IsFirstStock (first cells workers : ℕ) (stock : StockValue) : Type 0 where
  pub count : stock.cells ≡ first + cells
  pub free : stock.free ≡ range_with_len first (cells - 2 * workers)
  pub stamps : stock.stamps ≡ 2 * workers
  pub ids : stock.ids ≡ workers
  pub valid : IsStock stock

-- an actor as it is made
abbrev pub IsActor : Setting → ℕ → Actor → Type 0
IsActor s a x = IsFresh s a (actor_of x)

-- The state that vectors are, where all places are filled.

abbrev pub cell_or : Option Cell → CellValue
cell_or None = FreeCell
cell_or (Some c) = cell_of c

-- an actor that isn't there; its role is that of a worker that isn't
abbrev pub fresh : Setting → ℕ → ActorValue
fresh s a = record { number = a; role = Hand s.workers; setting = s; seen = 0; counted = false; purse = []; boxes = 0; command = None; errand = None; job = None; gone_gates = [] }

abbrev pub actor_or : Setting → ℕ → Option Actor → ActorValue
actor_or s a None = fresh s a
actor_or s a (Some x) = actor_of x

abbrev pub world_of : Setting → List (Option Cell) → List (Option Actor) → World
world_of s cells actors = record { cells = λ y. cell_or (get_or cells y None); actors = λ a. actor_or s a (get_or actors a None) }

-- The vectors are an opening, which meets the invariant; each cell and each actor has its place in them.
pub record IsOpened (s : Setting) (cells : List (Option Cell)) (actors : List (Option Actor)) : Type 0 where
  pub places : length cells ≡ cell_count s
  pub count : length actors ≡ actor_count s
  pub world : World
  pub is : IsWorldOf cells actors world
  pub opening : IsOpening s world
  pub inv : Inv s world
