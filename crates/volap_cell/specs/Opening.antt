-- The state with which a core begins: one empty shard on each worker, which each server lists, and nobody at work.
use Rattle.std.specs.{Ordering.nat_cmp, Prelude.{ℕ, ◌≡◌, ◌≢◌, ◌==◌, ◌<◌, ◌≤◌, false, [], length, Some, None, slice_get, if◌then◌else◌}}
use Rattle.std.specs.FinMap as map
use Rattle.describing_set.specs.{DescSet.IsSetOf, declared.set.DescSet.DescSet}
use Rattle.measure_agg.specs.Aggregate.{agg}
use Rattle.cell_stock.specs.Stock.{StockValue, IsStock}
use Rattle.mapping_table.specs.declared.place.Where.{Where}
use Rattle.mapping_table.specs.declared.place.Where.TheVariants as where_is
use Rattle.row_ledger.specs.{Bounds.listing_of, Kept.IsOpeningHistory, LedgerValue.LedgerValue}
use Rattle.server_image.specs.Registry.{RegistryValue, IsNewRegistry}
use Rattle.shard_build.specs.shard_store.specs.{Gate.IsNewGate, declared.gate.Gate.Gate}
use Rattle.list_words.specs.Counts.{times}
use Rattle.shard_build.specs.tree_shape.specs.Trees.{leaf_without_rows}
use Rattle.volap_cell.specs.{Cells.{FreeCell, LedgerCell, StockCell, RegistryCell, ImageCell, DeskCell, MapCell, GateCell, BlockCell}, Setting.{Setting, site_in, actor_count, cell_count, first_stock_cell, ledger_cell, stock_cell, registry_cell, image_cell, desk_cell, map_cell}, Values.ActorValue, World.World, declared.role.Role.TheVariants.Hand}

-- the first shard of a worker: a gate over an empty leaf, whose stamp is the worker's number, in two cells of the stock
pub record IsFirstShard (s : Setting) (w : World) (worker gate_cell root_cell : ℕ) : Type 0 where
  pub gate : Gate
  pub set : DescSet
  pub empty : IsSetOf s.hierarchy [] set
  pub is_new : IsNewGate s.hierarchy worker root_cell worker 1 (agg []) set gate
  pub in_cell : w.cells gate_cell ≡ GateCell gate
  pub root : w.cells root_cell ≡ BlockCell (leaf_without_rows worker)
  pub apart : gate_cell ≢ root_cell

-- an actor that has done nothing
pub record IsFresh (s : Setting) (a : ℕ) (x : ActorValue) : Type 0 where
  pub number : x.number ≡ a
  pub role : a < actor_count s → slice_get s.roles a ≡ Some x.role
  pub beyond : actor_count s ≤ a → x.role ≡ Hand s.workers
  pub about : x.setting ≡ s
  pub seen : x.seen ≡ 0
  pub counted : x.counted ≡ false
  pub purse : x.purse ≡ []
  pub boxes : x.boxes ≡ 0
  pub command : x.command ≡ None
  pub errand : x.errand ≡ None
  pub job : x.job ≡ None
  pub gone_gates : x.gone_gates ≡ []

pub record IsOpening (s : Setting) (w : World) : Type 0 where
  pub ledger : LedgerValue
  pub ledger_is : w.cells ledger_cell ≡ LedgerCell ledger
  pub history : IsOpeningHistory (site_in s) ledger.history
  pub all_pulled : length ledger.history ≡ s.servers
  pub none_promised : ledger.promised ≡ 0
  pub stock : StockValue
  pub stock_is : w.cells stock_cell ≡ StockCell stock
  pub valid : IsStock stock
  pub count : stock.cells ≡ cell_count s
  pub ids : stock.ids ≡ s.workers
  pub stamps : s.workers ≤ stock.stamps
  pub registry : RegistryValue
  pub registry_is : w.cells registry_cell ≡ RegistryCell registry
  pub is_new : IsNewRegistry s.hierarchy s.workers registry
  pub images : (server : ℕ) → server < s.servers → w.cells (image_cell server) ≡ ImageCell server (record { spots = listing_of ledger.history server; growths = []; owed = 0 })
  pub desks : (server : ℕ) → server < s.servers → w.cells (desk_cell s server) ≡ DeskCell server (record { op = None; parts = []; sessions = 0 })
  pub gate : ℕ → ℕ
  pub root : ℕ → ℕ
  pub tables : (worker : ℕ) → worker < s.workers → (table : map.FinMap nat_cmp Where) × (w.cells (map_cell s worker) ≡ MapCell worker table)
      × ((x : ℕ) → map.get table x ≡ (if x == worker then Some (where_is.Gate (gate worker)) else None))
  pub shards : (worker : ℕ) → worker < s.workers → IsFirstShard s w worker (gate worker) (root worker)
  pub apart : (a b : ℕ) → a < s.workers → b < s.workers → root a ≡ root b → a ≡ b
  pub free : (y : ℕ) → first_stock_cell s ≤ y → y < cell_count s
      → ((worker : ℕ) → worker < s.workers → (y ≢ gate worker) × (y ≢ root worker)) → (w.cells y ≡ FreeCell) × (times y stock.free ≡ 1)
  pub filled : (y : ℕ) → w.cells y ≢ FreeCell → times y stock.free ≡ 0
  pub rest : (y : ℕ) → cell_count s ≤ y → w.cells y ≡ FreeCell
  pub actors : (a : ℕ) → IsFresh s a (w.actors a)
