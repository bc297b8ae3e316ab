-- The one use of each cell of the stock where no actor has one: it is free, or it is a cell of one shard that stands.
use Rattle.std.specs.Prelude.{ℕ, ◌≡◌, ◌≢◌, ◌==◌, ◌||◌, ◌<◌, ◌≤◌, ◌⊎◌, true, cond, List, [], Some, None}
use Rattle.cell_stock.specs.Stock.{StockValue}
use Rattle.row_ledger.specs.Shards.{is_live}
use Rattle.core_tree.specs.shard_store.specs.declared.gate.Phase.TheVariants.{Gone}
use Rattle.list_words.specs.Counts.{times}
use Rattle.core_tree.specs.volap_cell.specs.{Cells.StockCell, Promises.Standing, Setting.{Setting, cell_count, first_stock_cell, stock_cell}, Steps.Inv, View.{View, view}, World.World}

-- how often a shard that stands uses a cell: once where it is the cell of the shard's gate or one of its tree, else not at all
abbrev pub uses : (s : Setting) (v : View) → Standing s v → ℕ → ℕ → ℕ
uses s v t x y = cond (t.gate x == y || (t.shape (t.gate x)).inside y) 1 0

-- no shard that stands uses the cell
abbrev pub NoShardUses : (s : Setting) (v : View) → Standing s v → ℕ → Type 0
NoShardUses s v t y = (x : ℕ) → is_live s.workers v.history x ≡ true → uses s v t x y ≡ 0

-- the cell is free, once, and no shard that stands uses it
pub record IsFreeOnce (s : Setting) (v : View) (t : Standing s v) (free : List ℕ) (y : ℕ) : Type 0 where
  pub once : times y free ≡ 1
  pub none : NoShardUses s v t y

-- the cell isn't free, and this shard uses it, once, and no other one that stands does
pub record IsUsedOnce (s : Setting) (v : View) (t : Standing s v) (free : List ℕ) (y x : ℕ) : Type 0 where
  pub not_free : times y free ≡ 0
  pub stands : is_live s.workers v.history x ≡ true
  pub once : uses s v t x y ≡ 1
  pub others : (z : ℕ) → is_live s.workers v.history z ≡ true → z ≢ x → uses s v t z y ≡ 0

-- the cell has one use: it is free, or one shard uses it
abbrev pub HasOneUse : (s : Setting) (v : View) → Standing s v → List ℕ → ℕ → Type 0
HasOneUse s v t free y = IsFreeOnce s v t free y ⊎ ((x : ℕ) × IsUsedOnce s v t free y x)

-- the cell isn't free, and no shard that stands uses it
pub record HasNoUse (s : Setting) (v : View) (t : Standing s v) (free : List ℕ) (y : ℕ) : Type 0 where
  pub not_free : times y free ≡ 0
  pub none : NoShardUses s v t y

-- each cell of the stock has one use, and no other cell has any
pub record AreAllUsed (s : Setting) (w : World) : Type 0 where
  pub stock : StockValue
  pub stock_is : w.cells stock_cell ≡ StockCell stock
  pub standing : Standing s (view s w)
  pub each : (y : ℕ) → first_stock_cell s ≤ y → y < cell_count s → HasOneUse s (view s w) standing stock.free y
  pub others : (y : ℕ) → (y < first_stock_cell s) ⊎ (cell_count s ≤ y) → HasNoUse s (view s w) standing stock.free y

-- So it is where nobody has spares or a job, and no gate is left of a shard that is gone.
abbrev pub CellUseLaw : Type 0
CellUseLaw = (s : Setting) (w : World) → Inv s w → ((a : ℕ) → (w.actors a).purse ≡ []) → ((a : ℕ) → (w.actors a).job ≡ None)
    → ((c : ℕ) → (view s w).phases c ≢ Some Gone) → AreAllUsed s w
