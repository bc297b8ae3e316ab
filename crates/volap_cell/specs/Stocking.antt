-- Each cell of the stock has one use, and each stamp is given out once and is in one block at most.
use Rattle.std.specs.Prelude.{ℕ, ◌≡◌, ◌≢◌, ◌+◌, ◌<◌, ◌≤◌, ◌⊎◌, Bool, true, cond, List, [], ◌++◌, Option, Some, None, IsSome}
use Rattle.dc_node.specs.{declared.block.Block.Block, declared.todo.Item.Item}
use Rattle.cell_stock.specs.{Stock.{StockValue, IsStock, cells_of}, declared.purse.Spare.Spare}
use Rattle.shard_build.specs.shard_store.specs.{declared.gate.Gate.Gate, declared.gate.Phase.Phase, declared.gate.Phase.TheVariants.Gone}
use Rattle.list_words.specs.Counts.{Each, times}
use Rattle.shard_build.specs.tree_shape.specs.{Queries.NoneWaits, Shape.{Shape, TreeCells, nodes}, Steps.{AreApart, AreSpares}}
use Rattle.volap_cell.specs.{AdminKinds.spent_in, Errands.ReadPart, Ghost.{Owner, NotOfStock, AGate, InTree, is_unused, is_in_purse, is_in_tree, is_in_job}, Setting.{Setting, first_stock_cell, cell_count}, Values.{JobValue, StageValue, Collects}}

-- the cells of the tree of a gate
abbrev pub cells_at : (ℕ → Block) → (ℕ → Gate) → ℕ → TreeCells
cells_at blocks trees c = record { gate_cell = c; gate = trees c; block = blocks }

-- a gate's tree is whole unless the shard is gone and no query is pinned to it, when its cells may be used again
abbrev pub IsWhole : (ℕ → Option ℕ) → (ℕ → Option Phase) → (ℕ → ℕ) → ℕ → Type 0
IsWhole gates phases pins c = IsSome (gates c) × ((phases c ≢ Some Gone) ⊎ (1 ≤ pins c))

abbrev pub spent_of : Option JobValue → List Spare
spent_of None = []
spent_of (Some job) = spent_in job.stage

pub record Stocking (s : Setting) (stock : StockValue) (made : ℕ → Bool) (gates : ℕ → Option ℕ) (phases : ℕ → Option Phase) (pins : ℕ → ℕ) (gone : ℕ → List ℕ) (purses : ℕ → List Spare) (jobs : ℕ → Option JobValue) (owner : ℕ → Owner) (shape : ℕ → Shape) : Type 0 where
  pub valid : IsStock stock
  pub count : stock.cells ≡ cell_count s
  pub within : (y : ℕ) → owner y ≢ NotOfStock → (first_stock_cell s ≤ y) × (y < cell_count s)
  pub every : (y : ℕ) → first_stock_cell s ≤ y → y < cell_count s → owner y ≢ NotOfStock
  pub unused : (y : ℕ) → times y stock.free ≡ cond (is_unused (owner y)) 1 0
  pub purse : (a y : ℕ) → times y (cells_of (purses a)) ≡ cond (is_in_purse a (owner y)) 1 0
  pub job : (a y : ℕ) → times y (cells_of (spent_of (jobs a))) ≡ cond (is_in_job a (owner y)) 1 0
  pub gate : (c : ℕ) → IsSome (gates c) → owner c ≡ AGate
  pub gate_back : (c : ℕ) → owner c ≡ AGate → IsSome (gates c)
  pub tree : (c y : ℕ) → IsWhole gates phases pins c → (shape c).inside y ≡ true → y ≢ c → (owner y ≡ InTree c) × (made y ≡ true)
  pub tree_back : (c y : ℕ) → owner y ≡ InTree c → IsSome (gates c) × (IsWhole gates phases pins c → ((shape c).inside y ≡ true) × (y ≢ c))
  pub gone_cells : (c : ℕ) → phases c ≡ Some Gone → (y : ℕ) → times y (gone c) ≡ cond (is_in_tree c (owner y)) 1 0
  pub none_gone : (c : ℕ) → phases c ≢ Some Gone → gone c ≡ []

-- Stamps. A spare's stamp is of that spare alone, and one that isn't given out yet is nowhere: no block has it, no entry or gate
-- expects it, and nothing that is noted waits for it. No two blocks have one stamp, those of trees that are gone and those that
-- were left in cells given back included.

-- the spares of a purse and those that a job has spent
abbrev pub all_spares : (ℕ → List Spare) → (ℕ → Option JobValue) → ℕ → List Spare
all_spares purses jobs a = purses a ++ spent_of (jobs a)

-- no entry of a tree expects the stamp
abbrev pub NoneExpects : Shape → TreeCells → ℕ → Type 0
NoneExpects g cells stamp = (b l : ℕ) → g.inside b ≡ true → g.level b ≡ l + 1 → Each (λ e. e.stamp ≢ stamp) (nodes cells b).entries

abbrev pub items_in : StageValue → List Item
items_in (Collects collecting) = collecting.items
items_in _ = []

abbrev pub items_of_job : Option JobValue → List Item
items_of_job None = []
items_of_job (Some job) = items_in job.stage

abbrev pub items_of_read : Option ReadPart → List Item
items_of_read None = []
items_of_read (Some p) = p.reading.items

-- what an actor has noted, for its query or its job
abbrev pub all_items : (ℕ → Option ReadPart) → (ℕ → Option JobValue) → ℕ → List Item
all_items reads jobs a = items_of_read (reads a) ++ items_of_job (jobs a)

-- what a block in a cell, with a stamp, leaves to a spare: its stamp, unless the block has gone to the spare's cell already
abbrev pub LeavesStamp : (cell stamp : ℕ) → Spare → Type 0
LeavesStamp cell stamp x = cell ≢ x.cell → stamp ≢ x.stamp

pub record Stamping (stock : StockValue) (blocks : ℕ → Block) (made : ℕ → Bool) (trees : ℕ → Gate) (gates : ℕ → Option ℕ) (phases : ℕ → Option Phase) (pins : ℕ → ℕ) (purses : ℕ → List Spare) (reads : ℕ → Option ReadPart) (jobs : ℕ → Option JobValue) (shape : ℕ → Shape) : Type 0 where
  pub blocks_given : (y : ℕ) → made y ≡ true → (blocks y).stamp < stock.stamps
  pub blocks_apart : (y z : ℕ) → y ≢ z → made y ≡ true → made z ≡ true → (blocks y).stamp ≢ (blocks z).stamp
  pub unspared : (a y : ℕ) → made y ≡ true → Each (LeavesStamp y (blocks y).stamp) (all_spares purses jobs a)
  pub given : (a : ℕ) → Each (λ x. x.stamp < stock.stamps) (all_spares purses jobs a)
  pub apart : (a b : ℕ) → a ≢ b → Each (λ x. Each (AreApart x) (all_spares purses jobs b)) (all_spares purses jobs a)
  pub spare : (a c : ℕ) → IsWhole gates phases pins c → AreSpares (shape c) (nodes (cells_at blocks trees c)) (all_spares purses jobs a)
  pub waits : (a b : ℕ) → Each (λ x. NoneWaits x.stamp (all_items reads jobs b)) (all_spares purses jobs a)
  pub fresh : (c stamp : ℕ) → IsWhole gates phases pins c → stock.stamps ≤ stamp → NoneExpects (shape c) (cells_at blocks trees c) stamp
  pub fresh_waits : (b stamp : ℕ) → stock.stamps ≤ stamp → NoneWaits stamp (all_items reads jobs b)
