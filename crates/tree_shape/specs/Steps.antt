-- What the steps of inserts and queries find in the cells and leave there, in the words of the calls' contracts.
use Rattle.std.specs.Prelude.{ℕ, ◌≡◌, ◌≢◌, ◌+◌, ◌<◌, ◌≤◌, ◌⊎◌, Bool, true, false, Some, List, [], ◌∷◌, ◌++◌, map, take, drop, length, slice_get}
use Rattle.dim_hierarchy.specs.{Filter.IsFilterOf, Rows.IsRowOf, declared.filter.Pick.Pick}
use Rattle.describing_set.specs.DescSet.{IsSetOf}
use Rattle.measure_agg.specs.{Aggregate.agg, Joining.join}
use Rattle.dc_node.specs.{Block.{rows_in, entries_in, is_leaf, is_full}, declared.block.Block.Block, declared.block.Body.TheVariants.Rows, declared.entry.Entry.Entry, declared.todo.Item.Item}
use Rattle.cell_stock.specs.{Stock.PurseValue, declared.purse.Spare.Spare}
use Rattle.link_descent.specs.shard_store.specs.{Gate.{root_entry, IsQueueOf}, declared.gate.Gate.Gate}
use Rattle.link_descent.specs.{Descend.{StepsDown, Enters}, GateRead.{queue_part, tree_part, root_items}, Visit.{noted_in, noted_right, counted as block_part}, declared.entered.Entered.Entered}
use Rattle.list_words.specs.Counts.{Each, same, times}
use Rattle.tree_shape.specs.{Queries.{IsUnfinished, NoneWaits, fits}, Shape.{Table, Node, TreeCells, nodes, Shape, numbers}, Trees.IsTree, Walks.{Noted, pending}}

-- Spares: the cell is of no block of the tree, and no entry of the tree expects the stamp.

pub record IsSpare (g : Shape) (look : ℕ → Node) (s : Spare) : Type 0 where
  pub cell : g.inside s.cell ≡ false
  pub unexpected : (b l : ℕ) → g.inside b ≡ true → g.level b ≡ l + 1 → Each (λ e. e.stamp ≢ s.stamp) (look b).entries

abbrev pub AreApart : Spare → Spare → Type 0
AreApart s other = (s.cell ≢ other.cell) × (s.stamp ≢ other.stamp)

-- each is one, and no cell and no stamp stands twice
abbrev pub AreSpares : Shape → (ℕ → Node) → List Spare → Type 0
AreSpares g look [] = Unit {0}
AreSpares g look (s ∷ ss) = IsSpare g look s × Each (AreApart s) ss × AreSpares g look ss

-- nobody carries a row at the block
abbrev pub IsIdle : Shape → ℕ → Type 0
IsIdle g c = (r : ℕ) → g.placed r ≡ true → g.carried r ≡ true → g.at r ≢ c

-- The gate leads to the root as another one does; what else a gate has is no part of the tree.
pub record LeadsAs (gate now : Gate) : Type 0 where
  pub root : root_entry now ≡ root_entry gate
  pub height : now.height ≡ gate.height

-- The row r, which is carried at a block, goes down by the entry at a place of it. Where the head of the entry's group is
-- full, the step looks at the first two blocks behind it. Only the block, the head and the cells of new blocks change.
pub record GoesDown (table : Table) (g : Shape) (r : ℕ) (before now : TreeCells) (purse purse_now : PurseValue) (entered : Entered) : Type 0 where
  pub parent : ℕ
  pub place : ℕ
  pub entry : Entry
  pub tail : List ℕ
  pub placed : g.placed r ≡ true
  pub carried : g.carried r ≡ true
  pub at : g.at r ≡ parent
  pub entry_at : slice_get (entries_in (before.block parent).body) place ≡ Some entry
  pub behind : is_full (before.block entry.child).body ≡ true → tail ≡ take 2 (drop 1 (g.group entry.child))
  pub step : StepsDown table.hierarchy (table.row r) place (map before.block tail) (before.block parent) (now.block parent) (before.block entry.child) (now.block entry.child) purse purse_now entered
  pub idle : IsIdle g entry.child
  pub spares : AreSpares g (nodes before) purse.spares
  pub filled : Each (λ f. now.block f.cell ≡ f.block) entered.fresh.items
  pub other : (y : ℕ) → y ≢ parent → y ≢ entry.child → Each (λ f. y ≢ f.cell) entered.fresh.items → now.block y ≡ before.block y
  pub gate_cell : now.gate_cell ≡ before.gate_cell
  pub gate : LeadsAs before.gate now.gate

-- The row r, which is in no tree, comes in at the gate. Where the root is full, the step looks at the first two blocks
-- behind it. Only the gate, the root and the cells of new blocks change.
pub record GoesIn (table : Table) (g : Shape) (r : ℕ) (before now : TreeCells) (purse purse_now : PurseValue) (entered : Entered) : Type 0 where
  pub gate_now : Gate
  pub tail : List ℕ
  pub new : g.placed r ≡ false
  pub numbered : (table.row r).no ≡ r
  pub valid : IsRowOf table.hierarchy (table.row r)
  pub behind : is_full (before.block before.gate.root).body ≡ true → tail ≡ take 2 (drop 1 (g.group before.gate.root))
  pub step : Enters table.hierarchy (table.row r) (map before.block tail) before.gate gate_now (before.block before.gate.root) (now.block before.gate.root) purse purse_now entered
  pub idle : IsIdle g before.gate.root
  pub spares : AreSpares g (nodes before) purse.spares
  pub filled : Each (λ f. now.block f.cell ≡ f.block) entered.fresh.items
  pub other : (y : ℕ) → y ≢ before.gate.root → Each (λ f. y ≢ f.cell) entered.fresh.items → now.block y ≡ before.block y
  pub gate_cell : now.gate_cell ≡ before.gate_cell
  pub gate : LeadsAs gate_now now.gate

-- The row r is now carried at a block. Of the other rows none comes or goes, and a carried one stays where it is.
pub record IsCarriedAt (g now : Shape) (r cell : ℕ) : Type 0 where
  pub placed : now.placed r ≡ true
  pub carried : now.carried r ≡ true
  pub at : now.at r ≡ cell
  pub others_placed : (q : ℕ) → q ≢ r → now.placed q ≡ g.placed q
  pub others_carried : (q : ℕ) → q ≢ r → now.carried q ≡ g.carried q
  pub others_at : (q : ℕ) → q ≢ r → g.placed q ≡ true → g.carried q ≡ true → now.at q ≡ g.at q

-- After either of them some shape fits the cells, in which the row is carried at a cell one level below `top`. The
-- blocks that were in the tree stay on their levels. The spares of the purse that were used are cells of the tree; all
-- other spares are still spare; and every unfinished query is right with the blocks that it had noted, where none of
-- them waits for a used stamp and where a row that wasn't in the tree isn't one that it has counted or has to hold.
pub record AfterStep (table : Table) (g : Shape) (r cell top : ℕ) (before now : TreeCells) (purse purse_now : List Spare) : Type 0 where
  pub shape : Shape
  pub tree : IsTree table now shape
  pub row : IsCarriedAt g shape r cell
  pub level : shape.level cell + 1 ≡ top
  pub levels : (y : ℕ) → g.inside y ≡ true → y ≢ before.gate_cell → shape.level y ≡ g.level y
  pub used : List Spare
  pub purse_is : purse ≡ purse_now ++ used
  pub inside : (y : ℕ) → Each (λ s. y ≢ s.cell) used → shape.inside y ≡ g.inside y
  pub filled : Each (λ s. shape.inside s.cell ≡ true) used
  pub spares : (s : Spare) → Each (AreApart s) used → IsSpare g (nodes before) s → IsSpare shape (nodes now) s
  pub own : AreSpares shape (nodes now) purse_now
  pub queries : (must fits : ℕ → Bool) (items : List Item) (counted : List ℕ) → Each (λ s. NoneWaits s.stamp items) used
      → (g.placed r ≡ false → (times r counted ≡ 0) × (must r ≡ false))
      → IsUnfinished g (nodes before) must fits items counted → IsUnfinished shape (nodes now) must fits items counted

-- The row r, which is carried at a leaf, is put behind the leaf's rows.
pub record IsPut (table : Table) (g : Shape) (r : ℕ) (before now : TreeCells) : Type 0 where
  pub leaf : ℕ
  pub placed : g.placed r ≡ true
  pub carried : g.carried r ≡ true
  pub at : g.at r ≡ leaf
  pub kind : is_leaf (before.block leaf).body ≡ true
  pub stamp : (now.block leaf).stamp ≡ (before.block leaf).stamp
  pub right : (now.block leaf).right ≡ (before.block leaf).right
  pub body : (now.block leaf).body ≡ Rows (record { items = rows_in (before.block leaf).body ++ table.row r ∷ [] })
  pub other : (y : ℕ) → y ≢ leaf → now.block y ≡ before.block y
  pub gate_cell : now.gate_cell ≡ before.gate_cell
  pub gate : LeadsAs before.gate now.gate

-- It is in the leaf from then on, and all else is as it was: each other row, and each block with its level.
pub record AfterPut (table : Table) (g : Shape) (r : ℕ) (before now : TreeCells) : Type 0 where
  pub shape : Shape
  pub tree : IsTree table now shape
  pub settled : shape.carried r ≡ false
  pub placed : (q : ℕ) → shape.placed q ≡ g.placed q
  pub carried : (q : ℕ) → q ≢ r → shape.carried q ≡ g.carried q
  pub at : (q : ℕ) → shape.at q ≡ g.at q
  pub levels : (y : ℕ) → shape.level y ≡ g.level y
  pub inside : (y : ℕ) → shape.inside y ≡ g.inside y
  pub spares : (s : Spare) → IsSpare g (nodes before) s → IsSpare shape (nodes now) s
  pub queries : (must fits : ℕ → Bool) (items : List Item) (counted : List ℕ)
      → IsUnfinished g (nodes before) must fits items counted → IsUnfinished shape (nodes now) must fits items counted

-- A step that isn't of this tree: the gate leads as before, and the tree's blocks are as they were. So it is where a row
-- goes to the queue, and where another tree's blocks change.
pub record LeavesTree (g : Shape) (before now : TreeCells) : Type 0 where
  pub gate_cell : now.gate_cell ≡ before.gate_cell
  pub gate : LeadsAs before.gate now.gate
  pub block : (y : ℕ) → g.inside y ≡ true → y ≢ before.gate_cell → now.block y ≡ before.block y

-- everything is as it was
pub record AfterOther (table : Table) (g : Shape) (before now : TreeCells) : Type 0 where
  pub tree : IsTree table now g
  pub spares : (s : Spare) → IsSpare g (nodes before) s → IsSpare g (nodes now) s
  pub queries : (must fits : ℕ → Bool) (items : List Item) (counted : List ℕ)
      → IsUnfinished g (nodes before) must fits items counted → IsUnfinished g (nodes now) must fits items counted

-- A gate over an empty leaf, in a cell of its own.
pub record OpensOver (table : Table) (cells : TreeCells) (leaf : Block) : Type 0 where
  pub root : cells.block cells.gate.root ≡ leaf
  pub apart : cells.gate.root ≢ cells.gate_cell
  pub stamp : cells.gate.stamp ≡ leaf.stamp
  pub height : cells.gate.height ≡ 1
  pub agg : cells.gate.agg ≡ agg []
  pub set : IsSetOf table.hierarchy [] cells.gate.set

-- It is a tree with no rows.
pub record AfterOpening (table : Table) (cells : TreeCells) : Type 0 where
  pub shape : Shape
  pub tree : IsTree table cells shape
  pub empty : (r : ℕ) → shape.placed r ≡ false
  pub others : (y : ℕ) → y ≢ cells.gate_cell → y ≢ cells.gate.root → shape.inside y ≡ false

-- Queries. The filter is of the hierarchy, which has a dimension.
pub record IsAsked (table : Table) (f : List Pick) : Type 0 where
  pub filter : IsFilterOf table.hierarchy f
  pub dims : 0 < length table.hierarchy

-- The query visits the block that was noted last. Nobody else holds it, so no row is carried at it.
pub record Visits (table : Table) (cells : TreeCells) (g : Shape) (must : ℕ → Bool) (f : List Pick) (items : List Item) (item : Item) (counted : List ℕ) : Type 0 where
  pub asked : IsAsked table f
  pub unfinished : IsUnfinished g (nodes cells) must (fits table f) (items ++ item ∷ []) counted
  pub block : item.cell ≢ cells.gate_cell
  pub idle : IsIdle g item.cell

-- With what it counts there and what it notes there the query is right. What it counts is in the tree, and what it has
-- counted it keeps. No block is reached more often than from the blocks noted before, and the visited one less often, so
-- that visits come to an end.
pub record AfterVisit (table : Table) (cells : TreeCells) (g : Shape) (must : ℕ → Bool) (f : List Pick) (items : List Item) (item : Item) (counted : List ℕ) (before : List Noted) : Type 0 where
  pub now : List ℕ
  pub unfinished : IsUnfinished g (nodes cells) must (fits table f)
      (items ++ noted_in table.hierarchy f (cells.block item.cell).body ++ noted_right (cells.block item.cell) item.stamp) now
  pub total : agg (map table.row now) ≡ join (agg (map table.row counted)) (block_part table.hierarchy f (cells.block item.cell).body)
  pub known : (r : ℕ) → 1 ≤ times r now → (1 ≤ times r counted) ⊎ (g.placed r ≡ true)
  pub kept : (r : ℕ) → times r counted ≤ times r now
  pub fewer : (y : ℕ) → g.inside y ≡ true → pending g unfinished.noted y + same y item.cell ≤ pending g before y

-- What a query finds at a gate: the queue's rows are in no tree, and none of them is there twice. What it has counted
-- before, at other gates, fits and is neither in this queue nor in this tree.
pub record BeginsQuery (table : Table) (cells : TreeCells) (g : Shape) (f : List Pick) (counted : List ℕ) : Type 0 where
  pub asked : IsAsked table f
  pub queue : IsQueueOf table.hierarchy cells.gate.queue
  pub rows : Each (λ r. table.row r.no ≡ r) cells.gate.queue.rows
  pub once : (r : ℕ) → times r counted + times r (numbers cells.gate.queue.rows) ≤ 1
  pub apart : (r : ℕ) → g.placed r ≡ true → times r counted + times r (numbers cells.gate.queue.rows) ≡ 0
  pub fitting : (r : ℕ) → 1 ≤ times r counted → fits table f r ≡ true

-- The query has begun: it is right with what it took and what it noted, and it has each of the queue's matching rows.
pub record AfterBegin (table : Table) (cells : TreeCells) (g : Shape) (must : ℕ → Bool) (f : List Pick) (counted : List ℕ) : Type 0 where
  pub now : List ℕ
  pub unfinished : IsUnfinished g (nodes cells) must (fits table f) (root_items table.hierarchy f cells.gate) now
  pub total : agg (map table.row now) ≡ join (join (agg (map table.row counted)) (queue_part table.hierarchy f cells.gate.queue)) (tree_part table.hierarchy f cells.gate)
  pub kept : (r : ℕ) → 1 ≤ times r counted → times r now ≡ 1
  pub queue : (r : ℕ) → 1 ≤ times r (numbers cells.gate.queue.rows) → fits table f r ≡ true → times r now ≡ 1
  pub known : (r : ℕ) → 1 ≤ times r now → (1 ≤ times r counted + times r (numbers cells.gate.queue.rows)) ⊎ (g.placed r ≡ true)

-- The query counts rows that aren't of this tree: of those that are it counts none more and none less.
pub record CountsElsewhere (g : Shape) (fits : ℕ → Bool) (counted now : List ℕ) : Type 0 where
  pub here : (r : ℕ) → g.placed r ≡ true → times r now ≡ times r counted
  pub once : (r : ℕ) → times r now ≤ 1
  pub fitting : (r : ℕ) → 1 ≤ times r now → fits r ≡ true

-- The query with nothing noted any more: it has counted no row twice, only rows that fit, and each one that it had to
-- hold and that is in the tree.
pub record AfterAll (g : Shape) (must fits : ℕ → Bool) (counted : List ℕ) : Type 0 where
  pub once : (r : ℕ) → times r counted ≤ 1
  pub fitting : (r : ℕ) → 1 ≤ times r counted → fits r ≡ true
  pub whole : (r : ℕ) → g.placed r ≡ true → must r ≡ true → fits r ≡ true → times r counted ≡ 1
