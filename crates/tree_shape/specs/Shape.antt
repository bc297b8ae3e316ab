-- What stands in the cells of a tree, and the shape that the tree has beside them.
use Rattle.std.specs.Prelude.{ℕ, ◌≡◌, ◌<◌, ◌≤◌, Bool, true, false, cond, eqb, List, [], ◌∷◌, Option, None, map}
use Rattle.dim_hierarchy.specs.{Dimension.Dimension, declared.row.Row.Row}
use Rattle.dc_node.specs.{Block.{rows_in, entries_in}, declared.block.Block.Block, declared.entry.Entry.Entry}
use Rattle.link_descent.specs.shard_store.specs.{Gate.root_entry, declared.gate.Gate.Gate}

-- the hierarchy, and the row that has a number
pub record Table : Type 0 where
  pub hierarchy : List Dimension
  pub row : ℕ → Row

-- rows are named by their numbers
abbrev pub numbers : List Row → List ℕ
numbers rows = map (λ r. r.no) rows

-- A block as the tree sees it: the numbers of its rows, or its entries.
pub record Node : Type 0 where
  pub stamp : ℕ
  pub right : Option ℕ
  pub rows : List ℕ
  pub entries : List Entry

abbrev pub node_of : Block → Node
node_of b = record { stamp = b.stamp; right = b.right; rows = numbers (rows_in b.body); entries = entries_in b.body }

-- A gate is the one block of the highest level, and its one entry leads to the root.
abbrev pub gate_node : Gate → Node
gate_node gate = record { stamp = 0; right = None; rows = []; entries = root_entry gate ∷ [] }

-- a gate in its cell, and the blocks by their cells
pub record TreeCells : Type 0 where
  pub gate_cell : ℕ
  pub gate : Gate
  pub block : ℕ → Block

abbrev pub nodes : TreeCells → ℕ → Node
nodes cells c = cond (eqb c cells.gate_cell) (gate_node cells.gate) (node_of (cells.block c))

-- What stands beside the cells. It says which cells are of the tree, on which level each is (0 a leaf) and under which
-- block of each higher level; the head of each block's group; the cells of the group with a head, and the rows beneath
-- it; and of each row whether it is in this tree, whether it is still carried, and the block at which it is. That a row
-- has one place needs no law, since `at` has one value.
pub record Shape : Type 0 where
  pub height : ℕ
  pub inside : ℕ → Bool
  pub level : ℕ → ℕ
  pub above : ℕ → ℕ → ℕ
  pub head : ℕ → ℕ
  pub group : ℕ → List ℕ
  pub below : ℕ → List ℕ
  pub placed : ℕ → Bool
  pub carried : ℕ → Bool
  pub at : ℕ → ℕ

-- each block hangs under one block of each higher level, and the way up by a level between leads to the same one;
-- a row that isn't carried is in a leaf
pub record ShapeOk (g : Shape) : Type 0 where
  pub itself : (y : ℕ) → g.inside y ≡ true → g.above y (g.level y) ≡ y
  pub below : (y : ℕ) → g.inside y ≡ true → g.level y < g.height
  pub higher : (y l : ℕ) → g.inside y ≡ true → g.level y ≤ l → l < g.height → (g.inside (g.above y l) ≡ true) × (g.level (g.above y l) ≡ l)
  pub coherent : (y l m : ℕ) → g.inside y ≡ true → g.level y ≤ l → l ≤ m → m < g.height → g.above (g.above y l) m ≡ g.above y m
  pub stands : (r : ℕ) → g.placed r ≡ true → g.inside (g.at r) ≡ true
  pub settled : (r : ℕ) → g.placed r ≡ true → g.carried r ≡ false → g.level (g.at r) ≡ 0
