-- An administrator reads a tree's blocks one by one: at each it collects the rows, and notes the groups of all entries
-- and what is left of the block's own group.
use Rattle.std.specs.Prelude.{ℕ, ◌≡◌, ◌≢◌, ◌+◌, ◌≤◌, true, cond, eqb, IsSome, List, [], ◌∷◌, ◌++◌, map}
use Rattle.dc_node.specs.{Block.{rows_in, entries_in}, Summary.IsSummaryOf, declared.block.Body.Body, declared.todo.Item.Item}
use Rattle.link_descent.specs.shard_store.specs.declared.gate.Gate.{Gate}
use Rattle.link_descent.specs.Visit.{noted_right}
use Rattle.list_words.specs.Counts.{same, times}
use Rattle.tree_shape.specs.{Queries.items_of, Shape.{Table, TreeCells, nodes, Shape, numbers}, Steps.IsIdle, Walks.{Noted, AreNoted, pending}}

-- the root's group, and the groups of all entries of a block

abbrev pub root_item : Gate → Item
root_item gate = record { cell = gate.root; stamp = gate.stamp }

abbrev pub entry_items : Body → List Item
entry_items body = map (λ e. record { cell = e.child; stamp = e.stamp }) (entries_in body)

-- What holds between two blocks. Each block of the tree but the gate is read or is reached from one noted block, and not
-- both; and the rows collected are those at the blocks read.
pub record IsCollecting (cells : TreeCells) (g : Shape) (items : List Item) (read collected : List ℕ) : Type 0 where
  pub noted : List Noted
  pub are : items_of noted ≡ items
  pub walks : AreNoted g (nodes cells) noted
  pub blocks : (y : ℕ) → g.inside y ≡ true → times y read + pending g noted y ≡ cond (eqb y cells.gate_cell) 0 1
  pub inside : (y : ℕ) → 1 ≤ times y read → g.inside y ≡ true
  pub rows : (r : ℕ) → times r collected ≡ cond (g.placed r) (times (g.at r) read) 0

-- what is noted is a block of the tree, and has a right link where its group goes on
pub record IsReadable (cells : TreeCells) (g : Shape) (item : Item) : Type 0 where
  pub inside : g.inside item.cell ≡ true
  pub block : item.cell ≢ cells.gate_cell
  pub right : (cells.block item.cell).stamp ≢ item.stamp → IsSome (cells.block item.cell).right

-- The block that was noted last is read. Nobody carries a row at it.
pub record Reads (cells : TreeCells) (g : Shape) (items : List Item) (item : Item) (read collected : List ℕ) : Type 0 where
  pub collecting : IsCollecting cells g (items ++ item ∷ []) read collected
  pub idle : IsIdle g item.cell

-- It is one of the blocks read from then on, with its rows. What is reached afterwards and the block itself are exactly
-- what was reached before.
pub record AfterRead (cells : TreeCells) (g : Shape) (items : List Item) (item : Item) (read collected : List ℕ) (before : List Noted) : Type 0 where
  pub collecting : IsCollecting cells g
      (items ++ entry_items (cells.block item.cell).body ++ noted_right (cells.block item.cell) item.stamp)
      (read ++ item.cell ∷ []) (collected ++ numbers (rows_in (cells.block item.cell).body))
  pub exactly : (y : ℕ) → g.inside y ≡ true → pending g collecting.noted y + same y item.cell ≡ pending g before y

-- With nothing noted any more each block of the tree but the gate was read once, and no other cell; each of its rows is
-- collected once, and no other row; and they are the rows that the gate tells of.
pub record AfterCollecting (table : Table) (cells : TreeCells) (g : Shape) (read collected : List ℕ) : Type 0 where
  pub blocks : (y : ℕ) → times y read ≡ cond (g.inside y) (cond (eqb y cells.gate_cell) 0 1) 0
  pub rows : (r : ℕ) → times r collected ≡ cond (g.placed r) 1 0
  pub summary : IsSummaryOf table.hierarchy (map table.row collected) cells.gate.agg cells.gate.set
