-- Trees side by side, as a tree is built: its leaves, then directories over them, level by level, and a gate at last. Each
-- block is alone in its group.
use Rattle.std.specs.{List.flat_map, Prelude.{ℕ, ◌≡◌, ◌+◌, ◌≤◌, true, false, cond, List, [], ◌∷◌, ◌++◌, map, All}}
use Rattle.dim_hierarchy.specs.{Rows.IsRowOf, declared.row.Row.Row}
use Rattle.dc_node.specs.{Block.{rows_in, entries_in, is_leaf, size}, declared.block.Block.Block, declared.entry.Entry.Entry}
use Rattle.link_descent.specs.shard_store.specs.Gate.{root_entry}
use Rattle.link_descent.specs.{Descend.IsEntryOf, declared.entered.Fresh.Fresh}
use Rattle.list_words.specs.Counts.{Each, same, times}
use Rattle.tree_shape.specs.{Shape.{Table, TreeCells, node_of, Shape, numbers}, Trees.{TreeOk, EntryOk, BlockOk, IsTree, limit}}

-- the cells of blocks, and their rows and entries

abbrev pub filled_cells : List Fresh → List ℕ
filled_cells blocks = map (λ f. f.cell) blocks

abbrev pub all_rows : List Fresh → List Row
all_rows blocks = flat_map (λ f. rows_in f.block.body) blocks

abbrev pub all_entries : List Fresh → List Entry
all_entries blocks = flat_map (λ f. entries_in f.block.body) blocks

-- each block stands in its cell
abbrev pub AreInCells : (ℕ → Block) → List Fresh → Type 0
AreInCells block blocks = Each (λ f. block f.cell ≡ f.block) blocks

-- rows of the table's hierarchy, which it has by their numbers, each once
pub record AreRowsOf (table : Table) (rows : List Row) : Type 0 where
  pub named : All (λ r. table.row r.no ≡ r) rows
  pub valid : All (IsRowOf table.hierarchy) rows
  pub once : (r : ℕ) → times r (numbers rows) ≤ 1

-- Trees side by side. The cells are those of their blocks, each once; the roots are those on level l; the rows are theirs, by
-- numbers, each once, and none is carried. An entry of a root says what is beneath it.
pub record IsForest (table : Table) (block : ℕ → Block) (l : ℕ) (roots cells rows : List ℕ) : Type 0 where
  pub shape : Shape
  pub height : shape.height ≡ l + 1
  pub tree : TreeOk shape (λ c. node_of (block c)) table
  pub blocks : (b : ℕ) → shape.inside b ≡ true → BlockOk table shape b (block b)
  pub inside : (y : ℕ) → times y cells ≡ cond (shape.inside y) 1 0
  pub at_top : (y : ℕ) → times y roots ≡ cond (shape.inside y) (same (shape.level y) l) 0
  pub heads : (y : ℕ) → shape.head y ≡ y
  pub groups : (y : ℕ) → shape.group y ≡ y ∷ []
  pub placed : (r : ℕ) → times r rows ≡ cond (shape.placed r) 1 0
  pub settled : (r : ℕ) → shape.carried r ≡ false
  pub numbered : (r : ℕ) → shape.placed r ≡ true → ((table.row r).no ≡ r) × IsRowOf table.hierarchy (table.row r)
  pub entries : (e : Entry) → 1 ≤ times e.child roots → IsEntryOf table.hierarchy e.child (block e.child) e → EntryOk shape (λ c. node_of (block c)) table l e

-- Building.

-- leaves in cells of their own, with no more rows than there may be
pub record AreLeafBlocks (table : Table) (block : ℕ → Block) (leaves : List Fresh) : Type 0 where
  pub stand : AreInCells block leaves
  pub apart : (y : ℕ) → times y (filled_cells leaves) ≤ 1
  pub kind : Each (λ f. is_leaf f.block.body ≡ true) leaves
  pub few : Each (λ f. size f.block.body ≤ limit f.block.body) leaves
  pub rows : AreRowsOf table (all_rows leaves)

-- directories in further cells, whose entries are one for each root of a forest
pub record AreOver (table : Table) (block : ℕ → Block) (roots cells : List ℕ) (directories : List Fresh) : Type 0 where
  pub stand : AreInCells block directories
  pub apart : (y : ℕ) → times y (cells ++ filled_cells directories) ≤ 1
  pub kind : Each (λ f. is_leaf f.block.body ≡ false) directories
  pub some : Each (λ f. 1 ≤ size f.block.body) directories
  pub few : Each (λ f. size f.block.body ≤ limit f.block.body) directories
  pub entries : Each (λ e. IsEntryOf table.hierarchy e.child (block e.child) e) (all_entries directories)
  pub each : (y : ℕ) → times y (map (λ e. e.child) (all_entries directories)) ≡ times y roots

-- a gate in a further cell, which leads to the one root of a forest
pub record IsGateOver (table : Table) (cells : TreeCells) (l : ℕ) (filled : List ℕ) : Type 0 where
  pub apart : times cells.gate_cell filled ≡ 0
  pub height : cells.gate.height ≡ l + 1
  pub entry : IsEntryOf table.hierarchy cells.gate.root (cells.block cells.gate.root) (root_entry cells.gate)

-- A tree of exactly these rows, none of them carried, in the gate's cell and exactly these.
pub record AfterBuilding (table : Table) (cells : TreeCells) (filled rows : List ℕ) : Type 0 where
  pub shape : Shape
  pub tree : IsTree table cells shape
  pub placed : (r : ℕ) → times r rows ≡ cond (shape.placed r) 1 0
  pub settled : (r : ℕ) → shape.carried r ≡ false
  pub inside : (y : ℕ) → times y (cells.gate_cell ∷ filled) ≡ cond (shape.inside y) 1 0

abbrev pub LeavesLaw : Type 0
LeavesLaw = (table : Table) (block : ℕ → Block) (leaves : List Fresh) → AreLeafBlocks table block leaves
    → IsForest table block 0 (filled_cells leaves) (filled_cells leaves) (numbers (all_rows leaves))

abbrev pub DirectoriesLaw : Type 0
DirectoriesLaw = (table : Table) (block : ℕ → Block) (l : ℕ) (roots cells rows : List ℕ) (directories : List Fresh) → IsForest table block l roots cells rows
    → AreOver table block roots cells directories → IsForest table block (l + 1) (filled_cells directories) (cells ++ filled_cells directories) rows

abbrev pub TreeLaw : Type 0
TreeLaw = (table : Table) (cells : TreeCells) (l : ℕ) (filled rows : List ℕ) → IsForest table cells.block l (cells.gate.root ∷ []) filled rows
    → IsGateOver table cells l filled → AfterBuilding table cells filled rows
