-- What it means that cells hold a tree of blocks.
use Rattle.std.specs.{Option.option_map_or, Prelude.{ℕ, zero, suc, ◌≡◌, ◌≢◌, ◌+◌, ◌≤◌, true, false, cond, eqb, None, List, [], ◌∷◌, map, take, drop, All}}
use Rattle.dim_hierarchy.specs.Rows.{IsRowOf}
use Rattle.dc_node.specs.{Block.{rows_in, entries_in, is_leaf, size, is_full, IsBodyOf}, Limits.{most_of_leaf, most_of_directory}, Summary.{IsSummaryOf, row_count}, declared.block.Block.Block, declared.block.Body.Body, declared.block.Body.TheVariants.{Rows, Entries}, declared.entry.Entry.Entry}
use Rattle.link_descent.specs.Divide.{together}
use Rattle.list_words.specs.Counts.{total, Each, same, times}
use Rattle.tree_shape.specs.{Shape.{Table, Node, TreeCells, nodes, Shape, ShapeOk}, Walks.{IsNoted, noted_of, beneath}}

-- An entry on the level above l: its group is a walk and has each block with that head once; the rows beneath it are
-- known, and the entry's aggregate and set are those of these rows, carried ones among them.
pub record EntryOk (g : Shape) (look : ℕ → Node) (table : Table) (l : ℕ) (e : Entry) : Type 0 where
  pub group : IsNoted g look (noted_of g l e)
  pub members : (y : ℕ) → g.inside y ≡ true → g.level y ≡ l → times y (g.group e.child) ≡ same (g.head y) e.child
  pub rows : (r : ℕ) → times r (g.below e.child) ≡ beneath g (noted_of g l e) r
  pub summary : IsSummaryOf table.hierarchy (map table.row (g.below e.child)) e.agg e.set

-- a directory on the level above l: its entries' groups have each block that hangs under it once, and no other
pub record DirOk (g : Shape) (look : ℕ → Node) (table : Table) (b l : ℕ) : Type 0 where
  pub entries : Each (EntryOk g look table l) (look b).entries
  pub each : (y : ℕ) → g.inside y ≡ true → g.level y ≡ l → total (λ e. times y (g.group e.child)) (look b).entries ≡ same (g.above y (l + 1)) b

-- how often r is a row of the leaf b
abbrev pub lies : Shape → ℕ → ℕ → ℕ
lies g b r = cond (g.placed r) (cond (g.carried r) 0 (same (g.at r) b)) 0

pub record TreeOk (g : Shape) (look : ℕ → Node) (table : Table) : Type 0 where
  pub shape : ShapeOk g
  pub heads : (y : ℕ) → g.inside y ≡ true → g.inside (g.head y) ≡ true
  pub leaves : (b : ℕ) → g.inside b ≡ true → g.level b ≡ 0 → (r : ℕ) → times r (look b).rows ≡ lies g b r
  pub dirs : (b l : ℕ) → g.inside b ≡ true → g.level b ≡ l + 1 → DirOk g look table b l

-- how many items there may be
abbrev pub limit : Body → ℕ
limit (Rows rows) = most_of_leaf
limit (Entries entries) = most_of_directory

-- a leaf that is its own group
abbrev pub leaf_without_rows : ℕ → Block
leaf_without_rows stamp = record { stamp = stamp; right = None; body = Rows (record { items = [] }) }

-- A block of the tree: a leaf exactly on level 0, never an empty directory, with no more items than there may be; its
-- rows are those of their numbers; and where a row is carried at it there is room.
pub record BlockOk (table : Table) (g : Shape) (b : ℕ) (block : Block) : Type 0 where
  pub kind : is_leaf block.body ≡ eqb (g.level b) 0
  pub some : 1 ≤ g.level b → 1 ≤ size block.body
  pub few : size block.body ≤ limit block.body
  pub rows : Each (λ r. table.row r.no ≡ r) (rows_in block.body)
  pub room : (r : ℕ) → g.placed r ≡ true → g.carried r ≡ true → g.at r ≡ b → is_full block.body ≡ false

-- The cells hold the tree of their gate, with this shape. The gate is the only block of its level. No row is at it, a
-- carried row is at a head, and no two are at one block.
pub record IsTree (table : Table) (cells : TreeCells) (g : Shape) : Type 0 where
  pub tree : TreeOk g (nodes cells) table
  pub top : g.inside cells.gate_cell ≡ true
  pub some : 1 ≤ cells.gate.height
  pub height : g.height ≡ cells.gate.height + 1
  pub level : g.level cells.gate_cell ≡ cells.gate.height
  pub only : (y : ℕ) → g.inside y ≡ true → g.level y ≡ cells.gate.height → y ≡ cells.gate_cell
  pub entered : (r : ℕ) → g.placed r ≡ true → g.at r ≢ cells.gate_cell
  pub heads : (r : ℕ) → g.placed r ≡ true → g.carried r ≡ true → g.head (g.at r) ≡ g.at r
  pub alone : (q r : ℕ) → g.placed q ≡ true → g.carried q ≡ true → g.placed r ≡ true → g.carried r ≡ true → g.at q ≡ g.at r → q ≡ r
  pub numbered : (r : ℕ) → g.placed r ≡ true → ((table.row r).no ≡ r) × IsRowOf table.hierarchy (table.row r)
  pub blocks : (b : ℕ) → g.inside b ≡ true → b ≢ cells.gate_cell → BlockOk table g b (cells.block b)

-- What a tree gives of a block for the calls that ask for it: the items are of the hierarchy, and neither they nor the
-- entries one by one have more rows beneath than the gate tells.
pub record BlockFits (table : Table) (cells : TreeCells) (b : ℕ) : Type 0 where
  pub body : IsBodyOf table.hierarchy (cells.block b).body
  pub count : row_count (cells.block b).body ≤ cells.gate.agg.count
  pub entries : All (λ e. e.agg.count ≤ cells.gate.agg.count) (entries_in (cells.block b).body)

-- The cell is a block of the tree, not the gate, and stands one level below another level. It is the head of its group.
pub record IsBelow (cells : TreeCells) (g : Shape) (c level : ℕ) : Type 0 where
  pub inside : g.inside c ≡ true
  pub block : c ≢ cells.gate_cell
  pub below : g.level c + 1 ≡ level
  pub head : g.head c ≡ c

-- the cells behind a block along right links, so many at most, up to the first block with the stamp
abbrev pub cells_behind : (ℕ → Block) → ℕ → ℕ → ℕ → List ℕ
cells_behind block stamp zero y = []
cells_behind block stamp (suc n) y = cond (eqb (block y).stamp stamp) [] (option_map_or (λ z. z ∷ cells_behind block stamp n z) (block y).right [])

-- The cell is a block of the tree, not the gate, and another one than the head of its group.
pub record IsBehind (cells : TreeCells) (g : Shape) (c y : ℕ) : Type 0 where
  pub inside : g.inside y ≡ true
  pub block : y ≢ cells.gate_cell
  pub apart : y ≢ c
  pub level : g.level y ≡ g.level c
  pub head : g.head y ≡ c

-- the first blocks of an entry's group behind its head are those that right links lead to
pub record HasBehind (cells : TreeCells) (g : Shape) (e : Entry) (n : ℕ) : Type 0 where
  pub found : take n (drop 1 (g.group e.child)) ≡ cells_behind cells.block e.stamp n e.child
  pub behind : Each (IsBehind cells g e.child) (cells_behind cells.block e.stamp n e.child)

-- What a tree gives of these blocks for the calls that ask for it: the items are of the hierarchy, and with those of the
-- head they have no more rows beneath than the entry counts.
pub record BehindFits (table : Table) (cells : TreeCells) (e : Entry) (n : ℕ) : Type 0 where
  pub bodies : All (λ b. IsBodyOf table.hierarchy b.body) (map cells.block (cells_behind cells.block e.stamp n e.child))
  pub count : row_count (together (cells.block e.child).body (map cells.block (cells_behind cells.block e.stamp n e.child))) ≤ e.agg.count
