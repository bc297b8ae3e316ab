-- What the steps of building leave: leaves of rows, and directories over blocks, each in the cell of a spare.
use Rattle.std.specs.{Cmp.Lexicographic.slice_cmp, List.AllZip, Ordering.{nat_cmp, ordering_then, is_lt}, Prelude.{ℕ, ◌≡◌, ◌+◌, ◌-◌, ◌*◌, ◌^◌, ◌<◌, ◌≤◌, Bool, true, false, min, None, List, [], ◌∷◌, ◌++◌, length, map, reverse, take, drop, sum_by, All, Contains}}
use Rattle.dim_hierarchy.specs.{Dimension.Dimension, declared.row.Row.Row}
use Rattle.dc_node.specs.{Block.{is_leaf, size, IsBodyOf}, Summary.row_count, declared.block.Block.Block, declared.block.Body.Body, declared.block.Body.TheVariants.{Rows, Entries}, declared.entry.Entry.Entry}
use Rattle.cell_stock.specs.{Stock.PurseValue, declared.purse.Spare.Spare}
use Rattle.tree_shape.specs.link_descent.specs.{Descend.IsEntryOf, declared.entered.Fresh.Fresh}
use Rattle.shard_plan.specs.Building.{leaf_rows, parent_nodes}
use Rattle.list_words.specs.Counts.{times}
use Rattle.tree_shape.specs.{Forest.{AreInCells, AreRowsOf, IsForest, all_entries, all_rows, filled_cells}, Shape.{Table, numbers}}
use Rattle.shard_build.specs.Sizes.{put_by, sizes_of}

-- the blocks so far, and for how many leaves and directories there are boxes
pub record SiteValue : Type 0 where
  pub blocks : List Fresh
  pub leaves : ℕ
  pub directories : ℕ

-- a leaf and a directory in the cell of a spare, with its stamp

abbrev pub leaf_in : Spare → List Row → Fresh
leaf_in spare rows = record { cell = spare.cell; block = record { stamp = spare.stamp; right = None; body = Rows (record { items = rows }) } }

abbrev pub directory_in : Spare → List Entry → Fresh
directory_in spare entries = record { cell = spare.cell; block = record { stamp = spare.stamp; right = None; body = Entries (record { items = entries }) } }

-- the spare that such a block took
abbrev pub spare_of : Fresh → Spare
spare_of f = record { cell = f.cell; stamp = f.block.stamp }

-- the blocks, one after the other, took the last spare of the purse
pub record UsesUp (blocks : List Fresh) (before now : PurseValue) : Type 0 where
  pub spares : before.spares ≡ now.spares ++ reverse (map spare_of blocks)
  pub room : now.room ≡ before.room + length blocks

-- the spare of the block that an entry leads to
abbrev pub spare_to : Entry → Spare
spare_to e = record { cell = e.child; stamp = e.stamp }

-- each entry leads to one of the blocks
abbrev pub AreLed : List Fresh → Type 0
AreLed blocks = All (λ e. Contains (map spare_of blocks) (spare_to e)) (all_entries blocks)

-- how many items are put to a block: rows to a leaf, blocks to a parent
abbrev pub most : Body → ℕ
most (Rows rows) = leaf_rows
most (Entries entries) = parent_nodes

abbrev pub AreSmall : List Fresh → Type 0
AreSmall blocks = All (λ f. size f.block.body ≤ most f.block.body) blocks

-- no block has a link
abbrev pub AreAlone : List Fresh → Type 0
AreAlone blocks = All (λ f. f.block.right ≡ None) blocks

-- the first n blocks are leaves, and the others directories
pub record AreLeavesFirst (n : ℕ) (blocks : List Fresh) : Type 0 where
  pub within : n ≤ length blocks
  pub leaves : All (λ f. is_leaf f.block.body ≡ true) (take n blocks)
  pub directories : All (λ f. is_leaf f.block.body ≡ false) (drop n blocks)

-- Leaves.

-- leaves of these rows, in order
pub record AreLeavesOf (rows : List Row) (blocks : List Fresh) : Type 0 where
  pub kind : All (λ f. is_leaf f.block.body ≡ true) blocks
  pub small : AreSmall blocks
  pub alone : AreAlone blocks
  pub rows_are : all_rows blocks ≡ rows

-- by coordinate, dimension by dimension, then by number
abbrev pub comes_before : Row → Row → Bool
comes_before a b = is_lt (ordering_then (slice_cmp nat_cmp a.at.at b.at.at) (nat_cmp a.no b.no))

-- the first rows, up to a place, were put to leaves, and as many as there may be to each but for the last
pub record AddsLeaves (rows : List Row) (at : ℕ) (blocks : List Fresh) (purse purse_now : PurseValue) : Type 0 where
  pub leaves : AreLeavesOf (take at rows) blocks
  pub place : at ≡ min (leaf_rows * length blocks) (length rows)
  pub sizes : sizes_of blocks ≡ put_by leaf_rows (length blocks) (length rows)
  pub uses : UsesUp blocks purse purse_now

-- Directories.

-- how many rows are beneath a block
abbrev pub rows_under : Fresh → ℕ
rows_under f = row_count f.block.body

-- a block of the hierarchy, with no more rows beneath than can be counted
pub record IsCountable (h : List Dimension) (f : Fresh) : Type 0 where
  pub body : IsBodyOf h f.block.body
  pub few : rows_under f < 2 ^ 63

abbrev pub IsEntryTo : List Dimension → Fresh → Entry → Type 0
IsEntryTo h f e = IsEntryOf h f.cell f.block e

-- a directory over these blocks was put behind the others
pub record AddsDirectory (h : List Dimension) (children : List Fresh) (spare : Spare) (before now : List Fresh) : Type 0 where
  pub entries : List Entry
  pub are : AllZip (IsEntryTo h) children entries
  pub added : now ≡ before ++ directory_in spare entries ∷ []

-- directories with an entry to each of these blocks, in order
pub record AreParentsOf (h : List Dimension) (children parents : List Fresh) : Type 0 where
  pub kind : All (λ f. is_leaf f.block.body ≡ false) parents
  pub some : All (λ f. 1 ≤ size f.block.body) parents
  pub small : AreSmall parents
  pub alone : AreAlone parents
  pub entries : AllZip (IsEntryTo h) children (all_entries parents)

-- directories were put over the blocks from one place to another, and over as many blocks as there may be each but for the
-- last
pub record AddsLevel (h : List Dimension) (from at : ℕ) (before now : SiteValue) (purse purse_now : PurseValue) : Type 0 where
  pub parents : List Fresh
  pub are : AreParentsOf h (take (at - from) (drop from before.blocks)) parents
  pub place : at ≡ min (from + parent_nodes * length parents) (length before.blocks)
  pub last : from + parent_nodes * length parents < length before.blocks + parent_nodes
  pub sizes : sizes_of parents ≡ put_by parent_nodes (length parents) (length before.blocks - from)
  pub added : now.blocks ≡ before.blocks ++ parents
  pub directories : now.directories + length parents ≡ before.directories
  pub uses : UsesUp parents purse purse_now

-- Levels.

-- The blocks are trees of these rows, side by side, once they stand in cells of their own. The roots are the blocks from a
-- place on, and are on level l.
pub record IsGrown (h : List Dimension) (rows : List Row) (blocks : List Fresh) (from l : ℕ) : Type 0 where
  pub within : from < length blocks
  pub countable : All (IsCountable h) (drop from blocks)
  pub beneath : sum_by rows_under (drop from blocks) ≡ length rows
  pub small : AreSmall blocks
  pub alone : AreAlone blocks
  pub rows_are : all_rows blocks ≡ rows
  pub led : AreLed blocks
  pub forest : (table : Table) (block : ℕ → Block) → table.hierarchy ≡ h → AreRowsOf table rows → AreInCells block blocks → ((y : ℕ) → times y (filled_cells blocks) ≤ 1)
      → IsForest table block l (filled_cells (drop from blocks)) (filled_cells blocks) (numbers rows)
