-- The items of a block.
use Rattle.std.specs.Prelude.{ℕ, ◌+◌, ◌==◌, Bool, true, false, List, [], ◌++◌, length, take, drop, All}
use Rattle.dim_hierarchy.specs.{Dimension.Dimension, Rows.IsRowOf, declared.row.Row.Row}
use Rattle.describing_set.specs.Sets.{IsDescSetOf}
use Rattle.dc_node.specs.{Limits.{most_of_leaf, most_of_directory}, declared.block.Block.Block, declared.block.Body.Body, declared.block.Body.TheVariants.{Rows, Entries}, declared.entry.Entry.Entry}

-- the rows of a leaf, and the entries of a directory; a block of the other kind has none

abbrev pub rows_in : Body → List Row
rows_in (Rows rows) = rows.items
rows_in (Entries entries) = []

abbrev pub entries_in : Body → List Entry
entries_in (Rows rows) = []
entries_in (Entries entries) = entries.items

abbrev pub is_leaf : Body → Bool
is_leaf (Rows rows) = true
is_leaf (Entries entries) = false

-- how many items there are, and whether there is no room for one more

abbrev pub size : Body → ℕ
size (Rows rows) = length rows.items
size (Entries entries) = length entries.items

abbrev pub is_full : Body → Bool
is_full (Rows rows) = length rows.items == most_of_leaf
is_full (Entries entries) = length entries.items == most_of_directory

-- the items are of this hierarchy
abbrev pub IsBodyOf : List Dimension → Body → Type 0
IsBodyOf h (Rows rows) = All (IsRowOf h) rows.items
IsBodyOf h (Entries entries) = All (λ e. IsDescSetOf h e.set) entries.items

-- a block with these rows, or these entries, in place of its items

abbrev pub with_rows : Block → List Row → Block
with_rows block rows = record { stamp = block.stamp; right = block.right; body = Rows (record { items = rows }) }

abbrev pub with_entries : Block → List Entry → Block
with_entries block entries = record { stamp = block.stamp; right = block.right; body = Entries (record { items = entries }) }

-- the entry at a place replaced by others
abbrev pub replaced : List Entry → ℕ → List Entry → List Entry
replaced entries place others = take place entries ++ others ++ drop (place + 1) entries
