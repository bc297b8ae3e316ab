-- What a query does at a block.
use Rattle.std.specs.{Option.option_map_or, Prelude.{ℕ, ◌+◌, ◌==◌, ◌&&◌, not, Bool, if◌then◌else◌, List, [], ◌∷◌, map, filter}}
use Rattle.dim_hierarchy.specs.{Dimension.Dimension, Filter.matches, declared.filter.Pick.Pick, declared.row.Row.Row}
use Rattle.measure_agg.specs.Aggregate.{Aggregate, agg}
use Rattle.describing_set.specs.Filter.{is_inside, overlaps}
use Rattle.dc_node.specs.{Limits.most_of_directory, Summary.{joined, aggs}, declared.block.Block.Block, declared.block.Body.Body, declared.block.Body.TheVariants.{Rows, Entries}, declared.entry.Entry.Entry, declared.todo.Item.Item}

-- how many blocks a visit notes at most: the children of a directory, and the block to the right
abbrev pub most_noted : ℕ
most_noted = most_of_directory + 1

-- the rows that a filter matches
abbrev pub matching : List Dimension → List Pick → List Row → List Row
matching h f rows = filter (λ r. matches h f r.at) rows

-- An entry whose set is inside the filter is taken whole; one whose set else overlaps it is noted.

abbrev pub taken : List Dimension → List Pick → List Entry → List Entry
taken h f entries = filter (λ e. is_inside h e.set f) entries

abbrev pub is_noted : List Dimension → List Pick → Entry → Bool
is_noted h f e = overlaps h e.set f && not (is_inside h e.set f)

abbrev pub noted : List Dimension → List Pick → List Entry → List Item
noted h f entries = map (λ e. record { cell = e.child; stamp = e.stamp }) (filter (is_noted h f) entries)

-- what the items of a block add to the answer, and what is noted of them

abbrev pub counted : List Dimension → List Pick → Body → Aggregate
counted h f (Rows rows) = agg (matching h f rows.items)
counted h f (Entries entries) = joined (aggs (taken h f entries.items))

abbrev pub noted_in : List Dimension → List Pick → Body → List Item
noted_in h f (Rows rows) = []
noted_in h f (Entries entries) = noted h f entries.items

-- the block to the right, which belongs to the same walk unless this block ends it
abbrev pub noted_right : Block → ℕ → List Item
noted_right block stamp = if block.stamp == stamp then [] else option_map_or (λ cell. record { cell = cell; stamp = stamp } ∷ []) block.right []
