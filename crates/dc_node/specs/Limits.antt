-- How many items a block has at most.
use Rattle.std.specs.Prelude.{ℕ}
use Rattle.dim_hierarchy.specs.Column.{column_places}

-- the rows of a leaf, one for each place of a column
abbrev pub most_of_leaf : ℕ
most_of_leaf = column_places

-- the entries of a directory
abbrev pub most_of_directory : ℕ
most_of_directory = 16
