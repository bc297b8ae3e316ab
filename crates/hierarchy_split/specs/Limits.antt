-- How many items are divided at most.
use Rattle.std.specs.Prelude.{ℕ}

-- as many as a full block has
abbrev pub most_items : ℕ
most_items = 32

-- the concepts of that many items in a dimension, where a describing set has at most 6
abbrev pub most_of_items : ℕ
most_of_items = 192
