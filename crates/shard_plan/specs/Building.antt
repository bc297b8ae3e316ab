-- How large a tree is that is built of a list of rows, and how many cells a split needs.
use Rattle.std.specs.{Int.div_ceil, Prelude.{ℕ, zero, suc, ◌+◌, ◌*◌, max, List, [], ◌∷◌, length, sum, nat_le, if◌then◌else◌}}

-- how many rows are put to a leaf, and how many nodes to a parent; the last of a level can have fewer

abbrev pub leaf_rows : ℕ
leaf_rows = 24

abbrev pub parent_nodes : ℕ
parent_nodes = 12

-- how many leaves the rows are put to; there is one where there is no row
abbrev pub leaves_for : ℕ → ℕ
leaves_for n = max 1 (div_ceil n leaf_rows)

-- how many nodes each level has, from one of n nodes up to the root; there are at most `more` levels above it
abbrev pub levels_over : ℕ → ℕ → List ℕ
levels_over zero n = n ∷ []
levels_over (suc more) n = if nat_le n 1 then n ∷ [] else n ∷ levels_over more (div_ceil n parent_nodes)

-- the same of the tree of n rows, from its leaves up; a level has fewer nodes than the one below it
abbrev pub levels_of : ℕ → List ℕ
levels_of n = levels_over (leaves_for n) (leaves_for n)

-- how many blocks the tree has, and how many levels
abbrev pub cells_for : ℕ → ℕ
cells_for n = sum (levels_of n)

abbrev pub levels_for : ℕ → ℕ
levels_for n = length (levels_of n)

-- what a split of n rows needs: two gates, and two trees, each of which can have a block more in a level than its share
abbrev pub split_need : ℕ → ℕ
split_need n = 2 + cells_for n + 2 * levels_for n
