-- Places in a column of concepts.
use Rattle.std.specs.Prelude.{ℕ, ◌≡◌, ◌<◌, ◌≤◌, nat_le, Bool, List, length, take, slice_index, All}
use Rattle.dim_hierarchy.specs.Concept.{number_of}

-- how many a column has: one for each row of a full leaf
abbrev pub column_places : ℕ
column_places = 32

-- some of them, in front of an array
pub record ArePlaces (count : ℕ) (all : List ℕ) : Type 0 where
  pub few : count ≤ column_places
  pub length : length all ≡ column_places
  pub within : All (λ place. place < column_places) (take count all)

-- the concept at a place has the greatest mark, that of those that are picked; the marks are those of a level by number
abbrev pub is_marked : List ℕ → List ℕ → ℕ → Bool
is_marked column marks place = nat_le 2 (slice_index marks (number_of (slice_index column place)))
