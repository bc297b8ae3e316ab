-- Rows that are kept by columns.
use Rattle.std.specs.{List.{slice_index_or, range_with_len}, Prelude.{ℕ, ◌≡◌, ◌≢◌, ◌<◌, pos, List, [], ◌∷◌, map, length, slice_index}}
use Rattle.dim_hierarchy.specs.{declared.row.Coord.Coord, declared.row.Row.Row}
use Rattle.dc_node.specs.declared.columns.Columns.{Columns}

-- the concept at a place of the column of a dimension
abbrev pub id_at : List (List ℕ) → ℕ → ℕ → ℕ
id_at columns dim place = slice_index (slice_index_or columns dim []) place

-- the coordinate and the row at a place

abbrev pub coord_at : List (List ℕ) → ℕ → Coord
coord_at columns place = record {
  at = id_at columns 0 place ∷ id_at columns 1 place ∷ id_at columns 2 place ∷ id_at columns 3 place ∷ id_at columns 4 place ∷ id_at columns 5 place ∷ id_at columns 6 place ∷ id_at columns 7 place ∷ [];
}

abbrev pub row_at : Columns → ℕ → Row
row_at c place = record { no = slice_index c.numbers place; at = coord_at c.concepts place; measures = slice_index_or c.measures place (pos 0) }

-- the rows at the first so many places
abbrev pub rows_in_columns : Columns → ℕ → List Row
rows_in_columns c count = map (row_at c) (range_with_len 0 count)

-- a coordinate was written at a place
pub record IsPut (old new : List (List ℕ)) (place : ℕ) (ids : List ℕ) : Type 0 where
  pub eight : length ids ≡ 8
  pub here : (dim : ℕ) → dim < 8 → id_at new dim place ≡ slice_index ids dim
  pub others : (dim other : ℕ) → other ≢ place → id_at new dim other ≡ id_at old dim other
