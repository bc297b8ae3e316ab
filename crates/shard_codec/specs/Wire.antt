-- The transfer text of a list of rows. A number has its highest byte first.
use Rattle.std.specs.{Int.{w32, w64, to_be_bytes, cast_unsigned}, List.flat_map, Prelude.{ℕ, List, ◌∷◌, ◌++◌, length, take, codes}}
use Rattle.dim_hierarchy.specs.declared.row.Row.{Row}

-- what a text begins with
abbrev pub mark : List ℕ
mark = codes "VOLAPTR1"

-- the mark, the number of dimensions in one byte and the number of rows in eight
unfoldable pub head_wire : ℕ → ℕ → List ℕ
head_wire dims count = mark ++ (dims ∷ to_be_bytes w64 count)

-- the ids of concepts, four bytes each

unfoldable pub id_wire : ℕ → List ℕ
id_wire id = to_be_bytes w32 id

abbrev pub ids_wire : List ℕ → List ℕ
ids_wire ids = flat_map id_wire ids

-- a row: its number, a concept for each dimension, and its measure in two's complement
unfoldable pub row_wire : ℕ → Row → List ℕ
row_wire dims row = to_be_bytes w64 row.no ++ (ids_wire (take dims row.at.at) ++ to_be_bytes w64 (cast_unsigned w64 row.measures))

-- rows over so many dimensions
abbrev pub wire : ℕ → List Row → List ℕ
wire dims rows = head_wire dims (length rows) ++ flat_map (row_wire dims) rows
