-- The worked example with real values: rows of Berlin and then of Munich fill the root, a leaf, and row 32, of Berlin,
-- finds it full. With 31 of Berlin there is no good cut. With 16 of each there is one: row 32 comes in at a new root, goes
-- down to the leaf of Berlin and is put there.
use Rattle.std.specs.{List.range_with_len, Prelude.{ℕ, ◌≡◌, Bool, true, cond, eqb, leb, ltb, replicate, ℤ, pos, Some, None, List, [], ◌∷◌, ◌++◌, map}}
use Rattle.dim_hierarchy.specs.{Concept.id_of, Dimension.{Dimension, new_dimension, with_concept}, declared.filter.Pick.Pick, declared.filter.Pick.TheVariants.Ids, declared.row.Coord.Coord, declared.row.Row.Row}
use Rattle.measure_agg.specs.{Aggregate.agg, Joining.{join, one}}
use Rattle.describing_set.specs.{Part.part, declared.set.DescSet.DescSet}
use Rattle.dc_node.specs.{declared.block.Body.TheVariants.{Rows, Entries}, declared.entry.Entry.Entry}
use Rattle.cell_stock.specs.declared.purse.Spare.{Spare}
use Rattle.link_descent.specs.shard_store.specs.{declared.gate.Gate.Gate, declared.gate.Phase.TheVariants.Open}
use Rattle.tree_shape.specs.{Collecting.AfterCollecting, Example.{Sample, IsSample, HoldsFirst, IsUncut, AsksAtGate, IsAnswered, cells_at, first_agg, gate_after, leaf_of}, Shape.{Table, TreeCells, Shape, numbers}, Trees.IsTree}

-- a dimension with two places

abbrev pub berlin : ℕ
berlin = id_of 1 0

abbrev pub munich : ℕ
munich = id_of 1 1

abbrev pub cities : List Dimension
cities = with_concept (with_concept (new_dimension (99 ∷ []) 1) (98 ∷ []) 0) (109 ∷ []) 0 ∷ []

abbrev pub coord_of : ℕ → Coord
coord_of id = record { at = id ∷ replicate 7 0 }

abbrev pub set_of : List ℕ → DescSet
set_of ids = record { parts = record { items = part 1 ids ∷ [] } }

-- The city of each row, where rows are of Munich from one on and below 32; and the cities of so many first rows.

abbrev pub city : ℕ → ℕ → ℕ
city turn r = cond (leb turn r) (cond (leb 32 r) berlin munich) berlin

abbrev pub cities_of : ℕ → ℕ → List ℕ
cities_of turn n = cond (eqb n 0) [] (cond (leb n turn) (berlin ∷ []) (berlin ∷ munich ∷ []))

abbrev pub table_with : ℕ → ℤ → Table
table_with turn measures = record { hierarchy = cities; row = λ r. record { no = r; at = coord_of (city turn r); measures = cond (eqb r 32) measures (pos 1) } }

abbrev pub sample : ℕ → Sample
sample turn = record {
  gate = record {
    shard = 0;
    phase = Open;
    root = 1;
    stamp = 0;
    height = 1;
    agg = agg [];
    set = set_of [];
    active = 0;
    pins = 0;
    queue = record { rows = []; agg = agg []; set = set_of [] };
    gone = [];
  };
  gate_cell = 0;
  root = 1;
  stamp = 0;
  spare = record { cell = 2; stamp = 1 };
  place = λ r. coord_of (city turn r);
  set = λ n. set_of (cities_of turn n);
}

-- a query for Munich has to hold what began before row 32

abbrev pub for_munich : List Pick
for_munich = Ids (munich ∷ []) ∷ []

abbrev pub must_hold : ℕ → Bool
must_hold r = ltb r 32

-- The leaf without a good cut meets what Example asks for.
pub record IsHalvedExample (table : Table) (x : Sample) : Type 0 where
  pub places : IsSample table x
  pub uncut : IsUncut table 32
  pub asks : AsksAtGate table x 32 must_hold for_munich

-- Tables that differ at number 32 alone. In the earlier one the row hasn't begun, and some other row stands there.

abbrev pub earlier : Table
earlier = table_with 16 (pos 0)

abbrev pub later : Table
later = table_with 16 (pos 7)

abbrev pub rows_from : ℕ → ℕ → List Row
rows_from first n = map earlier.row (range_with_len first n)

-- the full leaf is the root
abbrev pub full : TreeCells
full = cells_at earlier (sample 16) 32 32

-- the spare of the new root
abbrev pub top : Spare
top = record { cell = 3; stamp = 2 }

-- the new root's entries, the left one without row 32 and with it
abbrev pub left_entry : Entry
left_entry = record { child = 1; stamp = 1; agg = agg (rows_from 0 16); set = set_of (berlin ∷ []) }

abbrev pub left_with : Entry
left_with = record left_entry { agg = join (agg (rows_from 0 16)) (one (later.row 32).measures) }

abbrev pub right_entry : Entry
right_entry = record { child = 2; stamp = 0; agg = agg (rows_from 16 16); set = set_of (munich ∷ []) }

abbrev pub gate_now : Gate
gate_now = record (gate_after earlier (sample 16) 32) {
  root = 3;
  stamp = 2;
  height = 2;
  agg = join (first_agg earlier 32) (one (later.row 32).measures);
  set = set_of (cities_of 16 33);
}

-- the cut leaf under the new root, with these rows on the left and this entry for them
abbrev pub cut_cells : List Row → Entry → TreeCells
cut_cells rows left = record {
  gate_cell = 0;
  gate = gate_now;
  block = λ y.
      cond (eqb y 1) (record { stamp = 1; right = Some 2; body = Rows (record { items = rows }) })
      (cond (eqb y 2) (leaf_of 0 (rows_from 16 16))
      (cond (eqb y 3) (record { stamp = 2; right = None; body = Entries (record { items = left ∷ right_entry ∷ [] }) }) (leaf_of 0 [])));
}

-- and at the end

abbrev pub left_rows : List Row
left_rows = rows_from 0 16 ++ later.row 32 ∷ []

abbrev pub settled : TreeCells
settled = cut_cells left_rows left_with

-- a tree in which row 32 is carried at a cell
pub record CarriesLast (cells : TreeCells) (cell : ℕ) : Type 0 where
  pub shape : Shape
  pub tree : IsTree later cells shape
  pub placed : shape.placed 32 ≡ true
  pub carried : shape.carried 32 ≡ true
  pub at : shape.at 32 ≡ cell

-- Each step by its law. A query for Munich begins before row 32 does, and is answered at the end; and at the end the blocks
-- are read one by one: the new root, Munich and Berlin.
pub record CitiesWork : Type 0 where
  pub filled : HoldsFirst earlier full 32
  pub begun : HoldsFirst later full 32
  pub cut : CarriesLast (cut_cells (rows_from 0 16) left_entry) 3
  pub down : CarriesLast (cut_cells (rows_from 0 16) left_with) 1
  pub put : HoldsFirst later settled 33
  pub answered : IsAnswered later 32 must_hold for_munich
  pub collected : AfterCollecting later settled put.shape (3 ∷ 2 ∷ 1 ∷ []) (numbers (rows_from 16 16) ++ numbers left_rows)

abbrev pub CitiesLaw : Type 0
CitiesLaw = IsHalvedExample (table_with 31 (pos 0)) (sample 31) × CitiesWork
