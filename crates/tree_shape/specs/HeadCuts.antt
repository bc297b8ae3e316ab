-- The worked example of a head cut: 33 rows of Berlin fill the root, a leaf, and halve it, and rows of Munich fill its head
-- again. Row 48 finds the head full and one block behind it. The rows of Munich stay in the head; those of Berlin go to a
-- new block, which has that one behind it; and the row comes in at a new root.
use Rattle.std.specs.{List.range_with_len, Prelude.{ℕ, Bool, cond, eqb, leb, ltb, pos, Some, None, List, [], ◌∷◌, ◌++◌, map}}
use Rattle.dim_hierarchy.specs.{declared.filter.Pick.Pick, declared.filter.Pick.TheVariants.Ids, declared.row.Row.Row}
use Rattle.measure_agg.specs.Aggregate.{agg}
use Rattle.dc_node.specs.{declared.block.Body.TheVariants.{Rows, Entries}, declared.entry.Entry.Entry}
use Rattle.cell_stock.specs.declared.purse.Spare.{Spare}
use Rattle.tree_shape.specs.{Cities.{berlin, munich, cities, coord_of, set_of, sample}, Example.{Sample, HoldsFirst, IsAnswered, gate_after, leaf_of}, Shape.{Table, TreeCells}, Steps.AfterStep}

-- the city of each row: Munich from 33 on
abbrev pub town : ℕ → ℕ
town r = cond (leb 33 r) munich berlin

abbrev pub towns : Table
towns = record { hierarchy = cities; row = λ r. record { no = r; at = coord_of (town r); measures = pos 1 } }

abbrev pub town_sample : Sample
town_sample = record (sample 33) { place = λ r. coord_of (town r) }

abbrev pub town_rows : ℕ → ℕ → List Row
town_rows first n = map towns.row (range_with_len first n)

-- after so many rows the root's group has two blocks: these rows are in the head, and the first 16 behind it
abbrev pub two_blocks : ℕ → List Row → TreeCells
two_blocks n head = record {
  gate_cell = 0;
  gate = gate_after towns town_sample n;
  block = λ y. cond (eqb y 1) (record { stamp = 1; right = Some 2; body = Rows (record { items = head }) }) (cond (eqb y 2) (leaf_of 0 (town_rows 0 16)) (leaf_of 0 []));
}

-- the spares of the new block and of the new root

abbrev pub new_spare : Spare
new_spare = record { cell = 3; stamp = 2 }

abbrev pub top_spare : Spare
top_spare = record { cell = 4; stamp = 3 }

-- the new root's entries: the head alone, and the new block with the one behind it

abbrev pub munich_entry : Entry
munich_entry = record { child = 1; stamp = 2; agg = agg (town_rows 33 15); set = set_of (munich ∷ []) }

abbrev pub berlin_entry : Entry
berlin_entry = record { child = 3; stamp = 0; agg = agg (town_rows 16 17 ++ town_rows 0 16); set = set_of (berlin ∷ []) }

-- the cells after the head cut
abbrev pub cut_group : TreeCells
cut_group = record {
  gate_cell = 0;
  gate = record (gate_after towns town_sample 49) { root = 4; stamp = 3; height = 2 };
  block = λ y.
      cond (eqb y 1) (record { stamp = 2; right = Some 3; body = Rows (record { items = town_rows 33 15 }) })
      (cond (eqb y 3) (record { stamp = 1; right = Some 2; body = Rows (record { items = town_rows 16 17 }) })
      (cond (eqb y 2) (leaf_of 0 (town_rows 0 16))
      (cond (eqb y 4) (record { stamp = 3; right = None; body = Entries (record { items = munich_entry ∷ berlin_entry ∷ [] }) }) (leaf_of 0 []))));
}

-- a query for Berlin has to hold what began before row 48

abbrev pub for_berlin : List Pick
for_berlin = Ids (berlin ∷ []) ∷ []

abbrev pub before_last : ℕ → Bool
before_last r = ltb r 48

-- The step is one of those that the laws speak of, and a query that noted the root before it reads the head, the new block
-- and the one behind it.
pub record HeadCutWork : Type 0 where
  pub filled : HoldsFirst towns (two_blocks 48 (town_rows 16 32)) 48
  pub cut : AfterStep towns filled.shape 48 4 2 (two_blocks 48 (town_rows 16 32)) cut_group (top_spare ∷ new_spare ∷ []) []
  pub answered : IsAnswered towns 48 before_last for_berlin
