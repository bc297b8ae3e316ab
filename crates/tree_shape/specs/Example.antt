-- A worked example: a tree that begins as an empty leaf and takes 33 rows. The 33rd finds the root's head full; where it
-- has no good cut, as where all rows are of one place, the root's group has two blocks from then on, and a query that
-- noted the root before is answered after it; HeadCuts goes on from there. Where it has a good cut, Cities goes on.
use Rattle.std.specs.Prelude.{ℕ, zero, suc, ◌≡◌, ◌≢◌, ◌+◌, ◌<◌, ◌≤◌, Bool, true, false, cond, eqb, Some, None, List, [], ◌∷◌, ◌++◌, take, drop}
use Rattle.dim_hierarchy.specs.{Rows.IsRowOf, declared.filter.Pick.Pick, declared.row.Coord.Coord, declared.row.Row.Row}
use Rattle.measure_agg.specs.{Aggregate.{Aggregate, agg}, Joining.{join, one}}
use Rattle.describing_set.specs.{DescSet.IsSetOf, Sets.{IsDescSetOf, GrowsBy}, declared.set.DescSet.DescSet}
use Rattle.link_descent.specs.shard_store.specs.{Gate.{root_entry, IsQueueOf}, declared.gate.Gate.Gate}
use Rattle.link_descent.specs.{Divide.HasNoCut, Visit.is_noted}
use Rattle.list_words.specs.Counts.{times}
use Rattle.tree_shape.specs.{Queries.fits, Shape.{Table, TreeCells, Shape}, Steps.IsAsked, Trees.IsTree}
use Rattle.dc_node.specs.{declared.block.Block.Block, declared.block.Body.TheVariants.Rows}
use Rattle.cell_stock.specs.declared.purse.Spare.{Spare}

-- a gate with its cell, the root's cell and stamp, a spare, the place of each row, and the set of the first rows for each
-- number of them
pub record Sample : Type 0 where
  pub gate : Gate
  pub gate_cell : ℕ
  pub root : ℕ
  pub stamp : ℕ
  pub spare : Spare
  pub place : ℕ → Coord
  pub set : ℕ → DescSet

-- rows 0, 1 .. are of these places; the sets are those that growing from the empty one by them gives
pub record IsSample (table : Table) (x : Sample) : Type 0 where
  pub numbered : (r : ℕ) → ((table.row r).no ≡ r) × ((table.row r).at ≡ x.place r) × IsRowOf table.hierarchy (table.row r)
  pub empty : IsSetOf table.hierarchy [] (x.set 0)
  pub grown : (n : ℕ) → GrowsBy table.hierarchy (x.place n) (x.set n) (x.set (n + 1))
  pub valid : (n : ℕ) → IsDescSetOf table.hierarchy (x.set n)
  pub root : x.root ≢ x.gate_cell
  pub spare_gate : x.spare.cell ≢ x.gate_cell
  pub spare_root : x.spare.cell ≢ x.root
  pub spare_stamp : x.stamp ≢ x.spare.stamp

-- the first n rows, and their aggregate as the gate comes to have it

abbrev pub first_rows : Table → ℕ → List Row
first_rows table zero = []
first_rows table (suc n) = first_rows table n ++ table.row n ∷ []

abbrev pub first_agg : Table → ℕ → Aggregate
first_agg table zero = agg []
first_agg table (suc n) = join (first_agg table n) (one (table.row n).measures)

abbrev pub leaf_of : ℕ → List Row → Block
leaf_of stamp rows = record { stamp = stamp; right = None; body = Rows (record { items = rows }) }

abbrev pub gate_after : Table → Sample → ℕ → Gate
gate_after table x n = record x.gate { root = x.root; stamp = x.stamp; height = 1; agg = first_agg table n; set = x.set n }

-- the gate tells of n rows, and m of them are in the root
abbrev pub cells_at : Table → Sample → ℕ → ℕ → TreeCells
cells_at table x n m = record {
  gate_cell = x.gate_cell;
  gate = gate_after table x n;
  block = λ y. cond (eqb y x.root) (leaf_of x.stamp (first_rows table m)) (leaf_of x.stamp []);
}

-- the root's two blocks after row m came in: the new block has 16 rows, and these are in the head
abbrev pub halved_cells : Table → Sample → ℕ → List Row → TreeCells
halved_cells table x m head = record {
  gate_cell = x.gate_cell;
  gate = gate_after table x (suc m);
  block = λ y. cond (eqb y x.root) (record { stamp = x.spare.stamp; right = Some x.spare.cell; body = Rows (record { items = head }) })
      (cond (eqb y x.spare.cell) (leaf_of x.stamp (take 16 (first_rows table m))) (leaf_of x.stamp []));
}

-- a tree of the first n rows, with no row on its way
pub record HoldsFirst (table : Table) (cells : TreeCells) (n : ℕ) : Type 0 where
  pub shape : Shape
  pub tree : IsTree table cells shape
  pub known : (r : ℕ) → shape.placed r ≡ true → r < n
  pub there : (r : ℕ) → r < n → shape.placed r ≡ true
  pub settled : (r : ℕ) → shape.placed r ≡ true → shape.carried r ≡ false

-- A query begins when the 32 rows are in the tree. At the gate it notes the root; the queue is empty, and row m, which
-- comes later, is none that it has to hold.
pub record AsksAtGate (table : Table) (x : Sample) (m : ℕ) (must : ℕ → Bool) (f : List Pick) : Type 0 where
  pub asked : IsAsked table f
  pub queue : IsQueueOf table.hierarchy x.gate.queue
  pub empty : x.gate.queue.rows ≡ []
  pub noted : is_noted table.hierarchy f (root_entry (gate_after table x m)) ≡ true
  pub later : must m ≡ false

-- After row m came it visits the root, and then the block to the right, and has what it must have.
pub record IsAnswered (table : Table) (m : ℕ) (must : ℕ → Bool) (f : List Pick) : Type 0 where
  pub counted : List ℕ
  pub once : (r : ℕ) → times r counted ≤ 1
  pub fitting : (r : ℕ) → 1 ≤ times r counted → fits table f r ≡ true
  pub whole : (r : ℕ) → r < m → must r ≡ true → fits table f r ≡ true → times r counted ≡ 1

-- the first rows of the sample, in one leaf, have no good cut
abbrev pub IsUncut : Table → ℕ → Type 0
IsUncut table m = HasNoCut table.hierarchy (Rows (record { items = first_rows table m }))

-- the tree after each of the first 32 rows, and after the 33rd where there is no good cut, and the query's answer
pub record Works (table : Table) (x : Sample) : Type 0 where
  pub filled : (n : ℕ) → n ≤ 32 → HoldsFirst table (cells_at table x n n) n
  pub one_place : ((r : ℕ) → x.place r ≡ x.place 0) → (m : ℕ) → IsUncut table m
  pub halved : (m : ℕ) → m ≡ 32 → IsUncut table m → HoldsFirst table (halved_cells table x m (drop 16 (first_rows table m) ++ table.row m ∷ [])) (suc m)
  pub answered : (m : ℕ) → m ≡ 32 → IsUncut table m → (must : ℕ → Bool) (f : List Pick) → AsksAtGate table x m must f → IsAnswered table m must f

abbrev pub ExampleLaw : Type 0
ExampleLaw = (table : Table) (x : Sample) → IsSample table x → Works table x
