-- Rows that are carried: who carries each, and that it has what its way may need.
use Rattle.std.specs.Prelude.{ℕ, ◌≡◌, ◌≢◌, ◌==◌, ◌+◌, ◌*◌, ◌≤◌, true, false, List, Option, Some, None, length, if◌then◌else◌}
use Rattle.cell_stock.specs.declared.purse.Spare.{Spare}
use Rattle.shard_build.specs.shard_store.specs.{declared.gate.Phase.Phase, declared.gate.Phase.TheVariants.Gone}
use Rattle.shard_build.specs.tree_shape.specs.Shape.{Shape}
use Rattle.volap_cell.specs.{Errands.{RowWay, RowPlace, Outside, AtBlock, InLeaf, AtRest}, Setting.{Setting, actor_count}, Sums.sum_below}

-- 1 where an insert is in the tree of this gate
abbrev pub is_inside : ℕ → RowPlace → ℕ
is_inside c Outside = 0
is_inside c (AtBlock gate block) = if gate == c then 1 else 0
is_inside c (InLeaf gate) = if gate == c then 1 else 0
is_inside c AtRest = 0

abbrev pub inside_of : ℕ → Option RowWay → ℕ
inside_of c None = 0
inside_of c (Some w) = is_inside c w.place

-- a row in the tree of a gate: the gate is that of the shard that has it
pub record IsIn (phases : ℕ → Option Phase) (gate : ℕ → ℕ) (shape : ℕ → Shape) (home : ℕ → ℕ) (w : RowWay) (c : ℕ) : Type 0 where
  pub stands : phases c ≢ Some Gone
  pub gate_is : gate (home w.row.no) ≡ c
  pub placed : (shape c).placed w.row.no ≡ true

-- An actor carries a row of a tree for each row that the tree's shape says is carried, at its block, and has a spare for each
-- level that the row may still go down, with the boxes for them. For a row that is to come in it has the boxes for all its spares,
-- once its purse was filled for that. A gate counts the inserts in its tree.
pub record Turning (s : Setting) (ways : ℕ → Option RowWay) (purses : ℕ → List Spare) (boxes : ℕ → ℕ) (phases : ℕ → Option Phase) (active : ℕ → ℕ) (gate : ℕ → ℕ) (shape : ℕ → Shape) (home : ℕ → ℕ) : Type 0 where
  pub one : (a b : ℕ) (w v : RowWay) → ways a ≡ Some w → ways b ≡ Some v → w.row.no ≡ v.row.no → a ≡ b
  pub carrying : (a c y : ℕ) (w : RowWay) → ways a ≡ Some w → w.place ≡ AtBlock c y → IsIn phases gate shape home w c × ((shape c).carried w.row.no ≡ true) × ((shape c).at w.row.no ≡ y)
  pub in_leaf : (a c : ℕ) (w : RowWay) → ways a ≡ Some w → w.place ≡ InLeaf c → IsIn phases gate shape home w c × ((shape c).carried w.row.no ≡ false)
  pub carried : (c r : ℕ) → phases c ≢ None → (shape c).placed r ≡ true → (shape c).carried r ≡ true
      → (a : ℕ) × (y : ℕ) × (w : RowWay) × (ways a ≡ Some w) × (w.row.no ≡ r) × (w.place ≡ AtBlock c y)
  pub enough : (a c y : ℕ) (w : RowWay) → ways a ≡ Some w → w.place ≡ AtBlock c y → ((shape c).level y ≤ length (purses a)) × (2 * length (purses a) + 1 ≤ boxes a)
  pub boxed : (a : ℕ) (w : RowWay) → ways a ≡ Some w → w.filled ≡ true → 2 * length (purses a) + 1 ≤ boxes a
  pub counts : (c : ℕ) → active c ≡ sum_below (actor_count s) (λ a. inside_of c (ways a))
