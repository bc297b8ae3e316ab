-- What becomes of the held cells by a step, in whatever order they are held.
use Rattle.std.specs.Prelude.{ℕ, ◌≡◌, false, Bool, IsOk, List, OnErr, OnOk, Option, Result}
use Rattle.core_steps.specs.{Places.{things, values}, Steps.Went}
use Rattle.dim_hierarchy.specs.Dimension.{Dimension}
use Rattle.turn_table.specs.Numbered.{numbers_of, value_of}
use Rattle.core_told.specs.volap_cell.specs.{Cells.CellValue, Setting.Setting, Values.ActorValue, World.World, declared.cell.Cell.Cell, declared.kind.Kind.Kind}
use Rattle.volap_turns.specs.Rows.{cells_for}

-- The step was made, and the cells stand in the order in which they were held; or where it found no memory, nothing has changed.
pub record IsMadeOver {T E : Type 0} (h : List Dimension) (kind : Kind) (Sees : Setting → World → ℕ → Type 0) (Tells : ActorValue → (was now : List (Option CellValue)) → Type 0) (may_fail : Bool) (HasRoom : Type 0) (row : List (Option ℕ)) (r : Result T E) (cells new : List (ℕ × Cell)) (a b : ActorValue) : Type 0 where
  pub numbers : numbers_of new ≡ numbers_of cells
  pub each : (k : ℕ) → value_of new k ≡ value_of (things row (cells_for new row)) k
  pub went : OnOk r (Went h kind Sees row (cells_for cells row) (cells_for new row) a b)
  pub told : OnOk r (Tells a (values (cells_for cells row)) (values (cells_for new row)))
  pub sure : may_fail ≡ false → IsOk r
  pub room : HasRoom → IsOk r
  pub refused : OnErr r ((new ≡ cells) × (b ≡ a))
