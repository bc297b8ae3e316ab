-- What the steps of rows to a head that may be full are, where their cells are, and what they ask.
use Rattle.std.specs.Prelude.{ℕ, List, [], ◌∷◌, Option, Some, None}
use Rattle.core_steps.specs.declared.rows.RowStep.{RowStep}
use Rattle.core_steps.specs.declared.rows.RowStep.TheVariants as row
use Rattle.core_admin.specs.core_tree.specs.Descent.{CanDown, CanEnterTree, two_if}
use Rattle.dim_hierarchy.specs.Dimension.{Dimension}
use Rattle.core_shard.specs.volap_cell.specs.{Cells.CellValue, Values.ActorValue, World.held_if, declared.kind.Kind.Kind}
use Rattle.core_shard.specs.volap_cell.specs.declared.kind.Kind.TheVariants as kind

abbrev pub row_kind : RowStep → Kind
row_kind (row.Down parent place child first second fresh) = kind.Down
row_kind (row.EnterTree map gate root first second fresh top) = kind.EnterTree

abbrev pub row_places : RowStep → List (Option ℕ)
row_places (row.Down parent place child first second fresh) = Some parent ∷ Some child ∷ first ∷ second ∷ fresh ∷ None ∷ None ∷ []
row_places (row.EnterTree map gate root first second fresh top) = Some map ∷ Some gate ∷ Some root ∷ first ∷ second ∷ fresh ∷ top ∷ []

-- the number of a cell that is held at times; where it isn't held, any number serves
abbrev pub number_of : Option ℕ → ℕ
number_of None = 0
number_of (Some y) = y

abbrev pub row_asks : RowStep → List Dimension → List (Option CellValue) → ActorValue → Type 0
row_asks (row.Down parent_at place child_at first_at second_at fresh_at) h (Some parent ∷ Some child ∷ first ∷ second ∷ fresh ∷ _) a =
    CanDown h parent_at parent place child_at child (two_if (number_of first_at) first (number_of second_at) second) (held_if (number_of fresh_at) fresh) a
row_asks (row.EnterTree map_at gate_at root_at first_at second_at fresh_at top_at) h (Some map ∷ Some gate ∷ Some root ∷ first ∷ second ∷ fresh ∷ top ∷ _) a =
    CanEnterTree h map_at map gate_at gate root_at root (two_if (number_of first_at) first (number_of second_at) second) (two_if (number_of fresh_at) fresh (number_of top_at) top) a
row_asks step h held a = ⊥
