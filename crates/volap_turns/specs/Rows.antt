-- The cells that a seat holds, by the places of a step.
use Rattle.std.specs.Prelude.{ℕ, ◌≡◌, List, [], ◌∷◌, length, map, Option, Some, None}
use mathlib.Core.Option as maybe
use mathlib.Core.Option.{some, none}
use Rattle.core_steps.specs.{Places.{numbers, row_of}, declared.step.Places.Places}
use Rattle.list_words.specs.Counts.{Each}
use Rattle.turn_table.specs.Numbered.{value_of}
use Rattle.core_told.specs.volap_cell.specs.{State.AreDifferent, declared.cell.Cell.Cell}
use Rattle.volap_turns.specs.declared.spread.Row.{Row}

-- the seven places of a step
abbrev pub row_in : Row → List (Option ℕ)
row_in r = r.first ∷ r.second ∷ r.third ∷ r.fourth ∷ r.fifth ∷ r.sixth ∷ r.seventh ∷ []

-- a step's places are these seven
abbrev pub IsRow : List (Option ℕ) → Type 0
IsRow row = (p : Places) × (row_of p ≡ row)

abbrev pub maybe_cell : maybe.Option Cell → Option Cell
maybe_cell none = None
maybe_cell (some c) = Some c

-- the held cell at a place
abbrev pub cell_for : List (ℕ × Cell) → Option ℕ → Option Cell
cell_for held None = None
cell_for held (Some y) = maybe_cell (value_of held y)

abbrev pub cells_for : List (ℕ × Cell) → List (Option ℕ) → List (Option Cell)
cells_for held row = map (cell_for held) row

-- a cell of this number is held
abbrev pub IsThere : List (ℕ × Cell) → ℕ → Type 0
IsThere held y = (c : Cell) × (value_of held y ≡ some c)

-- the held cells are those at the places, in whatever order they are held
pub record AreAt (row : List (Option ℕ)) (held : List (ℕ × Cell)) : Type 0 where
  pub there : Each (IsThere held) (numbers row)
  pub apart : AreDifferent (numbers row)
  pub count : length held ≡ length (numbers row)
