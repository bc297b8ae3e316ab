-- The cells that a step holds, each at its place: some steps hold a cell at times only.
use Rattle.std.specs.Prelude.{ℕ, ◌≡◌, List, [], ◌∷◌, ◌++◌, get_or, map, is_some, option_map, Option, Some, None}
use Rattle.core_steps.specs.declared.step.{Others.Others, Places.Places}
use Rattle.core_steps.specs.declared.step.Places.TheVariants as places
use Rattle.core_shard.specs.volap_cell.specs.{Cells.{CellValue, cell_of}, State.{Exchange, cell_if, exchange_if}, declared.cell.Cell.Cell}

-- Places. Each is the number of a cell, or of none.

abbrev pub number_at : Option ℕ → List ℕ
number_at (Some y) = y ∷ []
number_at None = []

abbrev pub numbers : List (Option ℕ) → List ℕ
numbers [] = []
numbers (p ∷ row) = number_at p ++ numbers row

-- A step has seven of them. Most steps hold one cell, or two.

abbrev pub one_at : ℕ → List (Option ℕ)
one_at first = Some first ∷ None ∷ None ∷ None ∷ None ∷ None ∷ None ∷ []

abbrev pub two_at : ℕ → ℕ → List (Option ℕ)
two_at first second = Some first ∷ Some second ∷ None ∷ None ∷ None ∷ None ∷ None ∷ []

abbrev pub three_at : ℕ → ℕ → ℕ → List (Option ℕ)
three_at first second third = Some first ∷ Some second ∷ Some third ∷ None ∷ None ∷ None ∷ None ∷ []

abbrev pub row_of : Places → List (Option ℕ)
row_of (places.One first) = one_at first
row_of (places.Two first second) = two_at first second
row_of (places.Many first second others) = Some first ∷ Some second ∷ others

-- What is held there.

abbrev pub others_held : Others → List (Option Cell)
others_held o = o.third ∷ o.fourth ∷ o.fifth ∷ o.sixth ∷ o.seventh ∷ []

abbrev pub no_others : Others
no_others = record { third = None; fourth = None; fifth = None; sixth = None; seventh = None }

abbrev pub held : Option Cell → Option Cell → Others → List (Option Cell)
held first second others = first ∷ second ∷ others_held others

-- what is held where the first two are lent from cells
abbrev pub held_at : List (Option Cell) → ℕ → ℕ → Others → List (Option Cell)
held_at cells first second others = held (get_or cells first None) (get_or cells second None) others

-- a cell is held at each place that has a number, and at no other one
abbrev pub Fill : List (Option ℕ) → List (Option Cell) → Type 0
Fill row cells = map is_some cells ≡ map is_some row

abbrev pub thing_at : Option ℕ → Option Cell → List (ℕ × Cell)
thing_at (Some y) cell = cell_if y cell
thing_at None cell = []

abbrev pub things : List (Option ℕ) → List (Option Cell) → List (ℕ × Cell)
things (p ∷ row) (c ∷ cells) = thing_at p c ++ things row cells
things _ _ = []

abbrev pub values : List (Option Cell) → List (Option CellValue)
values cells = map (option_map cell_of) cells

-- what a state has at the places
abbrev pub values_at : (ℕ → CellValue) → List (Option ℕ) → List (Option CellValue)
values_at cells row = map (option_map cells) row

-- What becomes of it.

abbrev pub swap_at : Option ℕ → Option Cell → Option Cell → List Exchange
swap_at (Some y) was now = exchange_if y was now
swap_at None was now = []

abbrev pub swaps : List (Option ℕ) → (was now : List (Option Cell)) → List Exchange
swaps (p ∷ row) (b ∷ was) (n ∷ now) = swap_at p b n ++ swaps row was now
swaps _ _ _ = []
