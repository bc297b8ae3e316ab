-- What contracts see of the cells that were moved out.
use Rattle.std.specs.{List.AllPairs, Prelude.{ℕ, List, [], ◌∷◌, Option, Some, None, ◌≡◌, ◌≢◌, length, All}}
use mathlib.Core.Option.{some}
use Rattle.turn_table.specs.Numbered.{value_of}

-- the cell in this place, if there is one, before the others
abbrev pub before : {T : Type 0} → Option (ℕ × T) → List (ℕ × T) → List (ℕ × T)
before None ps = ps
before (Some p) ps = p ∷ ps

-- nothing stands behind an empty place
abbrev pub IsInFrontOf : {T : Type 0} → Option (ℕ × T) → List (ℕ × T) → Type 0
IsInFrontOf None ps = ps ≡ []
IsInFrontOf (Some p) ps = Unit {0}

-- the numbers are those of the cells, in some order
pub record AreNumbersOf {T : Type 0} (numbers : List ℕ) (cells : List (ℕ × T)) : Type 0 where
  pub count : length numbers ≡ length cells
  pub there : All (λ n. (c : T) × (value_of cells n ≡ some c)) numbers
  pub apart : AllPairs (λ n k. n ≢ k) numbers
