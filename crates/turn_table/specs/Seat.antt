-- What contracts see of a table and of a seat.
use Rattle.std.specs.Prelude.{◌≡◌, ◌≢◌, ℕ, ◌<◌, ◌≤◌, Bool, true, cond, List, [], ◌∷◌, ◌++◌, length, take, drop, get_or, Option, Some, None}
use mathlib.Core.Option.{some}
use Rattle.atomic_table.specs.{Seated.TableId, Table.Me}
use Rattle.turn_table.specs.{Law.IsPossible, Numbered.{value_of, numbers_of, HaveOwnNumbers}, declared.view.View.View}

-- how many cells a table has, which is one for each word
abbrev pub cell_count : TableId → ℕ
cell_count t = t.words

-- the table, whether the values of the held cells are moved out, the rank told for each of these cells, if one was, and
-- what the seat knows
pub record SeatValue (Cell Actor Entry : Type 0) : Type 0 where
  pub table_id : TableId
  pub lifted : Bool
  pub ranks : List (ℕ × Option ℕ)
  pub view : View Cell Actor Entry

-- the rank that may be told for several cells in any order
abbrev pub free_rank : ℕ
free_rank = 3

-- the rank may be told for the cell after those told for held cells
abbrev pub IsInOrder : List (ℕ × Option ℕ) → ℕ → ℕ → Type 0
IsInOrder ranks cell rank = (k r : ℕ) → value_of ranks k ≡ some (Some r) → (r ≤ rank) × (r ≡ rank → rank ≢ free_rank → k < cell)

-- the number of the cell that was told at this place
abbrev pub told_at : List (ℕ × Option ℕ) → ℕ → ℕ
told_at row at = (get_or row at (0, None)).0

module _ {Cell : Type 0} where
  -- the slots of these cells, which are empty where the values are moved out
  abbrev pub slots_of : Bool → List (ℕ × Cell) → List (ℕ × Option Cell)
  slots_of lifted [] = []
  slots_of lifted (p ∷ ps) = (p.0, cond lifted None (Some p.1)) ∷ slots_of lifted ps

  abbrev value_in : ℕ → Option Cell → List (ℕ × Cell) → List (ℕ × Cell)
  value_in k None ps = ps
  value_in k (Some c) ps = (k, c) ∷ ps

  -- the values that lie in the slots
  abbrev pub values_of : List (ℕ × Option Cell) → List (ℕ × Cell)
  values_of [] = []
  values_of (p ∷ ps) = value_in p.0 p.1 (values_of ps)

-- the parts of a seat fit each other, and what it knows is possible
pub record IsSeated {Cell Actor Entry : Type 0} (invariant : List Cell → List Actor → Type 0) (log_at : ℕ) (log : Cell → List Entry) (needs : Actor → ℕ → Type 0) (words number : ℕ) (row : List (ℕ × Option ℕ)) (lifted : Bool) (me : Me (Option Cell) (View Cell Actor Entry)) : Type 0 where
  pub numbered : me.0.number ≡ number
  pub active : me.0.actors ≢ []
  pub own : (a : Actor) × (value_of me.0.actors me.0.number ≡ some a)
  pub rows : numbers_of row ≡ numbers_of me.0.held
  pub slots : me.1 ≡ slots_of lifted me.0.held
  pub distinct : HaveOwnNumbers me.0.held
  pub possible : IsPossible invariant log_at log needs me.0
  pub inside : (k : ℕ) (c : Cell) → value_of me.0.held k ≡ some c → k < words

-- the list with its first k behind the others
abbrev pub turned_by : {A : Type 0} → ℕ → List A → List A
turned_by k xs = drop k xs ++ take k xs

-- the same, but that the last look left the first `ahead` slots behind the others
pub record IsTurned {Cell Actor Entry : Type 0} (invariant : List Cell → List Actor → Type 0) (log_at : ℕ) (log : Cell → List Entry) (needs : Actor → ℕ → Type 0) (words number ahead : ℕ) (row : List (ℕ × Option ℕ)) (lifted : Bool) (me : Me (Option Cell) (View Cell Actor Entry)) : Type 0 where
  pub seated : IsSeated invariant log_at log needs words number row lifted (me.0, slots_of lifted me.0.held)
  pub turned : me.1 ≡ turned_by ahead (slots_of lifted me.0.held)
  pub few : ahead ≤ length me.0.held
  pub home : lifted ≡ true → ahead ≡ 0
