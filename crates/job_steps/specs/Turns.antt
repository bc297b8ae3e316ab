-- Cells of one rank whose turns are taken in the order of their numbers; what is held then, in whatever order it was taken.
use Rattle.std.specs.Prelude.{ℕ, ◌≡◌, ◌≢◌, ◌+◌, ◌<◌, ◌≤◌, List, length}
use mathlib.Core.Option.{none, some}
use Rattle.list_words.specs.Counts.{Each}
use Rattle.seat_steps.specs.{Takes.IsSameActor, declared.floor.{Floor.Floor, Player.Player}}
use Rattle.turn_table.specs.{Numbered.value_of, Seat.{IsInOrder, cell_count}}
use Rattle.seat_steps.specs.volap_cell.specs.{State.AreDifferent, declared.cell.Cell.Cell}
use Rattle.seat_steps.specs.volap_turns.specs.Rows.{IsThere}

-- these cells are there, and there is room to hold them besides
pub record MayTake (f : Floor) (p : Player) (ys : List ℕ) : Type 0 where
  pub within : Each (λ y. y < cell_count f.table) ys
  pub apart : AreDifferent ys
  pub other : Each (λ y. value_of p.seat.view.held y ≡ none) ys
  pub room : length p.seat.view.held + length ys ≤ 7

-- this rank may be told for each of them
abbrev pub AreInOrder : Player → List ℕ → ℕ → Type 0
AreInOrder p ys rank = Each (λ y. IsInOrder p.seat.ranks y rank) ys

-- a higher rank may be told for any cell
abbrev pub IsBehind : Player → ℕ → Type 0
IsBehind p rank = (cell higher : ℕ) → rank < higher → IsInOrder p.seat.ranks cell higher

-- These cells are held besides what was held, and none other; of a higher rank another one may be waited for.
pub record TakesSome (ys : List ℕ) (rank : ℕ) (was now : Player) : Type 0 where
  pub same : IsSameActor was now
  pub still : (k : ℕ) (c : Cell) → value_of was.seat.view.held k ≡ some c → value_of now.seat.view.held k ≡ some c
  pub there : Each (IsThere now.seat.view.held) ys
  pub others : (k : ℕ) → value_of was.seat.view.held k ≡ none → Each (λ y. k ≢ y) ys → value_of now.seat.view.held k ≡ none
  pub count : length now.seat.view.held ≡ length was.seat.view.held + length ys
  pub behind : IsBehind now rank
