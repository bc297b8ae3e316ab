-- What becomes of a seat by the turns that its actor takes and gives back.
use Rattle.std.specs.Prelude.{ℕ, ◌≡◌, [], ◌∷◌, ◌++◌, Option, Some}
use Rattle.seat_steps.specs.declared.floor.Player.{Player}
use Rattle.turn_table.specs.{Numbered.{Extends, without}, Views.after_refusal}
use Rattle.core_due.specs.volap_cell.specs.declared.cell.Cell.{Cell}

-- the same actor at the same seat, which has seen as much or more
pub record IsSameActor (was now : Player) : Type 0 where
  pub number : now.number ≡ was.number
  pub actor : now.actor ≡ was.actor
  pub seen : Extends now.seat.view.seen was.seat.view.seen

-- the cell is held behind the others, with what it has, and this is told for it
pub record TakesTurn (cell : ℕ) (rank : Option ℕ) (was now : Player) : Type 0 where
  pub value : Cell
  pub same : IsSameActor was now
  pub ranks : now.seat.ranks ≡ was.seat.ranks ++ (cell, rank) ∷ []
  pub held : now.seat.view.held ≡ was.seat.view.held ++ (cell, value) ∷ []

-- which is a rank
abbrev pub Takes : (cell rank : ℕ) → Player → Player → Type 0
Takes cell rank was now = TakesTurn cell (Some rank) was now

-- one more try was refused, at this cell, whose word was read
abbrev pub WasRefused : (cell word : ℕ) → Player → Player → Type 0
WasRefused cell word was now = now.seat ≡ record was.seat { view = after_refusal was.seat.view cell word }

-- the cell is held no more, and all else is as it was
pub record Gives (cell : ℕ) (was now : Player) : Type 0 where
  pub number : now.number ≡ was.number
  pub actor : now.actor ≡ was.actor
  pub seen : now.seat.view.seen ≡ was.seat.view.seen
  pub ranks : now.seat.ranks ≡ without was.seat.ranks cell
  pub held : now.seat.view.held ≡ without was.seat.view.held cell

-- what was held has been given back, as it was
pub record GaveAll (was now : Player) : Type 0 where
  pub number : now.number ≡ was.number
  pub actor : now.actor ≡ was.actor
  pub seen : now.seat.view.seen ≡ was.seat.view.seen
