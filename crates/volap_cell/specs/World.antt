-- States: cells by number and actors by number; and a commit, which replaces some cells and one actor.
use Rattle.std.specs.Prelude.{ℕ, ◌≡◌, ◌≢◌, cond, eqb, List, [], ◌∷◌, Option, Some}
use Rattle.list_words.specs.Counts.{Each}
use Rattle.volap_cell.specs.{Cells.CellValue, Errands.{IsCarried, way_of}, Values.ActorValue}

pub record World : Type 0 where
  pub cells : ℕ → CellValue
  pub actors : ℕ → ActorValue

-- a cell that an actor holds, before its step and after it
pub record Change : Type 0 where
  pub number : ℕ
  pub before : CellValue
  pub now : CellValue

abbrev pub change : ℕ → CellValue → CellValue → Change
change number before now = record { number = number; before = before; now = now }

-- a cell that is held and isn't changed yet
abbrev pub held : ℕ → CellValue → Change
held number cell = change number cell cell

-- a cell that is held at times only
abbrev pub change_if : ℕ → Option CellValue → Option CellValue → List Change
change_if number (Some before) (Some now) = change number before now ∷ []
change_if number _ _ = []

abbrev pub held_if : ℕ → Option CellValue → List Change
held_if number cell = change_if number cell cell

-- the cells with the changed ones in their places
abbrev pub put : List Change → (ℕ → CellValue) → ℕ → CellValue
put [] cells y = cells y
put (c ∷ changes) cells y = cond (eqb y c.number) c.now (put changes cells y)

-- the state after a commit
abbrev pub after : World → List Change → ℕ → ActorValue → World
after w changes n actor = record { cells = put changes w.cells; actors = λ a. cond (eqb a n) actor (w.actors a) }

-- an actor must keep the block at which it carries a row, and no other cell
abbrev pub MustKeep : ActorValue → ℕ → Type 0
MustKeep a y = IsCarried (way_of a.errand) y

-- the state has these cells and this actor, and no other actor must keep one of the cells
pub record Agrees (w : World) (changes : List Change) (n : ℕ) (actor : ActorValue) : Type 0 where
  pub cells : Each (λ c. w.cells c.number ≡ c.before) changes
  pub actor_is : w.actors n ≡ actor
  pub free : (a : ℕ) → a ≢ n → Each (λ c. ¬ MustKeep (w.actors a) c.number) changes
