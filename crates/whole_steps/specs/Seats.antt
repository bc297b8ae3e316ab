-- A seat that has all actors, and what it knows of the state.
use Rattle.std.specs.Prelude.{ℕ, ◌≡◌, ◌<◌, false, [], ◌∷◌, ◌++◌, Option, Some, None}
use mathlib.Core.Option as maybe
use mathlib.Core.Option.{none, some}
use Rattle.atomic_table.specs.Seated.{TableId}
use Rattle.core_pages.specs.Looks.{StateValue}
use Rattle.row_ledger.specs.declared.event.Event.{Event}
use Rattle.turn_table.specs.{Numbered.{Extends, numbers_of, value_of}, Seat.{SeatValue, cell_count}, Views.{HasAll, spent_view}}
use Rattle.core_pages.specs.volap_cell.specs.{Cells.cell_of, Setting.ledger_cell, Values.actor_of, World.MustKeep, declared.actor.Actor.Actor, declared.cell.Cell.Cell}
use Rattle.call_steps.specs.volap_turns.specs.Wholes.{CanBe}

-- The seat of a table has every actor, and none of them must keep a cell. Ranks were told for just the cells that it holds.
pub record HasEveryone (t : TableId) (s : SeatValue Cell Actor Event) : Type 0 where
  pub own : s.table_id ≡ t
  pub home : s.lifted ≡ false
  pub every : HasAll s.view.actor_count s.view
  pub free : (j : ℕ) (x : Actor) (y : ℕ) → value_of s.view.actors j ≡ some x → MustKeep (actor_of x) y → ⊥
  pub rows : numbers_of s.view.held ≡ numbers_of s.ranks
  pub possible : CanBe s.view
  pub wide : s.view.cell_count ≡ cell_count t

-- What it knows.

-- the value of a cell
abbrev pub Knows : SeatValue Cell Actor Event → ℕ → Type 0
Knows s k = (c : Cell) × (value_of s.view.known k ≡ some c)

-- that of each cell
abbrev pub KnowsAll : TableId → SeatValue Cell Actor Event → Type 0
KnowsAll t s = (k : ℕ) → k < cell_count t → Knows s k

abbrev pub if_some : {A B : Type 0} → (A → B) → maybe.Option A → Option B
if_some f none = None
if_some f (some x) = Some (f x)

-- the state, as far as it is known
abbrev pub state_at : SeatValue Cell Actor Event → StateValue
state_at s = record { cells = λ y. if_some cell_of (value_of s.view.known y); actors = λ a. if_some actor_of (value_of s.view.actors a) }

-- Turns that are taken and given back.

-- Between these two nothing became of the seat but that turns were taken and given back. Who knew the ledger has seen what it had seen.
pub record HasTurned (was now : SeatValue Cell Actor Event) : Type 0 where
  pub table : now.table_id ≡ was.table_id
  pub home : now.lifted ≡ was.lifted
  pub number : now.view.number ≡ was.view.number
  pub cell_count : now.view.cell_count ≡ was.view.cell_count
  pub actor_count : now.view.actor_count ≡ was.view.actor_count
  pub actors : now.view.actors ≡ was.view.actors
  pub known : (k : ℕ) (c : Cell) → value_of was.view.known k ≡ some c → value_of now.view.known k ≡ some c
  pub seen : Extends now.view.seen was.view.seen
  pub exact : Knows was ledger_cell → now.view.seen ≡ was.view.seen

-- The cell is held behind the others, with what it has, and this rank is told for it.
pub record TakesCell (cell rank : ℕ) (was now : SeatValue Cell Actor Event) : Type 0 where
  pub value : Cell
  pub turned : HasTurned was now
  pub ranks : now.ranks ≡ was.ranks ++ (cell, Some rank) ∷ []
  pub held : now.view.held ≡ was.view.held ++ (cell, value) ∷ []
  pub knows : value_of now.view.known cell ≡ some value
  pub same : (d : Cell) → value_of was.view.known cell ≡ some d → value ≡ d

-- The seat looks at cells since it was this one, and knew the whole state.
pub record IsLooking (start : SeatValue Cell Actor Event) (t : TableId) (s : SeatValue Cell Actor Event) : Type 0 where
  pub everyone : HasEveryone t s
  pub turned : HasTurned start s
  pub before : HasEveryone t start
  pub knows : KnowsAll t start

-- The seat of no table.

abbrev no_table : TableId
no_table = record { words = 0; slots = 0; views_name = 0; atom = 0; block = 0; offset = 0; slot_names = [] }

abbrev pub no_seat : SeatValue Cell Actor Event
no_seat = record { table_id = no_table; lifted = false; ranks = []; view = spent_view }
