-- The core as a core of the turn table: what holds of its cells and actors, and what one event of them is.
use Rattle.std.specs.Prelude.{ℕ, ◌≡◌, ◌≢◌, ◌<◌, ◌≤◌, List, length, map, Option, Some}
use mathlib.Core.Option as maybe
use mathlib.Core.Option.{none, some}
use lib.ListN.{get_elem?}
use Rattle.dim_hierarchy.specs.Dimension.{Dimension}
use Rattle.list_words.specs.Counts.{Each}
use Rattle.row_ledger.specs.declared.event.Event.{Event}
use Rattle.core_counts.specs.Counting.{IsCounting, went_after}
use Rattle.core_told.specs.Pulling.{IsPulling}
use Rattle.turn_table.specs.{Law.{IsLawful, Sight}, Numbered.value_of}
use Rattle.core_told.specs.volap_cell.specs.{Cells.{FreeCell, cell_of, ledger_in}, Opening.IsFresh, Setting.{Setting, actor_count, cell_count, ledger_cell}, Sights.IsIdle, State.{Exchange, IsWorldOf, cells_now, changes_of}, Steps.{HasSight, Inv, Makes}, Values.actor_of, World.{World, MustKeep}, declared.actor.Actor.Actor, declared.cell.Cell.Cell, declared.kind.Kind.Kind}

-- values of which each is at its place
abbrev pub all_there : {A : Type 0} → List A → List (Option A)
all_there xs = map (λ x. Some x) xs

-- how many parts of its open command the actor at a place has ended or sent on

abbrev pub went_of : maybe.Option Actor → ℕ
went_of none = 0
went_of (some x) = x.went

abbrev pub went_at : List Actor → ℕ → ℕ
went_at actors a = went_of (get_elem? actors a)

-- The cells and actors by number are a state that meets the invariant, with each cell and each actor of its setting, in which open
-- commands that pull alone have pulled as far as their actors say, and parts are counted.
pub record IsValid (cells : List Cell) (actors : List Actor) : Type 0 where
  pub setting : Setting
  pub world : World
  pub is : IsWorldOf (all_there cells) (all_there actors) world
  pub inv : Inv setting world
  pub pulling : IsPulling setting world
  pub counting : IsCounting setting world (went_at actors)
  pub wide : length cells ≡ cell_count setting
  pub many : length actors ≡ actor_count setting

-- the history in a ledger, the newest event first
abbrev pub history_of : Cell → List Event
history_of c = (ledger_in (cell_of c)).history

-- the cell that an actor must keep
abbrev pub Needs : Actor → ℕ → Type 0
Needs a y = MustKeep (actor_of a) y

-- an actor with nothing to do, and counted in nowhere
abbrev pub Rests : Actor → Type 0
Rests a = IsIdle (actor_of a)

-- the seat has every actor
abbrev pub HasEvery : Sight Cell Actor → Type 0
HasEvery s = (j : ℕ) → j < s.actor_count → (x : Actor) × (value_of s.mine j ≡ some x)

-- What a seat sees of a state besides the cells that it holds: its actors, and, where it has all of them, the values that it knows.
pub record IsSeen (s : Sight Cell Actor) (w : World) : Type 0 where
  pub mine : (j : ℕ) (x : Actor) → value_of s.mine j ≡ some x → w.actors j ≡ actor_of x
  pub others : (j : ℕ) → s.actor_count ≤ j → IsFresh (w.actors j).setting j (w.actors j)
  pub known : HasEvery s → (k : ℕ) (c : Cell) → value_of s.known k ≡ some c → w.cells k ≡ cell_of c
  pub beyond : (k : ℕ) → s.cell_count ≤ k → w.cells k ≡ FreeCell

-- One event: the new values of the held cells and of an actor are what one step of a kind makes of the old ones.
pub record Goes (s : Sight Cell Actor) (new : List (ℕ × Cell)) (i : ℕ) (a b : Actor) : Type 0 where
  pub kind : Kind
  pub h : List Dimension
  pub about : (actor_of a).setting.hierarchy ≡ h
  pub exchanges : List Exchange
  pub before : Each (λ x. value_of s.held x.number ≡ some x.before) exchanges
  -- in whatever order these are held
  pub now : (k : ℕ) → value_of new k ≡ value_of (cells_now exchanges) k
  -- nor must another actor of the seat keep one of these cells
  pub alone : (j : ℕ) (x : Actor) → j ≢ i → value_of s.mine j ≡ some x → Each (λ e. ¬ MustKeep (actor_of x) e.number) exchanges
  pub makes : Makes h kind (changes_of exchanges) (actor_of a) (actor_of b)
  -- the actor has counted it
  pub went : b.went ≡ went_after (actor_of a) (actor_of b) a.went
  -- where a page is shown, what the seat sees has it
  pub sight : (st : Setting) (w : World) → st.hierarchy ≡ h → Inv st w → IsSeen s w → HasSight st w i h kind (changes_of exchanges) (actor_of a) (actor_of b) makes.does

-- what the rule of turns asks of these
abbrev pub TurnLaw : Type 0
TurnLaw = IsLawful {Entry = Event} IsValid ledger_cell history_of Needs Goes
