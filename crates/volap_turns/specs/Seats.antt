-- What a seat of the core has, and what becomes of it by one step.
use Rattle.std.specs.Prelude.{ℕ, ◌≡◌, ◌≢◌, false, List, Option}
use mathlib.Core.Option.{some}
use Rattle.atomic_table.specs.Seated.{TableId}
use Rattle.core_counts.specs.Counting.{went_after}
use Rattle.core_steps.specs.{Places.values, Steps.Went}
use Rattle.dim_hierarchy.specs.Dimension.{Dimension}
use Rattle.row_ledger.specs.declared.event.Event.{Event}
use Rattle.turn_table.specs.{Law.sight, Numbered.{after_first, numbers_of, value_of}, Seat.{SeatValue, cell_count}, Views.after_commit, declared.view.View.View}
use Rattle.core_told.specs.volap_cell.specs.{Cells.CellValue, Setting.{Setting, ledger_cell}, Steps.Inv, Values.{ActorValue, actor_of}, World.{MustKeep, World}, declared.actor.Actor.Actor, declared.cell.Cell.Cell, declared.kind.Kind.Kind}
use Rattle.volap_turns.specs.{Rows.{IsThere, cells_for}, Rule.{IsSeen, history_of}, Wholes.CanBe}

-- Of the seat's actors one is this one, whatever rooms are in it now, and no other one must keep a cell.
pub record HasActor (h : List Dimension) (v : View Cell Actor Event) (n : ℕ) (a : Actor) : Type 0 where
  pub last : Actor
  pub has : value_of v.actors n ≡ some last
  pub same : actor_of last ≡ actor_of a
  pub went : last.went ≡ a.went
  pub about : (actor_of a).setting.hierarchy ≡ h
  pub others : (j : ℕ) (x : Actor) (y : ℕ) → j ≢ n → value_of v.actors j ≡ some x → MustKeep (actor_of x) y → ⊥

-- A seat of this table has the actor, and the values of its cells are at home; ranks were told for just these cells.
pub record Holds (h : List Dimension) (t : TableId) (s : SeatValue Cell Actor Event) (n : ℕ) (a : Actor) : Type 0 where
  pub own : s.table_id ≡ t
  pub home : s.lifted ≡ false
  pub one : HasActor h s.view n a
  pub rows : numbers_of s.view.held ≡ numbers_of s.ranks
  pub possible : CanBe s.view
  pub wide : s.view.cell_count ≡ cell_count t

-- every state that the seat may be in has what a step asks of it beside its cells
abbrev pub CanSee : List Dimension → View Cell Actor Event → ℕ → (Setting → World → ℕ → Type 0) → Type 0
CanSee h v n Sees = (s : Setting) (w : World) → s.hierarchy ≡ h → Inv s w → IsSeen (sight v) w → Sees s w n

-- what an actor must keep when a step over these cells was made is still held when the first of them is given back
abbrev pub IsStillHeld : List Dimension → Kind → (Setting → World → ℕ → Type 0) → (ActorValue → (was now : List (Option CellValue)) → Type 0) → List (Option ℕ) → List (ℕ × Cell) → ActorValue → Type 0
IsStillHeld h kind Sees Tells row held a = (b : ActorValue) (now : List (Option Cell)) → Went h kind Sees row (cells_for held row) now a b → Tells a (values (cells_for held row)) (values now)
    → (y : ℕ) → MustKeep b y → IsThere (after_first held) y

-- One step of the actor was made, and counted: its cells have these values, and the first that is held is given back. The actor is
-- about the same thing as before.
pub record HasStepped (h : List Dimension) (kind : Kind) (Sees : Setting → World → ℕ → Type 0) (Tells : ActorValue → (was now : List (Option CellValue)) → Type 0) (row : List (Option ℕ)) (was now : SeatValue Cell Actor Event) (n : ℕ) (a b : Actor) : Type 0 where
  pub new : List (ℕ × Cell)
  pub same_numbers : numbers_of new ≡ numbers_of was.view.held
  pub went : Went h kind Sees row (cells_for was.view.held row) (cells_for new row) (actor_of a) (actor_of b)
  pub told : Tells (actor_of a) (values (cells_for was.view.held row)) (values (cells_for new row))
  pub setting : (actor_of b).setting ≡ (actor_of a).setting
  pub counted : b.went ≡ went_after (actor_of a) (actor_of b) a.went
  pub view : now.view ≡ after_commit ledger_cell history_of was.view new n b
  pub ranks : now.ranks ≡ after_first was.ranks
