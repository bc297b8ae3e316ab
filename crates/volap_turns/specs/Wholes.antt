-- States that one thread holds, and the lists of cells and actors with which a table begins and ends.
use Rattle.std.specs.Prelude.{ℕ, ◌≡◌, ◌<◌, List, length, get_or, Option, None}
use mathlib.Core.Option.{some}
use Rattle.dim_hierarchy.specs.Dimension.{Dimension}
use Rattle.row_ledger.specs.declared.event.Event.{Event}
use Rattle.turn_table.specs.{Law.IsPossible, Numbered.value_of, declared.view.View.View}
use Rattle.core_told.specs.volap_cell.specs.{Filling.IsOpened, Setting.{Setting, actor_count, cell_count, ledger_cell}, Sights.IsIdle, State.{Has, HasInv, IsWorldOf}, Steps.history_in, Values.actor_of, World.World, declared.actor.Actor.Actor, declared.cell.Cell.Cell}
use Rattle.volap_turns.specs.Rule.{IsValid, Needs, history_of}

-- the vectors are a state that meets the invariant, over these dimensions, with each cell and each actor of its setting
pub record IsWhole (h : List Dimension) (cells : List (Option Cell)) (actors : List (Option Actor)) : Type 0 where
  pub sound : HasInv h cells actors
  pub wide : length cells ≡ cell_count sound.setting
  pub many : length actors ≡ actor_count sound.setting

-- each actor of the state is idle
abbrev pub AreIdle : List (Option Cell) → List (Option Actor) → Type 0
AreIdle cells actors = (w : World) → IsWorldOf cells actors w → (a : ℕ) → a < length actors → IsIdle (w.actors a)

-- this is the history of the state
abbrev pub HasHistory : List (Option Cell) → List (Option Actor) → List Event → Type 0
HasHistory cells actors history = (w : World) → IsWorldOf cells actors w → history_in w ≡ history

-- what a seat of the core knows is possible
abbrev pub CanBe : View Cell Actor Event → Type 0
CanBe v = IsPossible IsValid ledger_cell history_of Needs v

-- The vector has all actors that a view has, whatever rooms are in them now; they are about these dimensions.
pub record AreActorsOf (h : List Dimension) (v : View Cell Actor Event) (actors : List (Option Actor)) : Type 0 where
  pub some_one : 0 < v.actor_count
  pub count : length actors ≡ v.actor_count
  pub each : (a : ℕ) → a < v.actor_count → Has (get_or actors a None) (λ x. (last : Actor) × (value_of v.actors a ≡ some last) × (actor_of last ≡ actor_of x))
  pub about : Has (get_or actors 0 None) (λ x. (actor_of x).setting.hierarchy ≡ h)

-- an opening is such a state, and nobody is at work
abbrev pub OpeningLaw : Type 0
OpeningLaw = (s : Setting) (cells : List (Option Cell)) (actors : List (Option Actor)) → IsOpened s cells actors → IsWhole s.hierarchy cells actors × AreIdle cells actors
