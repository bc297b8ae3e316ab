-- Steps by which the history gets an event: the ledger is held behind the other cells. What they ask, and what they come to.
use Rattle.std.specs.Prelude.{ℕ, ◌≡◌, ◌<◌, ⊤, List, [], ◌∷◌, ◌++◌, length, Option, Some, option_and_then}
use mathlib.Core.Option.{some}
use Rattle.core_due.specs.Ready.{IsPrepared}
use Rattle.core_due.specs.core_steps.specs.Places.{numbers}
use Rattle.dim_hierarchy.specs.Dimension.{Dimension}
use Rattle.row_ledger.specs.{Past.{event_at, session_in}, Right.IsRight, declared.event.Event.Event}
use Rattle.script_run.specs.Places.{begins_of}
use Rattle.seat_steps.specs.{Floors.{IsAround, IsSeated, Stands}, Made.{HasMade, IsKeptBy}, Takes.Takes, declared.floor.{Floor.Floor, Player.Player}}
use Rattle.turn_table.specs.{Numbered.{Extends, numbers_of, value_of}, Seat.IsInOrder}
use Rattle.core_due.specs.volap_cell.specs.{Cells.CellValue, Setting.{Setting, ledger_cell, site_in}, Values.{ActorValue, actor_of}, World.World, declared.cell.Cell.Cell, declared.kind.Kind.Kind}
use Rattle.volap_turns.specs.{Rows.AreAt, Rule.history_of}

-- the same actor, whatever rooms are in it, which has seen as much or more
pub record IsUnchanged (was now : Player) : Type 0 where
  pub number : now.number ≡ was.number
  pub actor : actor_of now.actor ≡ actor_of was.actor
  pub went : now.actor.went ≡ was.actor.went
  pub seen : Extends now.seat.view.seen was.seat.view.seen

-- What is asked.

-- in every state that the seat may be in, a step over the cells at these places is prepared
pub record IsDue (f : Floor) (p : Player) (row : List (Option ℕ)) (Asks : List Dimension → List (Option CellValue) → ActorValue → Type 0) : Type 0 where
  pub prepared : (s : Setting) (w : World) → IsAround f p s w → IsPrepared s w p.number row (Asks s.hierarchy) ⊤

-- the cells at the places are held but for the last one, which is the ledger, and its rank may be told behind theirs
pub record IsUpToLedger (p : Player) (row : List (Option ℕ)) : Type 0 where
  pub named : numbers_of p.seat.ranks ++ ledger_cell ∷ [] ≡ numbers row
  pub few : length p.seat.ranks < 7
  pub order : IsInOrder p.seat.ranks ledger_cell 8

-- the cell that the actor must keep behind the step is held, whichever are
abbrev pub IsKeptAnyhow : List Dimension → Kind → (Setting → World → ℕ → Type 0) → (ActorValue → (was now : List (Option CellValue)) → Type 0) → List (Option ℕ) → Player → Type 0
IsKeptAnyhow h kind Sees Tells row p = (q : Player) → actor_of q.actor ≡ actor_of p.actor → IsKeptBy h kind Sees Tells row q

-- What it comes to.

-- The step was made over what was held and the ledger, whose history had been seen whole; all that the actor had begun in it the actor
-- had noted. With the event it is right.
pub record HasBooked (f : Floor) (kind : Kind) (See : Setting → World → ℕ → Type 0) (Tells : ActorValue → (was now : List (Option CellValue)) → Type 0) (row : List (Option ℕ)) (was now : Player) : Type 0 where
  pub stands : Stands f now
  pub mid : Player
  pub took : Takes ledger_cell 8 was mid
  pub seated : IsSeated f mid
  pub at : AreAt row mid.seat.view.held
  pub made : HasMade f.hierarchy kind See Tells row mid now
  pub whole : (c : Cell) → value_of mid.seat.view.held ledger_cell ≡ some c → history_of c ≡ mid.seat.view.seen
  pub noted : (q : ℕ) → option_and_then session_in (event_at mid.seat.view.seen q) ≡ Some was.number → q < (actor_of was.actor).seen
  pub right : IsRight (site_in (actor_of now.actor).setting) now.seat.view.seen

-- The actor is as before, and may have seen more.
pub record IsAsBefore (f : Floor) (was now : Player) : Type 0 where
  pub stands : Stands f now
  pub number : now.number ≡ was.number
  pub actor : actor_of now.actor ≡ actor_of was.actor
  pub went : now.actor.went ≡ was.actor.went
  pub seen : Extends now.seat.view.seen was.seat.view.seen

-- The newest event is one of the actor, which has begun nothing else that it hadn't seen; the history that it has seen is right.
pub record HasPushed (f : Floor) (event_of : ActorValue → ℕ → Event) (was now : Player) : Type 0 where
  pub stands : Stands f now
  pub number : now.number ≡ was.number
  pub older : List Event
  pub behind : Extends older was.seat.view.seen
  pub now_is : now.seat.view.seen ≡ event_of (actor_of was.actor) (length older) ∷ older
  pub only : begins_of older was.number ≡ begins_of was.seat.view.seen was.number
  pub right : IsRight (site_in (actor_of now.actor).setting) now.seat.view.seen
