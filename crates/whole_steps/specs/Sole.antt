-- An actor at the seat that has all actors: what holds of it, what it may ask of the states that the seat may be in, and what becomes of the
-- seat by its steps. The newest event comes first.
use Rattle.std.specs.Prelude.{ℕ, ◌≡◌, ◌≢◌, ◌<◌, ⊤, List, [], ◌∷◌, Option, Some, option_and_then}
use mathlib.Core.Option.{some}
use Rattle.call_steps.specs.core_due.specs.Ready.{IsPrepared}
use Rattle.dim_hierarchy.specs.Dimension.{Dimension}
use Rattle.row_ledger.specs.{Past.{event_at, session_in}, declared.event.Event.Event}
use Rattle.call_steps.specs.seat_steps.specs.{Floors.{IsAround, kept_by}, Made.HasMade, declared.floor.{Floor.Floor, Player.Player}}
use Rattle.turn_table.specs.{Numbered.{Extends, value_of}, Seat.SeatValue, Views.HasAll}
use Rattle.core_pages.specs.volap_cell.specs.{Cells.CellValue, Setting.{Setting, ledger_cell}, Sights.IsIdle, Steps.history_in, Values.{ActorValue, actor_of}, World.World, declared.actor.Actor.Actor, declared.cell.Cell.Cell, declared.kind.Kind.Kind}
use Rattle.call_steps.specs.volap_turns.specs.{Rows.AreAt, Rule.history_of, Seats.{CanSee, Holds}}
use Rattle.whole_steps.specs.Seats.{HasTurned, Knows}

abbrev pub player : ℕ → Actor → SeatValue Cell Actor Event → Player
player number actor seat = record { number = number; actor = actor; seat = seat }

-- The seat has every actor. All others have nothing to do, and this one must keep no cell. It is about what the floor is about.
pub record IsSole (f : Floor) (p : Player) : Type 0 where
  pub holds : Holds f.hierarchy f.table p.seat p.number p.actor
  pub every : HasAll p.seat.view.actor_count p.seat.view
  pub others : (j : ℕ) (x : Actor) → j ≢ p.number → value_of p.seat.view.actors j ≡ some x → IsIdle (actor_of x)
  pub servers : (actor_of p.actor).setting.servers ≡ f.with.servers
  pub workers : (actor_of p.actor).setting.workers ≡ f.with.workers
  pub none_kept : kept_by (actor_of p.actor) ≡ []

-- between its steps the seat holds no cell
pub record StandsSole (f : Floor) (p : Player) : Type 0 where
  pub sole : IsSole f p
  pub bare : p.seat.ranks ≡ []

-- What is asked.

-- A state that the seat may be in; where it knows the ledger, it has seen the history whole.
pub record IsAroundSole (f : Floor) (p : Player) (s : Setting) (w : World) : Type 0 where
  pub around : IsAround f p s w
  pub history : Knows p.seat ledger_cell → history_in w ≡ p.seat.view.seen

-- in every such state a step over the cells at these places is prepared
pub record IsDueSole (f : Floor) (p : Player) (row : List (Option ℕ)) (Asks : List Dimension → List (Option CellValue) → ActorValue → Type 0) : Type 0 where
  pub prepared : (s : Setting) (w : World) → IsAroundSole f p s w → IsPrepared s w p.number row (Asks s.hierarchy) ⊤

-- whatever turns are taken first, every state that the seat may be in then has what a step asks of it beside its cells
abbrev pub CanSeeThen : List Dimension → Player → (Setting → World → ℕ → Type 0) → Type 0
CanSeeThen h p Sees = (now : SeatValue Cell Actor Event) → HasTurned p.seat now → CanSee h now.view p.number Sees

-- What becomes of it.

-- The seat has all actors still, of whom only this one may have changed, and it knows what it knew.
pub record IsSameBut (was now : Player) : Type 0 where
  pub number : now.number ≡ was.number
  pub seat_number : now.seat.view.number ≡ was.seat.view.number
  pub actor_count : now.seat.view.actor_count ≡ was.seat.view.actor_count
  pub others : (j : ℕ) → j ≢ was.number → value_of now.seat.view.actors j ≡ value_of was.seat.view.actors j
  pub setting : (actor_of now.actor).setting ≡ (actor_of was.actor).setting
  pub knows : (k : ℕ) → Knows was.seat k → Knows now.seat k

-- all that the actor has begun in a history it has noted
abbrev pub HasNotedAll : Player → List Event → Type 0
HasNotedAll p history = (q : ℕ) → option_and_then session_in (event_at history q) ≡ Some p.number → q < (actor_of p.actor).seen

-- A step was made over what was held and the ledger, whose history had been seen whole.
pub record HasMadeSole (f : Floor) (kind : Kind) (See : Setting → World → ℕ → Type 0) (Tells : ActorValue → (was now : List (Option CellValue)) → Type 0) (row : List (Option ℕ)) (was now : Player) : Type 0 where
  pub stands : StandsSole f now
  pub same : IsSameBut was now
  pub knows : Knows now.seat ledger_cell
  pub mid : Player
  pub turned : HasTurned was.seat mid.seat
  pub number : mid.number ≡ was.number
  pub actor : mid.actor ≡ was.actor
  pub at : AreAt row mid.seat.view.held
  pub made : HasMade f.hierarchy kind See Tells row mid now
  pub whole : (c : Cell) → value_of mid.seat.view.held ledger_cell ≡ some c → history_of c ≡ mid.seat.view.seen
  pub noted : HasNotedAll was mid.seat.view.seen

-- No step was made, and nothing is different but for what was seen and is known.
pub record HasWaited (f : Floor) (was now : Player) : Type 0 where
  pub stands : StandsSole f now
  pub same : IsSameBut was now
  pub knows : Knows now.seat ledger_cell
  pub actor : actor_of now.actor ≡ actor_of was.actor
  pub seen : Extends now.seat.view.seen was.seat.view.seen
  pub exact : Knows was.seat ledger_cell → now.seat.view.seen ≡ was.seat.view.seen
  pub noted : HasNotedAll was now.seat.view.seen

-- This event was added to the history. Where the seat knew the ledger, nothing stands between it and what the seat had seen.
pub record HasAdded (f : Floor) (e : Event) (was now : Player) : Type 0 where
  pub stands : StandsSole f now
  pub same : IsSameBut was now
  pub knows : Knows now.seat ledger_cell
  pub older : List Event
  pub behind : Extends older was.seat.view.seen
  pub exact : Knows was.seat ledger_cell → older ≡ was.seat.view.seen
  pub now_is : now.seat.view.seen ≡ e ∷ older
  pub noted : HasNotedAll was older
