-- The beginning of a session's command, in the history that it has seen, the newest event first.
use Rattle.std.specs.Prelude.{ℕ, ℤ, ◌≡◌, ◌≤◌, List, length, false}
use Rattle.dim_hierarchy.specs.{declared.filter.Pick.Pick, declared.row.Coord.Coord, declared.row.Row.Row}
use Rattle.part_steps.specs.core_image.specs.Told.{asked_by, begun_by}
use Rattle.row_ledger.specs.declared.event.Event.{Event}
use Rattle.part_steps.specs.seat_steps.specs.{Booked.{HasPushed, IsAsBefore}, declared.floor.{Floor.Floor, Player.Player}}
use Rattle.session_steps.specs.declared.begins.Begun.{Begun}
use Rattle.session_steps.specs.declared.begins.Begun.TheVariants as begun
use Rattle.part_steps.specs.volap_cell.specs.{ImageKinds.{IsFree, doing}, Values.{ActorValue, actor_of}, declared.role.Role.TheVariants.Session}
use Rattle.part_steps.specs.volap_cell.specs.declared.command.Work.TheVariants as work_is

-- A session that does nothing, and has noted no more of the history than it has seen.
pub record CanBegin (p : Player) : Type 0 where
  pub server : ℕ
  pub role : (actor_of p.actor).role ≡ Session server
  pub free : IsFree (actor_of p.actor)
  pub noted : (actor_of p.actor).seen ≤ length p.seat.view.seen

-- A row at this coordinate, as the event at a position.
abbrev pub row_at : ℕ → Coord → ℤ → Row
row_at of at measures = record { no = of; at = at; measures = measures }

-- The session's insert has begun with the newest event, which stands at this position.
pub record HasBegunInsert (f : Floor) (of : ℕ) (at : Coord) (measures : ℤ) (was now : Player) : Type 0 where
  pub pushed : HasPushed f (begun_by at measures) was now
  pub position : of ≡ length pushed.older
  pub actor : actor_of now.actor ≡ record (actor_of was.actor) { command = doing of (work_is.Insert (row_at of at measures) false); seen = length now.seat.view.seen }

-- The session's query has begun with the newest event, which stands at this position. No part of it was sent on.
pub record HasAsked (f : Floor) (of : ℕ) (filter : List Pick) (was now : Player) : Type 0 where
  pub pushed : HasPushed f (asked_by filter) was now
  pub position : of ≡ length pushed.older
  pub actor : actor_of now.actor ≡ record (actor_of was.actor) { command = doing of work_is.Query; seen = length now.seat.view.seen }
  pub went : now.actor.went ≡ 0

-- It has, or else the session is as before, and has its filter again where it waits.
abbrev pub HasBegunQuery : Floor → Begun → List Pick → Player → Player → Type 0
HasBegunQuery f (begun.At of) filter was now = HasAsked f of filter was now
HasBegunQuery f (begun.Waits back) filter was now = (back ≡ filter) × IsAsBefore f was now
HasBegunQuery f begun.NoMemory filter was now = IsAsBefore f was now

-- The session has noted the newest event, and is free as before.
pub record HasNoted (f : Floor) (event_of : ActorValue → ℕ → Event) (was now : Player) : Type 0 where
  pub pushed : HasPushed f event_of was now
  pub actor : actor_of now.actor ≡ record (actor_of was.actor) { seen = length now.seat.view.seen }
