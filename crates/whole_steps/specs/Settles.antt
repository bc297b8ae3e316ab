-- A settle at the seat that has all actors: its pulls, and what it comes to. The newest event comes first.
use Rattle.std.specs.Prelude.{ℕ, ◌≡◌, ◌+◌, ◌≤◌, ◌<◌, ⊤, List, [], ◌∷◌, ◌++◌, length, Some, None}
use Rattle.describing_set.specs.declared.listing.Spot.{Spot}
use Rattle.row_ledger.specs.declared.event.Event.{Event}
use Rattle.row_ledger.specs.declared.event.Event.TheVariants.{Ended, Synced}
use Rattle.row_ledger.specs.declared.settings.Call.TheVariants.{Settle}
use Rattle.row_ledger.specs.declared.settings.How.TheVariants as how
use Rattle.call_steps.specs.seat_steps.specs.declared.floor.{Floor.Floor, Player.Player}
use Rattle.core_pages.specs.volap_cell.specs.{Commands.{pulled_once, settles_next}, ImageKinds.doing, Setting.ledger_cell, Values.actor_of, declared.command.Work.Work}
use Rattle.core_pages.specs.volap_cell.specs.declared.command.Work.TheVariants as work_is
use Rattle.whole_steps.specs.{Done.{HasDone, HasNotBegun}, Seats.Knows, Sole.{HasAdded, IsSameBut, StandsSole}}
use Rattle.whole_steps.specs.declared.settles.Settled.{Settled}
use Rattle.whole_steps.specs.declared.settles.Settled.TheVariants as settled

-- The server has pulled this listing with the newest event, and the command is one pull further.
pub record HasPulledSole (f : Floor) (server : ℕ) (was now : Player) : Type 0 where
  pub of : ℕ
  pub work : Work
  pub command : (actor_of was.actor).command ≡ doing of work
  pub listing : List Spot
  pub added : HasAdded f (Synced server listing) was now
  pub actor : actor_of now.actor ≡ record (actor_of was.actor) { command = doing of (pulled_once work); seen = length now.seat.view.seen }

-- The pulls of a settle.

-- an event is the pull at this place among them, where there are so many servers
pub record IsPullAt (servers place : ℕ) (e : Event) : Type 0 where
  pub server : ℕ
  pub next : settles_next servers place ≡ Some server
  pub listing : List Spot
  pub event : e ≡ Synced server listing

-- the events are its first pulls
abbrev pub ArePulls : ℕ → List Event → Type 0
ArePulls servers [] = ⊤
ArePulls servers (e ∷ past) = IsPullAt servers (length past) e × ArePulls servers past

-- the actor's settle has begun, and nothing stands behind its beginning
pub record IsAtSettle (p : Player) : Type 0 where
  pub of : ℕ
  pub command : (actor_of p.actor).command ≡ doing of (work_is.Settle 0)
  pub began : length p.seat.view.seen ≡ of + 1
  pub no_part : (actor_of p.actor).errand ≡ None
  pub noted : (actor_of p.actor).seen ≤ length p.seat.view.seen
  pub knows : Knows p.seat ledger_cell

-- So many pulls were made since, and nothing else.
pub record HasPulledAll (f : Floor) (many : ℕ) (was now : Player) : Type 0 where
  pub at : IsAtSettle was
  pub stands : StandsSole f now
  pub same : IsSameBut was now
  pub pulls : List Event
  pub are : ArePulls f.with.servers pulls
  pub count : length pulls ≡ many
  pub seen : now.seat.view.seen ≡ pulls ++ was.seat.view.seen
  pub actor : actor_of now.actor ≡ record (actor_of was.actor) { command = doing at.of (work_is.Settle many); seen = (actor_of now.actor).seen }
  pub noted : (actor_of now.actor).seen ≤ length now.seat.view.seen

-- The call.

-- it has ended well behind all its pulls: one of each server in the order of their numbers, twice over
pub record HasSettled (f : Floor) (was now : Player) : Type 0 where
  pub pulls : List Event
  pub are : ArePulls f.with.servers pulls
  pub count : length pulls ≡ f.with.servers + f.with.servers
  pub done : HasDone f Settle (λ of. Ended of how.Fine ∷ pulls) was now

-- no memory was found for the pull behind these
pub record HasFailedToSettle (f : Floor) (was now : Player) : Type 0 where
  pub pulls : List Event
  pub are : ArePulls f.with.servers pulls
  pub fewer : length pulls < f.with.servers + f.with.servers
  pub done : HasDone f Settle (λ of. Ended of how.NoMemory ∷ pulls) was now

abbrev pub HasSettledCall : Floor → Settled → Player → Player → Type 0
HasSettledCall f settled.Ok was now = HasSettled f was now
HasSettledCall f settled.Failed was now = HasFailedToSettle f was now
HasSettledCall f settled.NotBegun was now = HasNotBegun f was now
