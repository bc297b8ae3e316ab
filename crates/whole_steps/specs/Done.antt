-- Whole commands at the seat that has all actors: what they come to. The newest event comes first.
use Rattle.std.specs.Prelude.{ℕ, ◌≡◌, ◌+◌, ◌≤◌, ⊤, Bool, false, List, [], ◌∷◌, ◌++◌, length, Option, Some, None}
use Rattle.dim_hierarchy.specs.Dimension.{Dimension}
use Rattle.row_ledger.specs.{declared.event.Event.Event, declared.page.Page.Page, declared.settings.Call.Call}
use Rattle.row_ledger.specs.declared.event.Event.TheVariants.{Called, Ended, Shown, Unknown}
use Rattle.row_ledger.specs.declared.settings.Call.TheVariants.{Tree}
use Rattle.row_ledger.specs.declared.settings.Decline.TheVariants as decline
use Rattle.row_ledger.specs.declared.settings.How.TheVariants as how
use Rattle.script_run.specs.Places.{begins_of}
use Rattle.call_steps.specs.seat_steps.specs.declared.floor.{Floor.Floor, Player.Player}
use Rattle.turn_table.specs.Numbered.{Extends}
use Rattle.core_pages.specs.volap_cell.specs.{Commands.server_of, Setting.Setting, Sights.SeesPage, Steps.{Inv, history_in}, Values.{actor_of}, View.view, World.World, declared.command.{Command.Command, Work.Work}}
use Rattle.core_pages.specs.volap_cell.specs.declared.command.Work.TheVariants as work_is
use Rattle.whole_steps.specs.{Commands.IsPageIn, Seats.state_at, Sole.{IsSameBut, StandsSole}}
use Rattle.whole_steps.specs.declared.tells.Paged.{Paged}
use Rattle.whole_steps.specs.declared.tells.Paged.TheVariants as paged

-- whether there is what the page of a command is of
abbrev pub is_there_in : Work → Bool
is_there_in (work_is.Page subject there shown) = there
is_there_in work = false

abbrev pub is_there : Option Command → Bool
is_there None = false
is_there (Some c) = is_there_in c.work

-- The command of the actor has ended with these events, which stand in front of what had been seen: the newest of that was its beginning.
pub record HasEndedPage (f : Floor) (events : ℕ → List Event) (was now : Player) : Type 0 where
  pub of : ℕ
  pub began : length was.seat.view.seen ≡ of + 1
  pub stands : StandsSole f now
  pub same : IsSameBut was now
  pub seen : now.seat.view.seen ≡ events of ++ was.seat.view.seen
  pub actor : actor_of now.actor ≡ record (actor_of was.actor) { command = None; job = None; seen = length now.seat.view.seen }

-- the page was shown, which is one of the state that the seat knew; or no memory was found for it
abbrev pub HasToldPage : Floor → Paged → Player → Player → Type 0
HasToldPage f (paged.Page p) was now = HasEndedPage f (λ of. Ended of how.Fine ∷ Shown of p ∷ []) was now × IsPageIn f.hierarchy (state_at was.seat) p
HasToldPage f paged.Failed was now = HasEndedPage f (λ of. Ended of how.NoMemory ∷ []) was now
HasToldPage f paged.Unknown was now = ⊥
HasToldPage f paged.NotBegun was now = ⊥

-- From its beginning to its end.

-- The actor does nothing, as before, and has noted no more of the history than it has seen.
pub record IsDoneSole (f : Floor) (was now : Player) : Type 0 where
  pub stands : StandsSole f now
  pub same : IsSameBut was now
  pub actor : actor_of now.actor ≡ record (actor_of was.actor) { seen = (actor_of now.actor).seen }
  pub noted : (actor_of now.actor).seen ≤ length now.seat.view.seen

-- The newest events are those of the call, its beginning and those behind it; before them stands what had been seen, or more,
-- in which the actor has begun nothing else.
pub record HasDone (f : Floor) (call : Call) (events : ℕ → List Event) (was now : Player) : Type 0 where
  pub done : IsDoneSole f was now
  pub older : List Event
  pub since : Extends older was.seat.view.seen
  pub only : begins_of older was.number ≡ begins_of was.seat.view.seen was.number
  pub seen : now.seat.view.seen ≡ events (length older) ++ Called was.number call ∷ older

-- No event is of the call.
pub record HasNotBegun (f : Floor) (was now : Player) : Type 0 where
  pub done : IsDoneSole f was now
  pub since : Extends now.seat.view.seen was.seat.view.seen
  pub only : begins_of now.seat.view.seen was.number ≡ begins_of was.seat.view.seen was.number

-- The newest event notes that a command of the actor names what isn't known, first in this dimension; before it stands what had been seen,
-- or more, in which the actor has begun nothing.
pub record HasNotedUnknown (f : Floor) (dim : ℕ) (was now : Player) : Type 0 where
  pub done : IsDoneSole f was now
  pub older : List Event
  pub since : Extends older was.seat.view.seen
  pub only : begins_of older was.number ≡ begins_of was.seat.view.seen was.number
  pub seen : now.seat.view.seen ≡ Unknown was.number (server_of (actor_of was.actor).role) dim ∷ older

-- The page is one of a state that meets the invariant, and has this history.
pub record IsPageAt (h : List Dimension) (history : List Event) (shown : Page) : Type 0 where
  pub setting : Setting
  pub hierarchy : setting.hierarchy ≡ h
  pub world : World
  pub inv : Inv setting world
  pub history_is : history_in world ≡ history
  pub page : SeesPage setting (view setting world) shown

-- what the page is of may not stand: it is that of a shard's tree
abbrev pub IsOfTree : Call → Type 0
IsOfTree (Tree shard) = ⊤
IsOfTree call = ⊥

-- what a command that shows a page comes to
abbrev pub HasPaged : Floor → Call → Paged → Player → Player → Type 0
HasPaged f call (paged.Page p) was now = (d : HasDone f call (λ of. Ended of how.Fine ∷ Shown of p ∷ []) was now) × IsPageAt f.hierarchy (Called was.number call ∷ d.older) p
HasPaged f call paged.Unknown was now = IsOfTree call × HasDone f call (λ of. Ended of (how.Declined decline.Unknown) ∷ []) was now
HasPaged f call paged.Failed was now = HasDone f call (λ of. Ended of how.NoMemory ∷ []) was now
HasPaged f call paged.NotBegun was now = HasNotBegun f was now
