-- Commands that are called at the seat that has all actors: what is asked of their actor before each step, and what the step comes to.
use Rattle.std.specs.Prelude.{ℕ, ◌≡◌, ◌+◌, List, ◌∷◌, length, Option, None, true, false}
use Rattle.call_steps.specs.Calls.{BeginsWith}
use Rattle.core_pages.specs.Looks.{IsSeenOf, StateValue}
use Rattle.dim_hierarchy.specs.Dimension.{Dimension}
use Rattle.row_ledger.specs.{Classes.class_of, Groups.IsCallOf, Right.Asks, declared.class.Subject.Subject, declared.event.Event.Event, declared.page.Page.Page, declared.settings.{Call.Call, How.How}}
use Rattle.row_ledger.specs.declared.class.Class.TheVariants as class
use Rattle.row_ledger.specs.declared.event.Event.TheVariants.{Called, Ended, Shown}
use Rattle.call_steps.specs.seat_steps.specs.declared.floor.{Floor.Floor, Player.Player}
use Rattle.core_pages.specs.volap_cell.specs.{ImageKinds.doing, Setting.Setting, Sights.SeesPage, Steps.Inv, Values.{JobValue, actor_of}, View.view, World.World, declared.command.Work.Work}
use Rattle.core_pages.specs.volap_cell.specs.declared.command.Work.TheVariants as work_is
use Rattle.whole_steps.specs.{Seats.{KnowsAll, state_at}, Sole.HasAdded}

-- of whatever state is seen, if it meets the invariant over these dimensions, the page is what it has
abbrev pub IsPageIn : List Dimension → StateValue → Page → Type 0
IsPageIn h state shown = (s : Setting) (w : World) → s.hierarchy ≡ h → IsSeenOf state w → Inv s w → SeesPage s (view s w) shown

-- The call has begun with the newest event.
pub record HasCalledSole (f : Floor) (call : Call) (was now : Player) : Type 0 where
  pub added : HasAdded f (Called was.number call) was now
  pub work : Work
  pub job : Option JobValue
  pub begins : BeginsWith f call work job
  pub actor : actor_of now.actor ≡ record (actor_of was.actor) { command = doing (length added.older) work; job = job; seen = length now.seat.view.seen }

-- A page is due of the actor's command, which began with this call as the newest event.
pub record IsAtPage (h : List Dimension) (call : Call) (p : Player) : Type 0 where
  pub subject : Subject
  pub asks : class_of call ≡ class.Page subject
  pub valid : IsCallOf h call
  pub older : List Event
  pub newest : p.seat.view.seen ≡ Called p.number call ∷ older
  pub command : (actor_of p.actor).command ≡ doing (length older) (work_is.Page subject true false)
  pub no_part : (actor_of p.actor).errand ≡ None

-- The page that is due may be shown: the seat knows the whole state, of which it is a page.
pub record CanShow (f : Floor) (shown : Page) (p : Player) : Type 0 where
  pub call : Call
  pub due : IsAtPage f.hierarchy call p
  pub asked : Asks (class_of call) shown
  pub knows : KnowsAll f.table p.seat
  pub page : IsPageIn f.hierarchy (state_at p.seat) shown

-- The page was shown with the newest event.
pub record HasShownSole (f : Floor) (shown : Page) (was now : Player) : Type 0 where
  pub of : ℕ
  pub subject : Subject
  pub command : (actor_of was.actor).command ≡ doing of (work_is.Page subject true false)
  pub added : HasAdded f (Shown of shown) was now
  pub actor : actor_of now.actor ≡ record (actor_of was.actor) { command = doing of (work_is.Page subject true true); seen = length now.seat.view.seen }

-- The command has ended so with the newest event, and the actor does nothing.
pub record HasEndedSole (f : Floor) (how : How) (was now : Player) : Type 0 where
  pub of : ℕ
  pub work : Work
  pub command : (actor_of was.actor).command ≡ doing of work
  pub added : HasAdded f (Ended of how) was now
  pub actor : actor_of now.actor ≡ record (actor_of was.actor) { command = None; job = None; seen = length now.seat.view.seen }
