-- What one step tells the history, and what becomes of its actor's command.
use Rattle.std.specs.Prelude.{ℕ, ◌≡◌, ◌++◌, ◌⊎◌, ⊤, Bool, true, false, List, [], ◌∷◌, Option, Some, None, length, take}
use Rattle.describing_set.specs.declared.listing.Spot.{Spot}
use Rattle.row_ledger.specs.{Classes.class_of, Past.{end_in, ends_itself, session_in}, Settled.settle_pulls, declared.event.Event.Event, declared.page.Page.Page, declared.settings.How.How}
use Rattle.row_ledger.specs.declared.event.Event.TheVariants as event
use Rattle.script_run.specs.Phases.{is_closing}
use Rattle.volap_cell.specs.{Commands.{MayNoteEnd, due_pull, once_shown, pulled_once}, Ghost.Ghost, ImageKinds.{IsFree, doing}, Invariant.InvWith, Setting.Setting, Steps.{Step, history_in}, View.view, World.World, declared.command.Command.Command as OpenCommand, declared.command.Work.Work, declared.kind.Kind.Kind}
use Rattle.volap_cell.specs.declared.command.Work.TheVariants as work_is
use Rattle.volap_cell.specs.declared.kind.Kind.TheVariants as kind

-- Work.

-- whether an open command closes its phase
abbrev pub is_closing_work : Work → Bool
is_closing_work (work_is.Settle pulls) = true
is_closing_work work_is.Bare = true
is_closing_work (work_is.Page subject there shown) = true
is_closing_work _ = false

-- the servers of the pulls since a sync or a settle began
abbrev pub HasPulled : ℕ → Work → List ℕ → Type 0
HasPulled servers (work_is.Sync server false) pulled = pulled ≡ []
HasPulled servers (work_is.Sync server true) pulled = pulled ≡ server ∷ []
HasPulled servers (work_is.Settle pulls) pulled = pulled ≡ take pulls (settle_pulls servers)
HasPulled servers work pulled = ⊤

-- a command that neither pulls nor closes its phase
abbrev pub is_plain : Work → Bool
is_plain (work_is.Insert row routed) = true
is_plain work_is.Query = true
is_plain (work_is.Action x) = true
is_plain (work_is.Balance b) = true
is_plain _ = false

-- Steps.

-- Kinds that go on with a part, or with a purse; the look-up; and the one that uses cells again. None of them tells the history anything.
abbrev pub is_of_part : Kind → Bool
is_of_part kind.GateRead = true
is_of_part kind.BlockVisit = true
is_of_part kind.EnterTree = true
is_of_part kind.EnterQueue = true
is_of_part kind.Down = true
is_of_part kind.PutInLeaf = true
is_of_part kind.LeaveTree = true
is_of_part kind.Refill = true
is_of_part kind.TakePart = true
is_of_part kind.LookUp = true
is_of_part kind.Forward = true
is_of_part kind.Expand = true
is_of_part kind.FinishPart = true
is_of_part kind.Reuse = true
is_of_part _ = false

-- a command that neither pulls nor closes its phase goes on
pub record GoesFurther (before now : Option OpenCommand) : Type 0 where
  pub of : ℕ
  pub work : Work
  pub work_now : Work
  pub was : before ≡ doing of work
  pub is : now ≡ doing of work_now
  pub plain : is_plain work ≡ true
  pub plain_now : is_plain work_now ≡ true

-- what a called command does before its end
abbrev pub is_deed : Event → Bool
is_deed (event.Split of shard left right) = true
is_deed (event.Moved of shard worker) = true
is_deed (event.Left of shard how) = true
is_deed _ = false

-- Nothing is told, and no command begins or ends.
pub record TellsNothing (n : ℕ) (w now : World) : Type 0 where
  pub history : history_in now ≡ history_in w
  pub stays : ((now.actors n).command ≡ (w.actors n).command) ⊎ GoesFurther (w.actors n).command (now.actors n).command

-- a balance has done or left an action
pub record TellsDeed (n : ℕ) (w now : World) : Type 0 where
  pub deed : Event
  pub history : history_in now ≡ deed ∷ history_in w
  pub is_that : is_deed deed ≡ true
  pub further : GoesFurther (w.actors n).command (now.actors n).command

-- a sync or a settle has pulled
pub record TellsPull (s : Setting) (n : ℕ) (w now : World) : Type 0 where
  pub of : ℕ
  pub work : Work
  pub server : ℕ
  pub listing : List Spot
  pub history : history_in now ≡ event.Synced server listing ∷ history_in w
  pub was : (w.actors n).command ≡ doing of work
  pub due : due_pull s.servers work ≡ Some server
  pub is : (now.actors n).command ≡ doing of (pulled_once work)

-- a page is shown
pub record TellsPage (n : ℕ) (w now : World) : Type 0 where
  pub of : ℕ
  pub work : Work
  pub work_now : Work
  pub page : Page
  pub history : history_in now ≡ event.Shown of page ∷ history_in w
  pub was : (w.actors n).command ≡ doing of work
  pub once : once_shown work ≡ Some work_now
  pub is : (now.actors n).command ≡ doing of work_now

-- the end of a command: one that pulls or closes its phase may end so
abbrev pub IsEnd : Setting → World → ℕ → ℕ → Work → Event → Type 0
IsEnd s w n of work e =
    (end_in e ≡ Some of)
    × ((is_plain work ≡ true) ⊎ ((how : How) × (e ≡ event.Ended of how) × MayNoteEnd s.servers work (w.actors n).job how))

-- A command ends, which may have split or moved a shard in the same step. Its actor has no job any more, and gives no cell away
-- but with its job.
pub record TellsEnd (s : Setting) (k : Kind) (n : ℕ) (w now : World) : Type 0 where
  pub of : ℕ
  pub work : Work
  pub end_is : Event
  pub deeds : List Event
  pub history : history_in now ≡ end_is ∷ deeds ++ history_in w
  pub are_deeds : (deeds ≡ []) ⊎ ((deed : Event) × (deeds ≡ deed ∷ []) × (is_deed deed ≡ true))
  pub ends : IsEnd s w n of work end_is
  pub of_command : is_of_part k ≡ false
  pub was : (w.actors n).command ≡ doing of work
  pub command : (now.actors n).command ≡ None
  pub job : (now.actors n).job ≡ None
  pub errand : (now.actors n).errand ≡ (w.actors n).errand
  pub purse : ((now.actors n).purse ≡ []) ⊎ (((now.actors n).purse ≡ (w.actors n).purse) × ((w.actors n).job ≡ None))

-- whether an event begins a command that closes its phase
abbrev pub begins_closing : Event → Bool
begins_closing (event.Called session call) = is_closing (class_of call)
begins_closing _ = false

-- what a beginning opens: nothing, or a command that has pulled nothing
pub data OpensCommand (s : Setting) (e : Event) (n : ℕ) (w now : World) : Type 0 where
  OpensNone : ends_itself e ≡ true → (now.actors n).command ≡ None → OpensCommand s e n w now
  OpensOne : (work : Work) → ends_itself e ≡ false → (now.actors n).command ≡ doing (length (history_in w)) work → HasPulled s.servers work []
      → is_closing_work work ≡ begins_closing e → OpensCommand s e n w now

-- a command of the actor begins, which was free
pub record TellsBeginning (s : Setting) (k : Kind) (n : ℕ) (w now : World) : Type 0 where
  pub begins : Event
  pub history : history_in now ≡ begins ∷ history_in w
  pub session : session_in begins ≡ Some n
  pub free : IsFree (w.actors n)
  pub of_command : is_of_part k ≡ false
  pub opens : OpensCommand s begins n w now
  pub job : ends_itself begins ≡ true → (now.actors n).job ≡ None
  pub errand : (now.actors n).errand ≡ (w.actors n).errand
  pub purse : (now.actors n).purse ≡ (w.actors n).purse

pub data Told (s : Setting) (k : Kind) (n : ℕ) (w now : World) : Type 0 where
  OfNothing : TellsNothing n w now → Told s k n w now
  OfDeed : TellsDeed n w now → Told s k n w now
  OfPull : TellsPull s n w now → Told s k n w now
  OfPage : TellsPage n w now → Told s k n w now
  OfEnd : TellsEnd s k n w now → Told s k n w now
  OfBeginning : TellsBeginning s k n w now → Told s k n w now

-- Each step is one of these; and all other actors stay as they are.
abbrev pub ToldLaw : Type 0
ToldLaw = (s : Setting) (k : Kind) (n : ℕ) (w now : World) (g g_now : Ghost) → InvWith s (view s w) g → InvWith s (view s now) g_now → Step s k n w now → Told s k n w now

abbrev pub OthersLaw : Type 0
OthersLaw = (s : Setting) (k : Kind) (n : ℕ) (w now : World) (a : ℕ) → Step s k n w now → (a ≡ n → ⊥) → now.actors a ≡ w.actors a
