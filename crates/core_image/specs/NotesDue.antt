-- What the kinds ask that note an event which acknowledges and pulls nothing, beyond that their cells and their actor are those of a
-- state; and what their inner functions do.
use Rattle.std.specs.Prelude.{ℕ, ◌≡◌, ◌+◌, ◌<◌, ◌^◌, Bool, true, false, not, List, [], ◌∷◌, length, Option, Some, None, is_some}
use Rattle.dim_hierarchy.specs.{Dimension.Dimension, Row.IsCoordOf, declared.row.Coord.Coord, declared.row.Row.Row}
use Rattle.query_router.specs.Desk.{DeskValue, verdict_of}
use Rattle.query_router.specs.declared.part.Verdict.TheVariants as verdict
use Rattle.row_ledger.specs.{Classes.class_of, Groups.IsCallOf, LedgerValue.LedgerValue, Right.Asks, declared.class.Class.Class, declared.event.Event.Event, declared.event.Event.TheVariants.Ended, declared.page.Page.Page, declared.settings.Call.Call, declared.settings.How.How}
use Rattle.row_ledger.specs.declared.class.Class.TheVariants as class
use Rattle.server_image.specs.{Image.ImageValue, Registry.RegistryValue}
use Rattle.volap_cell.specs.{Cells.{CellValue, DeskOf, ImageOf, TheLedger, TheRegistry, desk_in, ledger_in, tag_of}, Commands.{MayCall, MayNoteEnd, once_shown}, ImageKinds.{IsBegun, IsFree, asks_registry, doing}, Planning.{HasLoadNext, next_job}, Values.{ActorValue, JobValue, StageValue, IsCalled, IsDeclined}, declared.command.Balance.Balance, declared.command.Command.Command, declared.command.Work.Work, declared.command.Work.TheVariants.{Insert, Query}, declared.role.Role.TheVariants.Session}
use Rattle.volap_cell.specs.declared.command.Work.TheVariants as work_is

-- a ledger gets an event, with so many promises more or less, and holds no more than it may
pub record Notes (e : Event) (more used : ℕ) (ledger ledger_now : LedgerValue) : Type 0 where
  pub history : ledger_now.history ≡ e ∷ ledger.history
  pub promised : ledger.promised + more ≡ ledger_now.promised + used
  pub few : length ledger_now.history + ledger_now.promised < 2 ^ 31

-- a session that does nothing begins an insert at its server's image; the coordinate is one of the hierarchy
pub record CanBeginInsert (h : List Dimension) (at : Coord) (image ledger : CellValue) (a : ActorValue) : Type 0 where
  pub free : IsFree a
  pub server : ℕ
  pub role : a.role ≡ Session server
  pub image_is : tag_of image ≡ ImageOf server
  pub ledger_is : tag_of ledger ≡ TheLedger
  pub coord : IsCoordOf h at

-- the image owes an acknowledgement more, and the event is noted
pub record OpensInsert (e : Event) (image image_now : ImageValue) (ledger ledger_now : LedgerValue) : Type 0 where
  pub owes : image_now ≡ record image { owed = image.owed + 1 }
  pub notes : Notes e 2 1 ledger ledger_now

-- whoever does nothing notes a command that names what isn't known
pub record CanNoteUnknown (ledger : CellValue) (a : ActorValue) : Type 0 where
  pub free : IsFree a
  pub ledger_is : tag_of ledger ≡ TheLedger

-- whoever does nothing notes a command for which there was no memory
pub record CanNoteRefused (ledger : CellValue) (a : ActorValue) : Type 0 where
  pub free : IsFree a
  pub ledger_is : tag_of ledger ≡ TheLedger

-- the actor's insert has no part yet
pub record CanFailUnrouted (image ledger : CellValue) (a : ActorValue) : Type 0 where
  pub of : ℕ
  pub row : Row
  pub command : a.command ≡ doing of (Insert row false)
  pub server : ℕ
  pub role : a.role ≡ Session server
  pub image_is : tag_of image ≡ ImageOf server
  pub ledger_is : tag_of ledger ≡ TheLedger

-- for the part of the actor's insert, on its server's desk, there was no memory
pub record CanFailRouted (desk image ledger : CellValue) (a : ActorValue) : Type 0 where
  pub of : ℕ
  pub row : Row
  pub command : a.command ≡ doing of (Insert row true)
  pub idle : a.errand ≡ None
  pub server : ℕ
  pub role : a.role ≡ Session server
  pub desk_is : tag_of desk ≡ DeskOf server
  pub refused : verdict_of (desk_in desk).parts ≡ Some verdict.NoMemory
  pub image_is : tag_of image ≡ ImageOf server
  pub ledger_is : tag_of ledger ≡ TheLedger

-- for a part of the actor's query, on its server's desk, there was no memory, and none is open
pub record CanFailQuery (desk ledger : CellValue) (a : ActorValue) : Type 0 where
  pub of : ℕ
  pub command : a.command ≡ doing of Query
  pub idle : a.errand ≡ None
  pub server : ℕ
  pub role : a.role ≡ Session server
  pub desk_is : tag_of desk ≡ DeskOf server
  pub refused : verdict_of (desk_in desk).parts ≡ Some verdict.NoMemory
  pub ledger_is : tag_of ledger ≡ TheLedger

-- a desk is counted by one session more or less; more fit into the count
pub record CanCount (desk : CellValue) (a : ActorValue) (come : Bool) : Type 0 where
  pub server : ℕ
  pub role : a.role ≡ Session server
  pub desk_is : tag_of desk ≡ DeskOf server
  pub other : a.counted ≡ not come
  pub fits : come ≡ true → (desk_in desk).sessions + 1 < 2 ^ 16

-- one more fits into the count of a desk, or there is one to go
abbrev pub MayCount : DeskValue → Bool → Type 0
MayCount desk true = desk.sessions + 1 < 2 ^ 16
MayCount desk false = 0 < desk.sessions

-- one more is counted in, or one less
abbrev pub Counts : DeskValue → DeskValue → Bool → Type 0
Counts desk desk_now true = desk_now ≡ record desk { sessions = desk.sessions + 1 }
Counts desk desk_now false = desk ≡ record desk_now { sessions = desk_now.sessions + 1 }

-- Commands.

-- the work of a call that asks nothing of the registry, as it begins
abbrev pub work_alone : Class → Work
work_alone (class.Sync server) = work_is.Sync server false
work_alone class.Settle = work_is.Settle 0
work_alone (class.Page subject) = work_is.Page subject true false
work_alone _ = work_is.Bare

-- an actor that does nothing makes a call that asks nothing of the registry; a pull is for a server that is there, and a group
-- asks a question of the hierarchy
pub record CanNoteCalled (h : List Dimension) (called : Call) (ledger : CellValue) (a : ActorValue) : Type 0 where
  pub free : IsFree a
  pub allowed : MayCall a.role called
  pub alone : asks_registry (class_of called) ≡ false
  pub server : (x : ℕ) → class_of called ≡ class.Sync x → x < a.setting.servers
  pub valid : IsCallOf h called
  pub ledger_is : tag_of ledger ≡ TheLedger

-- an administrator that does nothing, and has no spares, makes a call that asks the registry; it is told how many workers there are
pub record CanNoteAsking (called : Call) (workers : ℕ) (registry ledger : CellValue) (a : ActorValue) : Type 0 where
  pub free : IsFree a
  pub spares : a.purse ≡ []
  pub allowed : MayCall a.role called
  pub asks : asks_registry (class_of called) ≡ true
  pub workers_are : workers ≡ a.setting.workers
  pub registry_is : tag_of registry ≡ TheRegistry
  pub ledger_is : tag_of ledger ≡ TheLedger

-- the work of a call that asks the registry, and its job, as they begin; a balance makes no more actions than a byte can tell
abbrev pub BeginsAsking : ℕ → RegistryValue → Class → Work → Option JobValue → Type 0
BeginsAsking workers r (class.Balance most) work job = IsBegun workers r (class.Balance most) work job × (most < 2 ^ 8)
BeginsAsking workers r called work job = IsBegun workers r called work job

-- the actor's command may end so by its own note
pub record CanNoteEnded (how : How) (ledger : CellValue) (a : ActorValue) : Type 0 where
  pub of : ℕ
  pub work : Work
  pub command : a.command ≡ doing of work
  pub ends : MayNoteEnd a.setting.servers work a.job how
  pub ledger_is : tag_of ledger ≡ TheLedger

-- an end is noted, and so many promises are used up or given back
pub record NotesEnd (of : ℕ) (how : How) (left : ℕ) (ledger ledger_now : LedgerValue) : Type 0 where
  pub history : ledger_now.history ≡ Ended of how ∷ ledger.history
  pub promised : ledger_now.promised + left ≡ ledger.promised

-- a job that was declined, or that hasn't frozen its shard yet
abbrev pub MayBeLeft : StageValue → Type 0
MayBeLeft (IsDeclined why) = Unit {0}
MayBeLeft IsCalled = Unit {0}
MayBeLeft stage = ⊥

-- the actor's balance leaves the action that it is at; a byte still counts those that are over
pub record CanNoteLeft (ledger : CellValue) (a : ActorValue) : Type 0 where
  pub of : ℕ
  pub balance : Balance
  pub command : a.command ≡ doing of (work_is.Balance balance)
  pub job : JobValue
  pub job_is : a.job ≡ Some job
  pub left : MayBeLeft job.stage
  pub few : balance.over + 1 < 2 ^ 8
  pub stands : HasLoadNext (record balance { over = balance.over + 1 })
  pub ledger_is : tag_of ledger ≡ TheLedger

-- the command is a balance with an action that it is at, and there is a job
pub record MayGoOn (command : Option Command) (has_job : Bool) : Type 0 where
  pub of : ℕ
  pub balance : Balance
  pub command_is : command ≡ doing of (work_is.Balance balance)
  pub few : balance.over + 1 < 2 ^ 8
  pub stands : HasLoadNext (record balance { over = balance.over + 1 })
  pub some : has_job ≡ true

-- a balance is one action on, and this is its job
abbrev pub GoesOn : Option Command → Option Command → Option JobValue → Type 0
GoesOn command command_now job =
    (of : ℕ) (balance : Balance) → command ≡ doing of (work_is.Balance balance)
    → (command_now ≡ doing of (work_is.Balance (record balance { over = balance.over + 1 }))) × (job ≡ next_job (record balance { over = balance.over + 1 }))

-- Pages.

-- a command of which the page is due, and such a page
abbrev pub Shows : Work → Page → Type 0
Shows (work_is.Page subject true false) shown = Asks (class.Page subject) shown
Shows work shown = ⊥

-- the actor's command has begun with the newest event, and such a page is due of it
pub record CanNoteShown (shown : Page) (ledger : CellValue) (a : ActorValue) : Type 0 where
  pub of : ℕ
  pub work : Work
  pub command : a.command ≡ doing of work
  pub shows : Shows work shown
  pub next : length (ledger_in ledger).history ≡ of + 1
  pub ledger_is : tag_of ledger ≡ TheLedger

-- a page is due of a command, if there is one
abbrev pub MayShow : Option Command → Type 0
MayShow command = (of : ℕ) (work : Work) → command ≡ doing of work → is_some (once_shown work) ≡ true

-- and was shown
abbrev pub HasShown : Option Command → Option Command → Type 0
HasShown command command_now = (of : ℕ) (work : Work) → command ≡ doing of work → (work_now : Work) × (once_shown work ≡ Some work_now) × (command_now ≡ doing of work_now)
