-- What the steps of commands at images, desks and the ledger do to the cells that they hold and to their actor.
use Rattle.std.specs.Prelude.{ℕ, ◌≡◌, ◌&&◌, ◌+◌, ◌<◌, ◌⊎◌, Bool, true, false, nat_lt, List, [], ◌∷◌, Option, Some, None, option_map, map, length, slice_get, if◌then◌else◌}
use Rattle.dim_hierarchy.specs.{Dimension.Dimension, Filter.IsFilterOf, Rows.IsRowOf, declared.filter.Pick.Pick, declared.row.Row.Row}
use Rattle.describing_set.specs.declared.listing.Spot.{Spot}
use Rattle.measure_agg.specs.Aggregate.{Aggregate}
use Rattle.query_router.specs.{Desk.{DeskValue, verdict_of}, declared.part.Part.Part}
use Rattle.query_router.specs.declared.part.PartState.TheVariants as state
use Rattle.query_router.specs.declared.part.Verdict.TheVariants as verdict
use Rattle.query_router.specs.declared.part.Want.TheVariants as want
use Rattle.row_ledger.specs.{Classes.class_of, LedgerValue.LedgerValue, declared.class.Class.Class, declared.class.Subject.Subject, declared.event.Event.Event, declared.page.Page.Page, declared.settings.Call.Call, declared.settings.How.How}
use Rattle.row_ledger.specs.declared.class.Class.TheVariants as class
use Rattle.row_ledger.specs.declared.class.Subject.TheVariants as subject
use Rattle.row_ledger.specs.declared.event.Event.TheVariants as event
use Rattle.row_ledger.specs.declared.settings.How.TheVariants as how
use Rattle.server_image.specs.{Image.{ImageValue, IsRoute, IsAcked, IsSynced, planned}, Registry.{RegistryValue, host_of, on_frontier}}
use Rattle.shard_plan.specs.{declared.action.Action.Action, declared.action.Load.Load}
use Rattle.shard_plan.specs.declared.action.Action.TheVariants as action
use Rattle.volap_cell.specs.{Cells.{LedgerCell, RegistryCell, ImageCell}, Commands.{MayCall, server_of, owes, due_pull, pulled_once, once_shown, after_action, MayNoteEnd}, Planning.next_job, ShardKinds.{TurnsDesk, waiting}, Values.{ActorValue, JobValue, StageValue, IsCalled, IsDeclined}, World.Change, declared.command.Balance.Balance, declared.command.Command.Command, declared.command.Work.Work, declared.role.Role.TheVariants.Session}
use Rattle.volap_cell.specs.declared.command.Work.TheVariants as work_is

-- The ledger gets an event. So many promises more or less are left: those before and what is newly promised are those afterwards
-- and what is used up or given back.
pub record Pushes (e : Event) (promised_more used : ℕ) (l : Change) (seen : ℕ) : Type 0 where
  pub ledger : LedgerValue
  pub ledger_now : LedgerValue
  pub was : l.before ≡ LedgerCell ledger
  pub is : l.now ≡ LedgerCell ledger_now
  pub history : ledger_now.history ≡ e ∷ ledger.history
  pub promised : ledger.promised + promised_more ≡ ledger_now.promised + used
  pub all_seen : seen ≡ length ledger_now.history

-- an image becomes another one
pub record TurnsImage (server : ℕ) (image image_now : ImageValue) (i : Change) : Type 0 where
  pub was : i.before ≡ ImageCell server image
  pub is : i.now ≡ ImageCell server image_now

-- the actor begins no command while it has one, a part or a job
pub record IsFree (a : ActorValue) : Type 0 where
  pub command : a.command ≡ None
  pub errand : a.errand ≡ None
  pub job : a.job ≡ None

abbrev pub doing : ℕ → Work → Option Command
doing of work = Some (record { of = of; work = work })

-- Inserts.

-- an insert begins: its server's image owes an acknowledgement more, and its end is promised
pub record DoesBeginInsert (h : List Dimension) (i l : Change) (a b : ActorValue) : Type 0 where
  pub free : IsFree a
  pub server : ℕ
  pub role : a.role ≡ Session server
  pub row : Row
  pub valid : IsRowOf h row
  pub image : ImageValue
  pub owes_more : TurnsImage server image (record image { owed = image.owed + 1 }) i
  pub begun : Pushes (event.Begun a.number server row) 2 1 l b.seen
  pub number : row.no ≡ length begun.ledger.history
  pub actor_is : b ≡ record a { command = doing row.no (work_is.Insert row false); seen = b.seen }

-- the part of a row that is sent to a listed shard
abbrev pub part_for : Row → Spot → Part
part_for row spot = waiting spot.shard spot.worker (spot.shard ∷ []) (want.Row row)

-- the insert's one part waits on the desk of its server for the worker of the shard that comes first for it
pub record DoesRoute (h : List Dimension) (d i : Change) (a b : ActorValue) : Type 0 where
  pub of : ℕ
  pub row : Row
  pub command : a.command ≡ doing of (work_is.Insert row false)
  pub server : ℕ
  pub role : a.role ≡ Session server
  pub image : ImageValue
  pub same : TurnsImage server image image i
  pub place : ℕ
  pub first : IsRoute h row.at image.spots place
  pub spot : Spot
  pub spot_at : slice_get image.spots place ≡ Some spot
  pub desk : DeskValue
  pub empty : desk.op ≡ None
  pub put : TurnsDesk server desk (record desk { op = Some of; parts = part_for row spot ∷ [] }) d
  pub actor_is : b ≡ record a { command = doing of (work_is.Insert row true) }

-- the desk with no command
abbrev pub cleared : DeskValue → DeskValue
cleared desk = record desk { op = None; parts = [] }

-- the insert whose part is placed is acknowledged, and the image grows by it
pub record DoesAck (h : List Dimension) (d i l : Change) (a b : ActorValue) : Type 0 where
  pub of : ℕ
  pub row : Row
  pub command : a.command ≡ doing of (work_is.Insert row true)
  pub idle : a.errand ≡ None
  pub server : ℕ
  pub role : a.role ≡ Session server
  pub desk : DeskValue
  pub op : desk.op ≡ Some of
  pub part : Part
  pub parts : desk.parts ≡ part ∷ []
  pub path : List ℕ
  pub placed : part.state ≡ state.Placed path
  pub clear : TurnsDesk server desk (cleared desk) d
  pub image : ImageValue
  pub image_now : ImageValue
  pub grows : IsAcked h path row.at image image_now
  pub turns : TurnsImage server image image_now i
  pub acked : Pushes (event.Acked of path) 0 1 l b.seen
  pub actor_is : b ≡ record a { command = None; seen = b.seen }

-- Queries.

-- the part of a query at a listed shard
abbrev pub query_part : List Pick → Spot → Part
query_part filter spot = waiting spot.shard spot.worker [] (want.Filter filter)

-- a query begins: a part for each listed shard whose box overlaps its filter waits on its server's desk
pub record DoesBeginQuery (h : List Dimension) (d i l : Change) (a b : ActorValue) : Type 0 where
  pub free : IsFree a
  pub server : ℕ
  pub role : a.role ≡ Session server
  pub filter : List Pick
  pub valid : IsFilterOf h filter
  pub dims : 0 < length h
  pub image : ImageValue
  pub same : TurnsImage server image image i
  pub desk : DeskValue
  pub empty : desk.op ≡ None
  pub asked : Pushes (event.Asked a.number server filter) 2 1 l b.seen
  pub put : TurnsDesk server desk (record desk { op = Some (length asked.ledger.history); parts = map (query_part filter) (planned h filter image.spots) }) d
  pub actor_is : b ≡ record a { command = doing (length asked.ledger.history) work_is.Query; seen = b.seen }

-- the query of which all parts are done is answered with what they have together
pub record DoesAnswer (d l : Change) (a b : ActorValue) : Type 0 where
  pub of : ℕ
  pub command : a.command ≡ doing of work_is.Query
  pub idle : a.errand ≡ None
  pub server : ℕ
  pub role : a.role ≡ Session server
  pub desk : DeskValue
  pub op : desk.op ≡ Some of
  pub answer : Aggregate
  pub sum : verdict_of desk.parts ≡ Some (verdict.Sum answer)
  pub clear : TurnsDesk server desk (cleared desk) d
  pub answered : Pushes (event.Answered of answer) 0 1 l b.seen
  pub actor_is : b ≡ record a { command = None; seen = b.seen }

-- Pulls.

-- the server that is next pushes and pulls; what its image owes stays
pub record DoesSync (h : List Dimension) (i r l : Change) (a b : ActorValue) : Type 0 where
  pub of : ℕ
  pub work : Work
  pub command : a.command ≡ doing of work
  pub server : ℕ
  pub due : due_pull a.setting.servers work ≡ Some server
  pub image : ImageValue
  pub image_now : ImageValue
  pub registry : RegistryValue
  pub registry_now : RegistryValue
  pub listing : List Spot
  pub synced : IsSynced h image image_now registry registry_now listing
  pub turns_image : TurnsImage server image image_now i
  pub was : r.before ≡ RegistryCell registry
  pub is : r.now ≡ RegistryCell registry_now
  pub pulled : Pushes (event.Synced server listing) 1 1 l b.seen
  pub actor_is : b ≡ record a { command = doing of (pulled_once work); seen = b.seen }

-- Notes.

-- a command names what isn't known
pub record NotesUnknown (l : Change) (a b : ActorValue) : Type 0 where
  pub free : IsFree a
  pub dim : ℕ
  pub pushed : Pushes (event.Unknown a.number (server_of a.role) dim) 1 1 l b.seen
  pub actor_is : b ≡ record a { seen = b.seen }

-- a command finds no memory before it begins
pub record NotesRefused (l : Change) (a b : ActorValue) : Type 0 where
  pub free : IsFree a
  pub pushed : Pushes (event.Refused a.number) 1 1 l b.seen
  pub actor_is : b ≡ record a { seen = b.seen }

-- the job of a split or a move as it begins; it has none where its shard, or the worker that it is to go to, doesn't stand
abbrev pub job_called : RegistryValue → ℕ → Option ℕ → Bool → Option JobValue
job_called r shard to known =
    if known then option_map (λ worker. record { shard = shard; worker = worker; to = to; stage = IsCalled }) (host_of shard r) else None

-- a load whose rows aren't read yet
abbrev pub unread_load : Spot → Load
unread_load spot = record { shard = spot.shard; worker = spot.worker; rows = 0 }

-- a balance that has read nothing of the shards that stand, of which there is one
pub record IsNewBalance (r : RegistryValue) (most : ℕ) (b : Balance) : Type 0 where
  pub most_is : b.most ≡ most
  pub loads : b.loads ≡ map unread_load r.frontier
  pub some : 0 < length b.loads
  pub standing : b.standing ≡ b.loads
  pub read : b.read ≡ 0
  pub plan : b.plan ≡ None
  pub over : b.over ≡ 0
  pub done : b.done ≡ 0

abbrev pub job_begun : ℕ → RegistryValue → Action → Option JobValue
job_begun workers r (action.Split shard) = job_called r shard None (on_frontier shard r)
job_begun workers r (action.Move shard worker) = job_called r shard (Some worker) (on_frontier shard r && nat_lt worker workers)

-- whether there is what a page is of
abbrev pub subject_stands : RegistryValue → Subject → Bool
subject_stands r (subject.Tree shard) = on_frontier shard r
subject_stands r _ = true

-- the work of a call as it begins, where these shards stand
abbrev pub IsBegun : ℕ → RegistryValue → Class → Work → Option JobValue → Type 0
IsBegun workers r (class.Sync server) work job = (work ≡ work_is.Sync server false) × (job ≡ None)
IsBegun workers r class.Settle work job = (work ≡ work_is.Settle 0) × (job ≡ None)
IsBegun workers r class.Bare work job = (work ≡ work_is.Bare) × (job ≡ None)
IsBegun workers r (class.Page subject) work job = (work ≡ work_is.Page subject (subject_stands r subject) false) × (job ≡ None)
IsBegun workers r (class.Action a) work job = (work ≡ work_is.Action a) × (job ≡ job_begun workers r a)
IsBegun workers r (class.Balance most) work job = (job ≡ None) × ((b : Balance) × (work ≡ work_is.Balance b) × IsNewBalance r most b)

-- whether the call asks what stands: then the registry is held, and stays as it is
abbrev pub asks_registry : Class → Bool
asks_registry (class.Page (subject.Tree shard)) = true
asks_registry (class.Action a) = true
asks_registry (class.Balance most) = true
asks_registry _ = false

pub record IsAsked (registry : RegistryValue) (r : Change) : Type 0 where
  pub was : r.before ≡ RegistryCell registry
  pub same : r.now ≡ r.before

-- a command of another kind begins, with promises for all that it may still push
pub record NotesCalled (registry : RegistryValue) (asks : Bool) (l : Change) (a b : ActorValue) : Type 0 where
  pub free : IsFree a
  pub called : Call
  pub allowed : MayCall a.role called
  pub asks_is : asks_registry (class_of called) ≡ asks
  pub work : Work
  pub job : Option JobValue
  pub begun : IsBegun a.setting.workers registry (class_of called) work job
  pub pushed : Pushes (event.Called a.number called) (1 + owes work) 1 l b.seen
  pub actor_is : b ≡ record a { command = doing (length pushed.ledger.history) work; job = job; seen = b.seen }

-- an insert for which no part was routed yet ends for want of memory; its image owes its acknowledgement no more
pub record FailsUnrouted (i l : Change) (a b : ActorValue) : Type 0 where
  pub of : ℕ
  pub row : Row
  pub command : a.command ≡ doing of (work_is.Insert row false)
  pub server : ℕ
  pub role : a.role ≡ Session server
  pub image : ImageValue
  pub image_now : ImageValue
  pub forgoes : image ≡ record image_now { owed = image_now.owed + 1 }
  pub turns : TurnsImage server image image_now i
  pub failed : Pushes (event.Failed of) 0 1 l b.seen
  pub actor_is : b ≡ record a { command = None; seen = b.seen }

-- the command on the desk has a part for which no memory was found, and none is open
pub record IsRefused (server of : ℕ) (d : Change) : Type 0 where
  pub desk : DeskValue
  pub op : desk.op ≡ Some of
  pub refused : verdict_of desk.parts ≡ Some verdict.NoMemory
  pub clear : TurnsDesk server desk (cleared desk) d

-- so does an insert whose part found no memory before its gate
pub record FailsRouted (d i l : Change) (a b : ActorValue) : Type 0 where
  pub of : ℕ
  pub row : Row
  pub command : a.command ≡ doing of (work_is.Insert row true)
  pub idle : a.errand ≡ None
  pub server : ℕ
  pub role : a.role ≡ Session server
  pub refused : IsRefused server of d
  pub image : ImageValue
  pub image_now : ImageValue
  pub forgoes : image ≡ record image_now { owed = image_now.owed + 1 }
  pub turns : TurnsImage server image image_now i
  pub failed : Pushes (event.Failed of) 0 1 l b.seen
  pub actor_is : b ≡ record a { command = None; seen = b.seen }

-- and a query of which a part found no memory
pub record FailsQuery (d l : Change) (a b : ActorValue) : Type 0 where
  pub of : ℕ
  pub command : a.command ≡ doing of work_is.Query
  pub idle : a.errand ≡ None
  pub server : ℕ
  pub role : a.role ≡ Session server
  pub refused : IsRefused server of d
  pub failed : Pushes (event.Failed of) 0 1 l b.seen
  pub actor_is : b ≡ record a { command = None; seen = b.seen }

-- how an action of a balance is left: declined, or for want of memory before its shard was frozen
abbrev pub LeavesAs : StageValue → How → Type 0
LeavesAs (IsDeclined decline) h = h ≡ how.Declined decline
LeavesAs IsCalled h = h ≡ how.Postponed
LeavesAs stage h = ⊥

-- the action that a balance is at is left, and the next one is due
pub record NotesLeft (l : Change) (a b : ActorValue) : Type 0 where
  pub of : ℕ
  pub balance : Balance
  pub command : a.command ≡ doing of (work_is.Balance balance)
  pub job : JobValue
  pub job_is : a.job ≡ Some job
  pub left_as : How
  pub leaves : LeavesAs job.stage left_as
  pub left : Pushes (event.Left of job.shard left_as) 0 1 l b.seen
  pub actor_is : b ≡ record a {
    command = doing of (work_is.Balance (after_action false job balance));
    job = next_job (after_action false job balance);
    seen = b.seen;
  }

-- A page is shown right behind the beginning of its command. That it is what the state has is said of the whole step.
pub record NotesShown (page : Page) (l : Change) (a b : ActorValue) : Type 0 where
  pub of : ℕ
  pub work : Work
  pub work_now : Work
  pub command : a.command ≡ doing of work
  pub once : once_shown work ≡ Some work_now
  pub shown : Pushes (event.Shown of page) 0 1 l b.seen
  pub next : length shown.ledger.history ≡ of + 1
  pub actor_is : b ≡ record a { command = doing of work_now; seen = b.seen }

-- a command that isn't an insert or a query ends, and gives back the promises that it didn't need
pub record NotesEnded (l : Change) (a b : ActorValue) : Type 0 where
  pub of : ℕ
  pub work : Work
  pub command : a.command ≡ doing of work
  pub how_it_ends : How
  pub ends : MayNoteEnd a.setting.servers work a.job how_it_ends
  pub ended : Pushes (event.Ended of how_it_ends) 0 (owes work) l b.seen
  pub actor_is : b ≡ record a { command = None; job = None; seen = b.seen }

-- a session is counted in at its server's desk, or out
pub record CountsSession (d : Change) (a b : ActorValue) : Type 0 where
  pub server : ℕ
  pub role : a.role ≡ Session server
  pub desk : DeskValue
  pub desk_now : DeskValue
  pub turns : TurnsDesk server desk desk_now d
  pub counts :
      ((a.counted ≡ false) × (b.counted ≡ true) × (desk_now ≡ record desk { sessions = desk.sessions + 1 }))
      ⊎ ((a.counted ≡ true) × (b.counted ≡ false) × (desk ≡ record desk_now { sessions = desk_now.sessions + 1 }))
  pub actor_is : b ≡ record a { counted = b.counted }

-- with the ledger alone, or for a count the desk alone
pub data DoesNote (c : Change) (a b : ActorValue) : Type 0 where
  OfUnknown : NotesUnknown c a b → DoesNote c a b
  OfRefused : NotesRefused c a b → DoesNote c a b
  OfCalled : (registry : RegistryValue) → NotesCalled registry false c a b → DoesNote c a b
  OfLeft : NotesLeft c a b → DoesNote c a b
  OfShown : (page : Page) → NotesShown page c a b → DoesNote c a b
  OfEnded : NotesEnded c a b → DoesNote c a b
  OfCount : CountsSession c a b → DoesNote c a b

-- with one cell besides: the registry, the image, or the desk
pub data DoesNoteWith (c l : Change) (a b : ActorValue) : Type 0 where
  OfCalledAsking : (registry : RegistryValue) → IsAsked registry c → NotesCalled registry true l a b → DoesNoteWith c l a b
  OfUnrouted : FailsUnrouted c l a b → DoesNoteWith c l a b
  OfQuery : FailsQuery c l a b → DoesNoteWith c l a b
