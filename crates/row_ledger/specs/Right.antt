-- When a history is right: one fact for each kind of event, over the past behind it.
use Rattle.std.specs.{List.list_any, Prelude.{ℕ, ◌≡◌, ◌==◌, ◌+◌, ◌<◌, ◌≤◌, Bool, true, false, IsTrue, Some, is_some, ◌||◌, List, [], ◌∷◌, length, ⊤}}
use Rattle.measure_agg.specs.Aggregate.{Aggregate}
use Rattle.describing_set.specs.declared.listing.Spot.{Spot}
use Rattle.shard_plan.specs.declared.action.Action.{Action}
use Rattle.shard_plan.specs.declared.action.Action.TheVariants as action
use Rattle.row_ledger.specs.{Bounds.{must, may, IsAllowed}, Classes.{class_of, is_there}, Groups.IsCallOf, Listings.{IsFirstListing, IsListing}, Past.{Insert, Query, before, since, insert_at, query_at, call_at, has_ended, is_idle, has_page, is_kept, is_pull_of, work}, Shards.{is_live, ids_made, is_path}, Work.{shard_of, MayEndAction, IsRightBalance}, declared.class.Class.Class, declared.event.Event.Event, declared.page.Page.Page, declared.settings.Call.Call, declared.settings.How.How, declared.settings.How.TheVariants.{Fine, Balanced, Declined, Postponed, NoMemory}}
use Rattle.row_ledger.specs.declared.class.Class.TheVariants as class
use Rattle.row_ledger.specs.declared.class.Subject.TheVariants as subject
use Rattle.row_ledger.specs.declared.event.Event.TheVariants as event
use Rattle.row_ledger.specs.declared.page.Page.TheVariants as page
use Rattle.row_ledger.specs.declared.settings.Decline.TheVariants as decline
pub use Rattle.row_ledger.specs.Site.{Site}
pub use Rattle.row_ledger.specs.Pages.{IsShown}

-- P holds of each event, with the past behind it
abbrev pub EachEvent : (List Event → Event → Type 0) → List Event → Type 0
EachEvent P [] = ⊤
EachEvent P (e ∷ past) = P past e × EachEvent P past

-- Openings.

-- one of the first events: the pull of the server with the number of its position, which lists the first shards
abbrev pub IsFirstPull : Site → List Event → Event → Type 0
IsFirstPull site past (event.Synced server listing) = (server ≡ length past) × IsFirstListing site listing
IsFirstPull site past e = ⊥

-- as many events as there are servers are first pulls
abbrev pub Opens : Site → List Event → Event → Type 0
Opens site past e = length past < site.servers → IsFirstPull site past e

-- Inserts and queries.

-- an acknowledgement is of an insert that hasn't ended, by a path from a shard that its server has pulled down finished splits
pub record IsRightAck (past : List Event) (of : ℕ) (path : List ℕ) : Type 0 where
  pub insert : Insert
  pub begun : insert_at past of ≡ Some insert
  pub is_open : has_ended past of ≡ false
  pub descends : IsTrue (is_path past insert.server path)

-- an answer is to a query that hasn't ended, and is allowed
pub record IsRightAnswer (site : Site) (usable : ℕ → Bool) (past : List Event) (of : ℕ) (answer : Aggregate) : Type 0 where
  pub query : Query
  pub asked : query_at past of ≡ Some query
  pub is_open : has_ended past of ≡ false
  pub allowed : IsAllowed site.hierarchy (must site.hierarchy (before past of) query.server) (may usable past) query.filter answer

-- a failure is of an insert or a query that hasn't ended
pub record IsRightFailure (past : List Event) (of : ℕ) : Type 0 where
  pub begun : IsTrue (is_some (insert_at past of) || is_some (query_at past of))
  pub is_open : has_ended past of ≡ false

-- Pulls.

-- a call pulls for a server: a sync of it does, and a settle
abbrev pub pulls_for : ℕ → Class → Bool
pulls_for server (class.Sync s) = s == server
pulls_for server class.Settle = true
pulls_for server other = false

-- a pull stands while a call is open that pulls for its server, and lists what stands
pub record IsLaterPull (site : Site) (usable : ℕ → Bool) (past : List Event) (server : ℕ) (listing : List Spot) : Type 0 where
  pub of : ℕ
  pub call : Call
  pub called : call_at past of ≡ Some call
  pub is_open : has_ended past of ≡ false
  pub pulls : IsTrue (pulls_for server (class_of call))
  pub lists : IsListing site usable past server listing

-- Splits and moves.

-- a call asks for this action as its only work, or plans it
abbrev pub AsksFor : List Event → ℕ → Class → Action → Type 0
AsksFor past of (class.Action asked) a = (a ≡ asked) × (work past of ≡ [])
AsksFor past of (class.Balance most) a = ⊤
AsksFor past of other a = ⊥

-- an action is done for a call that hasn't ended, on a shard that stands
pub record IsRightAction (site : Site) (past : List Event) (of : ℕ) (a : Action) : Type 0 where
  pub call : Call
  pub called : call_at past of ≡ Some call
  pub is_open : has_ended past of ≡ false
  pub asked : AsksFor past of (class_of call) a
  pub live : IsTrue (is_live site.workers past (shard_of a))

-- the children of a split have the next two ids
pub record IsRightSplit (site : Site) (past : List Event) (of shard left right : ℕ) : Type 0 where
  pub done : IsRightAction site past of (action.Split shard)
  pub next : left ≡ ids_made site.workers past
  pub after : right ≡ ids_made site.workers past + 1

-- how a planned action may be left
abbrev pub MayLeave : How → Type 0
MayLeave (Declined decline.OnePlace) = ⊤
MayLeave (Declined (decline.NoCell need free)) = ⊤
MayLeave Postponed = ⊤
MayLeave how = ⊥

-- only a balance leaves a planned action, and one that hasn't ended
pub record IsRightLeft (past : List Event) (of : ℕ) (how : How) : Type 0 where
  pub call : Call
  pub most : ℕ
  pub called : call_at past of ≡ Some call
  pub is_open : has_ended past of ≡ false
  pub plans : class_of call ≡ class.Balance most
  pub may_leave : MayLeave how

-- Pages.

-- a page is such as a command asks for: a tree's is that of its shard
abbrev pub Asks : Class → Page → Type 0
Asks (class.Page subject.Shards) (page.Shards lines) = ⊤
Asks (class.Page (subject.Tree shard)) (page.Tree shown) = shown.shard ≡ shard
Asks (class.Page subject.Rows) (page.Audit audit) = ⊤
Asks (class.Page subject.Groups) (page.Group group) = ⊤
Asks other shown = ⊥

-- A page is such as a called command asks for that hasn't ended, the first one for it, and what it tells was so when the
-- command began. It stands right behind the command's beginning, and no other command was open there.
pub record IsRightPage (site : Site) (past : List Event) (of : ℕ) (page : Page) : Type 0 where
  pub call : Call
  pub called : call_at past of ≡ Some call
  pub is_open : has_ended past of ≡ false
  pub first : has_page past of ≡ false
  pub asked : Asks (class_of call) page
  pub next : length past ≡ of + 1
  pub alone : IsTrue (is_idle (before past of))
  pub shown : IsShown site (before past of) call page

-- Ends.

-- the server has pulled since the command began at this position
abbrev pub has_pulled : List Event → ℕ → ℕ → Bool
has_pulled past of server = list_any (is_pull_of server) (since past of)

-- How a called command may end that began at `of`, behind this past. One that does nothing is always fine; a sync is where its
-- server has pulled; a page is declined exactly where what it is of isn't there, unless it finds no memory.
abbrev pub MayEnd : Site → (ℕ → Bool) → List Event → ℕ → Class → How → Type 0
MayEnd site usable past of class.Bare Fine = ⊤
MayEnd site usable past of (class.Sync server) Fine = IsTrue (has_pulled past of server)
MayEnd site usable past of (class.Sync server) NoMemory = ⊤
MayEnd site usable past of class.Settle Fine = ⊤
MayEnd site usable past of class.Settle NoMemory = ⊤
MayEnd site usable past of (class.Action a) how = MayEndAction site usable past of a how
MayEnd site usable past of (class.Balance most) (Balanced done planned) = IsRightBalance site usable past of most done planned
MayEnd site usable past of (class.Balance most) NoMemory = work past of ≡ []
MayEnd site usable past of (class.Page subject) Fine = IsTrue (is_there site.workers (before past of) subject)
MayEnd site usable past of (class.Page subject) (Declined decline.Unknown) = is_there site.workers (before past of) subject ≡ false
MayEnd site usable past of (class.Page subject) NoMemory = ⊤
MayEnd site usable past of other how = ⊥

-- whether a command that ends so has shown a page: one that asks for a page and is fine has, and no other has
abbrev pub shows : Class → How → Bool
shows (class.Page subject) Fine = true
shows other how = false

-- an end is of a called command that hasn't ended, and is one that it may have, with a page where it has to
pub record IsRightEnd (site : Site) (usable : ℕ → Bool) (past : List Event) (of : ℕ) (how : How) : Type 0 where
  pub call : Call
  pub called : call_at past of ≡ Some call
  pub is_open : has_ended past of ≡ false
  pub may_end : MayEnd site usable past of (class_of call) how
  pub page : has_page past of ≡ shows (class_of call) how

-- Histories.

-- the event stands rightly behind this past, the first pulls aside, one for each server; a row's number is the position of its beginning
abbrev pub Stands : Site → (ℕ → Bool) → List Event → Event → Type 0
Stands site usable past (event.Synced server listing) = site.servers ≤ length past → IsLaterPull site usable past server listing
Stands site usable past (event.Begun session server row) = row.no ≡ length past
Stands site usable past (event.Acked of path) = IsRightAck past of path
Stands site usable past (event.Asked session server filter) = ⊤
Stands site usable past (event.Answered of answer) = IsRightAnswer site usable past of answer
Stands site usable past (event.Failed of) = IsRightFailure past of
Stands site usable past (event.Split of shard left right) = IsRightSplit site past of shard left right
Stands site usable past (event.Moved of shard worker) = IsRightAction site past of (action.Move shard worker)
Stands site usable past (event.Left of shard how) = IsRightLeft past of how
Stands site usable past (event.Shown of page) = IsRightPage site past of page
Stands site usable past (event.Ended of how) = IsRightEnd site usable past of how
Stands site usable past (event.Unknown session server dim) = ⊤
Stands site usable past (event.Refused session) = ⊤
Stands site usable past (event.Called session call) = IsCallOf site.hierarchy call

-- the first events open the history, each event stands rightly, and only usable rows are in answers, boxes and counts
pub record StandsRight (site : Site) (usable : ℕ → Bool) (h : List Event) : Type 0 where
  pub opened : site.servers ≤ length h
  pub opening : EachEvent (Opens site) h
  pub each : EachEvent (Stands site usable) h

-- a right history: its usable rows are those whose insert ends nowhere in it for want of memory
abbrev pub IsRight : Site → List Event → Type 0
IsRight site h = StandsRight site (is_kept h) h
