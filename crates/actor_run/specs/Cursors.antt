-- What a cursor promises: a session's query that its caller takes block by block.
use Rattle.std.specs.Prelude.{ℕ, ◌≡◌, ◌≢◌, ◌≤◌, ◌+◌, List, Some, None}
use Rattle.actor_run.specs.Driving.{IsOpenSince}
use Rattle.actor_run.specs.Sessions.{Began, GoesOn, IsNewest, IsSession, SessionValue, session_of}
use Rattle.actor_run.specs.declared.cursor.Visit.{Visit}
use Rattle.actor_run.specs.declared.cursor.Visit.TheVariants as visit
use Rattle.actor_run.specs.declared.session.Asked.TheVariants as asked
use Rattle.actor_run.specs.declared.session.Asked.{Asked as AskedAnswer}
use Rattle.whole_steps.specs.core_tree.specs.ReadDue.{room_to_note}
use Rattle.dim_hierarchy.specs.{Filter.{IsFilterNamed, IsFilterOf}, declared.filter.{NamePick.NamePick, Pick.Pick}}
use Rattle.whole_steps.specs.link_descent.specs.Visit.{most_noted}
use Rattle.measure_agg.specs.Aggregate.{Aggregate}
use Rattle.row_ledger.specs.declared.event.Event.{Event}
use Rattle.row_ledger.specs.declared.event.Event.TheVariants.{Answered, Asked, Failed}
use Rattle.whole_steps.specs.part_steps.specs.Reads.{IsBeforeBlocks, VisitsBlock, noted_by}
use Rattle.whole_steps.specs.seat_steps.specs.declared.floor.{Floor.Floor, Player.Player}
use Rattle.whole_steps.specs.session_steps.specs.Begins.{HasAsked}
use Rattle.turn_table.specs.Numbered.{Extends}
use Rattle.whole_steps.specs.volap_cell.specs.Values.{ActorValue, actor_of}

-- The session as it was, where the query began and with which filter, the history that is seen now, what the actor is at, how many
-- blocks it can note without memory, how many tries at its seat were refused, and which cell the last of these was at and which word
-- it read.
pub record CursorValue : Type 0 where
  pub was : SessionValue
  pub of : ℕ
  pub filter : List Pick
  pub seen : List Event
  pub actor : ActorValue
  pub room : ℕ
  pub refused : ℕ
  pub tried : ℕ × ℕ

abbrev pub cursor_of : Floor → ℕ → Player → ℕ → List Pick → Player → CursorValue
cursor_of f server was of filter now = record { was = session_of f server was; of = of; filter = filter; seen = now.seat.view.seen; actor = actor_of now.actor; room = room_to_note now.actor; refused = now.seat.view.refused; tried = now.seat.view.note }

-- A session asked a query, which is open.
pub record IsCursor (f : Floor) (server : ℕ) (was : Player) (of : ℕ) (filter : List Pick) (now : Player) : Type 0 where
  pub session : IsSession f server was
  pub valid : IsFilterOf f.hierarchy filter
  pub start : Player
  pub asked : HasAsked f of filter was start
  pub since : IsOpenSince f start now

-- The query of a session with these picks has begun so, and is open. No block was visited for it.
pub record BeginsCursor (f : Floor) (names : List NamePick) (of : ℕ) (filter : List Pick) (was now : Player) : Type 0 where
  pub named : IsFilterNamed f.hierarchy names filter
  pub start : Player
  pub asked : HasAsked f of filter was start
  pub since : IsOpenSince f start now
  pub unvisited : IsBeforeBlocks f.hierarchy (actor_of now.actor)

-- The cursor is that of a session's query with these picks. No block was visited for it.
pub record IsCursorFor (names : List NamePick) (s : SessionValue) (c : CursorValue) : Type 0 where
  pub session : c.was ≡ s
  pub named : IsFilterNamed s.floor.hierarchy names c.filter
  pub later : Extends c.seen s.seen
  pub began : Began c.of (Asked s.number s.server c.filter) s (record s { seen = c.seen })
  pub unvisited : IsBeforeBlocks s.floor.hierarchy c.actor

-- Visits.

-- what is noted last can be visited without memory
abbrev pub HasRoom : CursorValue → Type 0
HasRoom c = (block : ℕ) → noted_by c.actor ≡ Some block → most_noted ≤ c.room

-- The query has visited the block that was noted last, by one step.
pub record HasVisited (was now : CursorValue) : Type 0 where
  pub block : ℕ
  pub noted : noted_by was.actor ≡ Some block
  pub visit : VisitsBlock was.was.floor.hierarchy block was.actor now.actor
  pub later : Extends now.seen was.seen
  pub same : now ≡ record was { seen = now.seen; actor = now.actor; room = now.room; refused = now.refused; tried = now.tried }

-- One more try was refused, and it read this word of this cell. Nothing else has changed.
abbrev pub WasRefused : (cell word : ℕ) → CursorValue → CursorValue → Type 0
WasRefused cell word was now = now ≡ record was { refused = was.refused + 1; tried = (cell, word) }

-- it has, or no block is noted
abbrev pub Visited : Visit → CursorValue → CursorValue → Type 0
Visited visit.Went was now = HasVisited was now
Visited visit.NonePending was now = (noted_by was.actor ≡ None) × (now ≡ was)

-- The end.

-- the query is answered, or it found no memory
abbrev pub Finishes : AskedAnswer → CursorValue → SessionValue → Type 0
Finishes (asked.Answer of agg) c s = (of ≡ c.of) × IsNewest (Answered c.of agg) s
Finishes (asked.Unknown dim) c s = ⊥
Finishes asked.NoMemory c s = IsNewest (Failed c.of) s

-- The query has ended so; the session has seen what the cursor had or more, and has begun nothing else.
pub record HasFinished (r : AskedAnswer) (c : CursorValue) (s : SessionValue) : Type 0 where
  pub goes : GoesOn c.was s
  pub later : Extends s.seen c.seen
  pub began : Began c.of (Asked s.number s.server c.filter) c.was s
  pub ends : Finishes r c s

-- a refusal is no answer
abbrev pub IsNoAnswer : AskedAnswer → Type 0
IsNoAnswer r = (of : ℕ) (agg : Aggregate) → r ≢ asked.Answer of agg
