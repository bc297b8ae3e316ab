-- What the calls of a session promise: of the history that it had seen and of the one that it has seen then, the newest event first.
use Rattle.std.specs.Prelude.{ℕ, ℤ, ◌≡◌, ◌^◌, ◌<◌, ◌≤◌, ◌⊎◌, true, List, [], ◌∷◌, ◌++◌, length, position, is_none, Some, Result, Ok, Err}
use mathlib.Core.Option.{some}
use Rattle.actor_run.specs.{Called.EndsCall, Passes.PassValue}
use Rattle.dim_hierarchy.specs.{Filter.{IsFilterNamed, picks}, Row.{IsCoordNamed, leaves}, declared.filter.{NamePick.NamePick, Pick.Pick}, declared.row.Coord.Coord}
use Rattle.row_ledger.specs.{Past.event_at, Right.IsRight, Site.site_of, declared.event.Event.Event}
use Rattle.row_ledger.specs.declared.event.Event.TheVariants.{Acked, Answered, Asked, Begun, Failed, Refused, Unknown}
use Rattle.row_ledger.specs.declared.settings.{Call.TheVariants.Sync, How.How, How.TheVariants.{Fine, NoMemory}}
use Rattle.script_run.specs.Places.{begins_of}
use Rattle.actor_run.specs.declared.session.Asked.TheVariants as asked
use Rattle.actor_run.specs.declared.session.Inserted.TheVariants as inserted
use Rattle.actor_run.specs.declared.session.Synced.TheVariants as synced
use Rattle.actor_run.specs.declared.session.Asked.{Asked as AskedAnswer}
use Rattle.actor_run.specs.declared.session.Inserted.{Inserted}
use Rattle.actor_run.specs.declared.session.Synced.{Synced}
use Rattle.whole_steps.specs.seat_steps.specs.{Floors.Stands, declared.floor.{Floor.Floor, Player.Player}}
use Rattle.whole_steps.specs.session_steps.specs.Begins.{row_at}
use Rattle.turn_table.specs.Numbered.{Extends, value_of}
use Rattle.whole_steps.specs.volap_cell.specs.{ImageKinds.IsFree, Setting.{actor_count, site_in}, Values.actor_of, declared.actor.Actor.Actor, declared.role.Role.Role, declared.role.Role.TheVariants.Session}

-- Sessions.

pub record SessionValue : Type 0 where
  pub floor : Floor
  pub number : ℕ
  pub server : ℕ
  pub seen : List Event

abbrev pub session_of : Floor → ℕ → Player → SessionValue
session_of f server p = record { floor = f; number = p.number; server = server; seen = p.seat.view.seen }

-- Between its calls a session has nothing open, its desk counts it, and it has noted no more than it has seen; that is right.
pub record IsSession (f : Floor) (server : ℕ) (p : Player) : Type 0 where
  pub stands : Stands f p
  pub role : (actor_of p.actor).role ≡ Session server
  pub free : IsFree (actor_of p.actor)
  pub counted : (actor_of p.actor).counted ≡ true
  pub alone : (j : ℕ) (x : Actor) → value_of p.seat.view.actors j ≡ some x → j ≡ p.number
  pub noted : (actor_of p.actor).seen ≤ length p.seat.view.seen
  pub few : actor_count (actor_of p.actor).setting < 2 ^ 16
  pub right : IsRight (site_in (actor_of p.actor).setting) p.seat.view.seen

-- a session, and how many events it has seen
pub record IsSessionWith (f : Floor) (server : ℕ) (p : Player) (seen : ℕ) : Type 0 where
  pub session : IsSession f server p
  pub count : seen ≡ length p.seat.view.seen

abbrev pub IsSessionRole : Role → Type 0
IsSessionRole role = (server : ℕ) × (role ≡ Session server)

-- It is the session of the pass, and has seen what that had or more. It has begun nothing there that the pass hadn't seen.
pub record IsPassFor (f : Floor) (pass : PassValue) (s : SessionValue) : Type 0 where
  pub floor : s.floor ≡ f
  pub number : s.number ≡ pass.number
  pub role : pass.role ≡ Session s.server
  pub seen : Extends s.seen pass.seen
  pub begun : begins_of s.seen pass.number ≡ begins_of pass.seen pass.number

-- The session becomes this pass, which has seen what it had or more. The session has begun nothing there that it hadn't seen.
pub record BecomesPass (s : SessionValue) (pass : PassValue) : Type 0 where
  pub number : pass.number ≡ s.number
  pub role : pass.role ≡ Session s.server
  pub seen : Extends pass.seen s.seen
  pub begun : begins_of pass.seen s.number ≡ begins_of s.seen s.number

-- Calls.

-- The session has seen what it had or more; that is right.
pub record GoesOn (was now : SessionValue) : Type 0 where
  pub same : now ≡ record was { seen = now.seen }
  pub later : Extends now.seen was.seen
  pub right : IsRight (site_of now.floor.with now.floor.hierarchy) now.seen

-- Its command began with this event, at or past the end of what it had seen; it began nothing else.
pub record Began (of : ℕ) (e : Event) (was now : SessionValue) : Type 0 where
  pub past : length was.seen ≤ of
  pub at : event_at now.seen of ≡ Some e
  pub one : begins_of now.seen was.number ≡ begins_of was.seen was.number ++ of ∷ []

-- the newest event that it has seen is this one
abbrev pub IsNewest : Event → SessionValue → Type 0
IsNewest e s = (older : List Event) × (s.seen ≡ e ∷ older)

-- its command is over as it began, by the newest event, or it has begun nothing
abbrev pub IsOneEvent : Event → SessionValue → SessionValue → Type 0
IsOneEvent e was now = IsNewest e now × ((of : ℕ) × Began of e was now)

abbrev pub BeganNothing : SessionValue → SessionValue → Type 0
BeganNothing was now = begins_of now.seen was.number ≡ begins_of was.seen was.number

-- An insert's row is that of these names and measures.

pub record BeganInsert (of : ℕ) (names : List (List ℕ)) (measures : ℤ) (was now : SessionValue) : Type 0 where
  pub at : Coord
  pub named : IsCoordNamed was.floor.hierarchy names at
  pub began : Began of (Begun was.number was.server (row_at of at measures)) was now

-- how one ends of which something stands in the history
abbrev pub EndedInsert : Inserted → List (List ℕ) → ℤ → SessionValue → SessionValue → Type 0
EndedInsert (inserted.Ok of) names measures was now = BeganInsert of names measures was now × ((path : List ℕ) × IsNewest (Acked of path) now)
EndedInsert (inserted.Unknown dim) names measures was now = (position is_none (leaves was.floor.hierarchy names) ≡ Some dim) × IsOneEvent (Unknown was.number was.server dim) was now
EndedInsert inserted.NoMemory names measures was now = IsOneEvent (Refused was.number) was now ⊎ ((of : ℕ) × BeganInsert of names measures was now × IsNewest (Failed of) now)

-- where memory is wanting it may be that nothing of it does
abbrev pub EndsInsert : Inserted → List (List ℕ) → ℤ → SessionValue → SessionValue → Type 0
EndsInsert inserted.NoMemory names measures was now = BeganNothing was now ⊎ EndedInsert inserted.NoMemory names measures was now
EndsInsert r names measures was now = EndedInsert r names measures was now

-- or that is told
abbrev pub TriesInsert : {E : Type 0} → Result Inserted E → List (List ℕ) → ℤ → SessionValue → SessionValue → Type 0
TriesInsert (Ok r) names measures was now = EndedInsert r names measures was now
TriesInsert (Err e) names measures was now = BeganNothing was now

pub record DoesInsert (r : Inserted) (names : List (List ℕ)) (measures : ℤ) (was now : SessionValue) : Type 0 where
  pub goes : GoesOn was now
  pub ends : EndsInsert r names measures was now

pub record DoesTryInsert {E : Type 0} (r : Result Inserted E) (names : List (List ℕ)) (measures : ℤ) (was now : SessionValue) : Type 0 where
  pub goes : GoesOn was now
  pub tries : TriesInsert r names measures was now

-- A query's filter is that of these picks.

pub record BeganQuery (of : ℕ) (names : List NamePick) (was now : SessionValue) : Type 0 where
  pub filter : List Pick
  pub named : IsFilterNamed was.floor.hierarchy names filter
  pub began : Began of (Asked was.number was.server filter) was now

abbrev pub EndedQuery : AskedAnswer → List NamePick → SessionValue → SessionValue → Type 0
EndedQuery (asked.Answer of agg) names was now = BeganQuery of names was now × IsNewest (Answered of agg) now
EndedQuery (asked.Unknown dim) names was now = (position is_none (picks was.floor.hierarchy names) ≡ Some dim) × IsOneEvent (Unknown was.number was.server dim) was now
EndedQuery asked.NoMemory names was now = IsOneEvent (Refused was.number) was now ⊎ ((of : ℕ) × BeganQuery of names was now × IsNewest (Failed of) now)

abbrev pub EndsQuery : AskedAnswer → List NamePick → SessionValue → SessionValue → Type 0
EndsQuery asked.NoMemory names was now = BeganNothing was now ⊎ EndedQuery asked.NoMemory names was now
EndsQuery r names was now = EndedQuery r names was now

abbrev pub TriesQuery : {E : Type 0} → Result AskedAnswer E → List NamePick → SessionValue → SessionValue → Type 0
TriesQuery (Ok r) names was now = EndedQuery r names was now
TriesQuery (Err e) names was now = BeganNothing was now

pub record DoesQuery (r : AskedAnswer) (names : List NamePick) (was now : SessionValue) : Type 0 where
  pub goes : GoesOn was now
  pub ends : EndsQuery r names was now

pub record DoesTryQuery {E : Type 0} (r : Result AskedAnswer E) (names : List NamePick) (was now : SessionValue) : Type 0 where
  pub goes : GoesOn was now
  pub tries : TriesQuery r names was now

-- A pull is of the session's server.

abbrev pub how_of : Synced → How
how_of synced.Ok = Fine
how_of synced.NoMemory = NoMemory

abbrev pub EndsSync : Synced → SessionValue → SessionValue → Type 0
EndsSync r was now = EndsCall was.floor was.number (Sync was.server) (how_of r) was.seen now.seen

pub record DoesSync (r : Synced) (was now : SessionValue) : Type 0 where
  pub goes : GoesOn was now
  pub ends : EndsSync r was now
