-- A history is a run of a script's commands, whole or in part.
use Rattle.std.specs.{List.AllZip, Prelude.{ℕ, ◌≡◌, ◌≢◌, ◌+◌, ◌<◌, ◌⊎◌, ⊤, Bool, true, false, IsTrue, Option, Some, None, is_none, List, zip, position, AllPairs, Contains, IfSome, [], ◌∷◌, length, take}}
use Rattle.dim_hierarchy.specs.{Dimension.Dimension, Filter.{IsFilterNamed, picks}, Row.{IsCoordNamed, leaves}, declared.filter.Pick.Pick}
use Rattle.row_ledger.specs.declared.settings.Call.TheVariants as call_is
use Rattle.row_ledger.specs.{Classes.class_of, Past.{event_at, before, is_over, is_beginning, call_at}, Right.EachEvent, Settled.{pulls_since, settle_pulls}, Site.known, declared.class.Class.Class, declared.class.Class.TheVariants.{Sync, Settle, Bare}, declared.event.Event.Event, declared.event.Event.TheVariants.{Begun, Acked, Asked, Unknown, Failed, Refused, Called, Ended}, declared.settings.Call.Call, declared.settings.How.How, declared.settings.How.TheVariants.{Fine, NoMemory}, declared.settings.Use.Use}
use Rattle.script_form.specs.{declared.script.Command.Command, declared.script.Command.TheVariants.{Insert, Query, Control, Group}}
use Rattle.script_run.specs.{Phases.{phases_to, ranks}, Places.{session_of, session_of_call, server_for, places, are_over, end_of}}

-- How a command begins, and that one ends before another begins.

-- what does nothing takes no memory, so it is never refused
abbrev pub can_be_refused : Class → Bool
can_be_refused Bare = false
can_be_refused class = true

-- The first dimension in which a command's name is not known: an insert's is that of no leaf concept, a query's and a
-- group's of none. Any other called command has no names.
abbrev pub first_unknown : List Dimension → Command → Option ℕ
first_unknown h (Insert new) = position is_none (leaves h new.names)
first_unknown h (Query question) = position is_none (picks h question.filter)
first_unknown h (Control called) = None
first_unknown h (Group dim level filter) = position is_none (picks h filter)

-- An event behind a past begins a command, with the command's session: an insert or a query with its server and what its
-- names stand for; a group as the call of what its names stand for; a command of another kind as that call; any with the
-- first dimension in which a name of its is not known there; or, but for a barrier, it is refused.
abbrev pub Begins : Use → List Dimension → List Event → Command → Event → Type 0
Begins with h past (Insert new) (Begun session server row) =
    (session ≡ new.server) × (server ≡ new.server) × (row.measures ≡ new.measures) × IsCoordNamed (known h past) new.names row.at
Begins with h past (Insert new) (Refused session) = session ≡ new.server
Begins with h past (Query question) (Asked session server filter) =
    (session ≡ question.server) × (server ≡ question.server) × IsFilterNamed (known h past) question.filter filter
Begins with h past (Query question) (Refused session) = session ≡ question.server
Begins with h past (Control called) (Refused session) = (session ≡ session_of_call with (class_of called)) × IsTrue (can_be_refused (class_of called))
Begins with h past (Control called) (Called session call) = (session ≡ session_of_call with (class_of called)) × (call ≡ called)
Begins with h past (Group dim level names) (Called session call) =
    (session ≡ with.servers + 1) × ((filter : List Pick) × IsFilterNamed (known h past) names filter × (call ≡ call_is.Group dim level filter))
Begins with h past (Group dim level names) (Refused session) = session ≡ with.servers + 1
Begins with h past c (Unknown session server dim) =
    (session ≡ session_of with c) × (server ≡ server_for c) × (first_unknown (known h past) c ≡ Some dim)
Begins with h past _ _ = ⊥

-- a command begins at its place, where it has one
abbrev pub BeginsAt : Use → List Dimension → List Event → Command → Option ℕ → Type 0
BeginsAt with h history c None = ⊤
BeginsAt with h history c (Some p) = (e : Event) × (event_at history p ≡ Some e) × Begins with h (before history p) c e

-- where the second command has begun, the first one had begun and ended before
abbrev pub EndsBefore : List Event → Option ℕ → Option ℕ → Type 0
EndsBefore history place None = ⊤
EndsBefore history None (Some q) = ⊥
EndsBefore history (Some p) (Some q) = (p < q) × IsTrue (is_over (before history q) p)

-- Which servers a command pulled for, by how it ended.

-- A sync that is fine pulled once, for its server, and one that found no memory not at all. A settle that is fine pulled
-- for each server, and for each once more; one that found no memory got less far.
abbrev pub ArePulls : ℕ → Class → How → List ℕ → Type 0
ArePulls servers (Sync server) Fine pulled = pulled ≡ server ∷ []
ArePulls servers (Sync server) NoMemory pulled = pulled ≡ []
ArePulls servers Settle Fine pulled = pulled ≡ settle_pulls servers
ArePulls servers Settle NoMemory pulled = (n : ℕ) × (n < length (settle_pulls servers)) × (pulled ≡ take n (settle_pulls servers))
ArePulls servers class how pulled = ⊤

-- where an event ends a called command, what was pulled since it began
abbrev pub HasPulls : Use → List Event → Event → Type 0
HasPulls with past (Ended of how) = IfSome (call_at past of) (λ called. ArePulls with.servers (class_of called) how (pulls_since past of))
HasPulls with past e = ⊤

-- whether a called command pulls: a sync and a settle do
abbrev pub is_pulling : Class → Bool
is_pulling (Sync server) = true
is_pulling Settle = true
is_pulling class = false

-- when the command at a position began no other one that pulls was open, and none has begun since
abbrev pub PullsAlone : List Event → ℕ → Type 0
PullsAlone history of =
    (p : ℕ) (call : Call) → call_at history p ≡ Some call → is_pulling (class_of call) ≡ true → p ≢ of → EndsBefore history (Some p) (Some of)

-- Runs.

-- The history is a part of a run of exactly these commands: each that has begun begins as it is to, and nothing else
-- begins; a session begins one when the one before has ended; and a command that closes a phase begins when all
-- others of the phase have ended, as the next phase's do when it has ended. A sync and a settle that have ended pulled as they were to.
pub record IsRunSoFar (with : Use) (h : List Dimension) (commands : List Command) (history : List Event) : Type 0 where
  pub begun : AllZip (BeginsAt with h history) commands (places with commands history)
  pub only : (p : ℕ) (e : Event) → event_at history p ≡ Some e → IsTrue (is_beginning e) → Contains (places with commands history) (Some p)
  pub in_order : AllPairs (λ a b. session_of with a.0 ≡ session_of with b.0 → EndsBefore history a.1 b.1) (zip commands (places with commands history))
  pub phased : AllPairs (λ a b. a.0 < b.0 → EndsBefore history a.1 b.1) (zip (ranks commands) (places with commands history))
  pub pulls : EachEvent (HasPulls with) history

-- a run: each command has begun and has its end
pub record IsRunOf (with : Use) (h : List Dimension) (commands : List Command) (history : List Event) : Type 0 where
  pub part : IsRunSoFar with h commands history
  pub over : IsTrue (are_over history (places with commands history))

-- a run of the first k phases, and besides a part of the next one, of each session the first commands
pub record IsRunInto (k : ℕ) (with : Use) (h : List Dimension) (commands : List Command) (history : List Event) : Type 0 where
  pub part : IsRunSoFar with h (phases_to (k + 1) commands) history
  pub over : IsTrue (are_over history (places with (phases_to k commands) history))

-- the commands begin in the order of the script, and each ends before the next begins
abbrev pub IsSerial : Use → List Command → List Event → Type 0
IsSerial with commands history = AllPairs (EndsBefore history) (places with commands history)

-- an insert whose names all are known as it begins is acknowledged, or ends for want of memory: refused before it began, or failed after
abbrev pub InsertEnds : List Dimension → List Event → Command → Option ℕ → Type 0
InsertEnds h history (Insert new) (Some p) =
    first_unknown (known h (before history p)) (Insert new) ≡ None
    → ((path : List ℕ) × (end_of history p ≡ Some (Acked p path)))
    ⊎ (end_of history p ≡ Some (Failed p))
    ⊎ (event_at history p ≡ Some (Refused new.server))
InsertEnds h history _ _ = ⊤
