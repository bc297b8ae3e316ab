-- A part of a run, by the places of the commands.
use Rattle.std.specs.{List.slice_index_or, Prelude.{ℕ, ◌≡◌, ◌≢◌, ◌<◌, ◌⊎◌, IsTrue, Option, Some, None, List, slice_get}}
use Rattle.dim_hierarchy.specs.Dimension.{Dimension}
use Rattle.row_ledger.specs.{Past.{event_at, is_over, is_beginning}, Right.EachEvent, declared.event.Event.Event, declared.settings.Use.Use}
use Rattle.script_form.specs.declared.script.Command.{Command}
use Rattle.script_run.specs.{Phases.ranks, Places.{session_of, places}, Runs.{HasPulls, Begins, BeginsAt, EndsBefore, IsRunSoFar, IsSerial}}

-- Of commands that begin at these places: each that has begun begins as it is to, nothing else begins, and each ends before
-- one begins that has to wait for it.
pub record IsPartAt (with : Use) (h : List Dimension) (commands : List Command) (waits : ℕ → ℕ → Type 0) (history : List Event) (place : ℕ → Option ℕ) : Type 0 where
  pub begun : (i : ℕ) (c : Command) → slice_get commands i ≡ Some c → BeginsAt with h history c (place i)
  pub only : (p : ℕ) (e : Event) → event_at history p ≡ Some e → IsTrue (is_beginning e) → (i : ℕ) × (c : Command) × (slice_get commands i ≡ Some c) × (place i ≡ Some p)
  pub in_turn : (i j : ℕ) (c d : Command) → slice_get commands i ≡ Some c → slice_get commands j ≡ Some d → waits i j → EndsBefore history (place i) (place j)
  pub pulls : EachEvent (HasPulls with) history

-- the k-th of the commands begins with this event, behind this history
pub record IsNext (with : Use) (h : List Dimension) (commands : List Command) (waits : ℕ → ℕ → Type 0) (history : List Event) (place : ℕ → Option ℕ) (k : ℕ) (e : Event) : Type 0 where
  pub command : Command
  pub at : slice_get commands k ≡ Some command
  pub none : place k ≡ None
  pub begins : Begins with h history command e
  pub waited : (i : ℕ) (c : Command) → slice_get commands i ≡ Some c → waits i k → (p : ℕ) × (place i ≡ Some p) × IsTrue (is_over history p)
  pub itself : waits k k → ⊥

-- the k-th command has a place now, and the others have theirs
pub record HasPlace (k p : ℕ) (place now : ℕ → Option ℕ) : Type 0 where
  pub here : now k ≡ Some p
  pub others : (i : ℕ) → i ≢ k → now i ≡ place i

-- A command has to wait for an earlier one of its session, and for all of a lower rank.

abbrev pub AreOfOneSession : Use → List Command → ℕ → ℕ → Type 0
AreOfOneSession with commands i j = (c d : Command) → slice_get commands i ≡ Some c → slice_get commands j ≡ Some d → session_of with c ≡ session_of with d

abbrev pub Waits : Use → List Command → ℕ → ℕ → Type 0
Waits with commands i j = (i < j) × (AreOfOneSession with commands i j ⊎ (slice_index_or (ranks commands) i 0 < slice_index_or (ranks commands) j 0))

abbrev pub place_in : Use → List Command → List Event → ℕ → Option ℕ
place_in with commands history i = slice_index_or (places with commands history) i None

-- Such a part is a part of a run, and where each command waits for all before it also in the order of the script.
abbrev pub PartLaw : Type 0
PartLaw = (with : Use) (h : List Dimension) (commands : List Command) (history : List Event)
    → IsPartAt with h commands (Waits with commands) history (place_in with commands history) → IsRunSoFar with h commands history

abbrev pub SerialLaw : Type 0
SerialLaw = (with : Use) (h : List Dimension) (commands : List Command) (history : List Event)
    → IsPartAt with h commands (λ i j. i < j) history (place_in with commands history) → IsSerial with commands history
