-- What holds between phases, where a phase begins and where it ends; and what is kept besides where the commands go one after the
-- other.
use Rattle.std.specs.Prelude.{ℕ, true, ◌≡◌, ◌≢◌, ◌<◌, ◌≤◌, ◌⊎◌, IsTrue, Option, Some, None, List, [], ◌∷◌, ◌++◌, length, slice_get}
use Rattle.dim_hierarchy.specs.Dimension.{Dimension}
use Rattle.row_ledger.specs.{Classes.class_of, Kept.IsOpeningHistory, Past.{event_at, is_beginning, is_over, session_in}, Site.Site, declared.event.Event.Event, declared.event.Event.TheVariants.Called, declared.settings.Call.Call, declared.settings.Use.Use}
use Rattle.script_form.specs.declared.script.Command.{Command}
use Rattle.script_run.specs.{Parts.{IsPartAt, Waits, place_in}, Phases.is_closing, Places.{begins_of, count_of, session_of}, Runs.{HasPulls, Begins, EndsBefore, IsRunOf, IsRunSoFar}, Streams.{AreFinished, IsInPhase}}

-- Between phases.

-- the commands so far have begun, and no others, and all are over
pub record IsThrough (with : Use) (h : List Dimension) (commands : List Command) (history : List Event) : Type 0 where
  pub part : IsPartAt with h commands (Waits with commands) history (place_in with commands history)
  pub counts : (s : ℕ) → length (begins_of history s) ≡ count_of with s commands
  pub over : (i : ℕ) (c : Command) → slice_get commands i ≡ Some c → (p : ℕ) × (place_in with commands history i ≡ Some p) × IsTrue (is_over history p)

-- Such a history is a run of these commands.
abbrev pub ThroughLaw : Type 0
ThroughLaw = (with : Use) (h : List Dimension) (commands : List Command) (history : List Event) → IsThrough with h commands history → IsRunOf with h commands history

-- Before the first phase, behind the first pull of each server, nothing has begun.
abbrev pub OpeningLaw : Type 0
OpeningLaw = (with : Use) (h : List Dimension) (site : Site) (history : List Event) → IsOpeningHistory site history → IsThrough with h [] history

-- of each session the first command from the n-th on is next
abbrev pub AreFirst : Use → List Command → ℕ → (ℕ → ℕ) → Type 0
AreFirst with commands n next = (s : ℕ) → (n ≤ next s) × ((i : ℕ) (c : Command) → slice_get commands i ≡ Some c → n ≤ i → i < next s → session_of with c ≢ s)

-- So a phase begins behind those that are through.
abbrev pub PhaseStartLaw : Type 0
PhaseStartLaw = (with : Use) (h : List Dimension) (done phase : List Command) (history : List Event) (next : ℕ → ℕ) → IsThrough with h done history
    → AreFirst with (done ++ phase) (length done) next → IsInPhase with h (done ++ phase) (length done) history next (λ s. None)

-- And where all its commands have begun and none is open, it is through with them.
abbrev pub PhaseEndLaw : Type 0
PhaseEndLaw = (with : Use) (h : List Dimension) (commands : List Command) (n : ℕ) (history : List Event) (next : ℕ → ℕ) (opened : ℕ → Option ℕ)
    → IsInPhase with h commands n history next opened → AreFinished with commands next opened → IsThrough with h commands history

-- One after the other.

-- each command begins when all before it are over
abbrev pub IsInOrder : Use → List Dimension → List Command → List Event → Type 0
IsInOrder with h commands history = IsPartAt with h commands (λ i j. i < j) history (place_in with commands history)

-- They stay in order behind those that are through, with an event that begins nothing, and with the next command.
abbrev pub OrderStartLaw : Type 0
OrderStartLaw = (with : Use) (h : List Dimension) (done phase : List Command) (history : List Event)
    → ((s : ℕ) → length (begins_of history s) ≤ count_of with s done) → IsInOrder with h done history → IsInOrder with h (done ++ phase) history

abbrev pub OrderOtherLaw : Type 0
OrderOtherLaw = (with : Use) (h : List Dimension) (commands : List Command) (e : Event) (history : List Event) → session_in e ≡ None → HasPulls with history e
    → IsInOrder with h commands history → IsInOrder with h commands (e ∷ history)

abbrev pub OrderBeginLaw : Type 0
OrderBeginLaw = (with : Use) (h : List Dimension) (front : List Command) (c : Command) (back : List Command) (e : Event) (history : List Event)
    → ((i : ℕ) → i < length front → (p : ℕ) × (place_in with (front ++ c ∷ back) history i ≡ Some p) × IsTrue (is_over history p))
    → count_of with (session_of with c) front ≡ length (begins_of history (session_of with c))
    → session_in e ≡ Some (session_of with c) → Begins with h history c e
    → IsInOrder with h (front ++ c ∷ back) history → IsInOrder with h (front ++ c ∷ back) (e ∷ history)

-- Closing commands.

-- A command that closes its phase stands alone: each other one was over when it began, or began when it was over.
abbrev pub ClosingLaw : Type 0
ClosingLaw = (with : Use) (h : List Dimension) (commands : List Command) (history : List Event) (of p session : ℕ) (call : Call) (e : Event)
    → IsRunSoFar with h commands history → event_at history of ≡ Some (Called session call) → is_closing (class_of call) ≡ true
    → event_at history p ≡ Some e → IsTrue (is_beginning e) → p ≢ of
    → EndsBefore history (Some p) (Some of) ⊎ EndsBefore history (Some of) (Some p)
