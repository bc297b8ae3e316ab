-- What a run keeps of its streams while a phase goes on.
use Rattle.std.specs.{List.{AllByRecursion, slice_index_or}, Prelude.{ℕ, false, ◌≡◌, ◌≢◌, ◌+◌, ◌<◌, ◌≤◌, ◌⊎◌, IsTrue, Option, Some, None, List, ◌∷◌, ◌++◌, length, take, slice_get}}
use Rattle.dim_hierarchy.specs.Dimension.{Dimension}
use Rattle.row_ledger.specs.{Past.{is_over, session_in}, declared.event.Event.Event, declared.settings.Use.Use}
use Rattle.script_form.specs.declared.script.Command.{Command}
use Rattle.script_run.specs.{Parts.{IsPartAt, IsNext, HasPlace, Waits, place_in}, Phases.{ranks, closes}, Places.{session_of, count_of, begins_of}, Runs.{HasPulls, Begins, IsRunOf}}

-- the session of every command is below this
abbrev pub sessions : ℕ
sessions = 257

-- none of these commands closes a phase
abbrev pub NoneCloses : List Command → Type 0
NoneCloses cs = AllByRecursion (λ c. closes c ≡ false) cs

-- Of each session: which of the commands comes next, and where the one began that its actor has open. All its commands
-- before the next one have begun, and but for the open one they are over.
pub record AreStreams (with : Use) (commands : List Command) (history : List Event) (next : ℕ → ℕ) (opened : ℕ → Option ℕ) : Type 0 where
  pub counts : (s : ℕ) → count_of with s (take (next s) commands) ≡ length (begins_of history s)
  pub begun : (i : ℕ) (c : Command) → slice_get commands i ≡ Some c → i < next (session_of with c)
      → (p : ℕ) × (place_in with commands history i ≡ Some p) × (IsTrue (is_over history p) ⊎ (opened (session_of with c) ≡ Some p))

-- those of a lower rank than the k-th are over
abbrev pub AreBehind : Use → List Command → List Event → ℕ → Type 0
AreBehind with commands history k =
    (i : ℕ) (c : Command) → slice_get commands i ≡ Some c → slice_index_or (ranks commands) i 0 < slice_index_or (ranks commands) k 0
    → (p : ℕ) × (place_in with commands history i ≡ Some p) × IsTrue (is_over history p)

-- A session with nothing open begins its next command: it is the next one of the run, and gets its place.
abbrev pub NextLaw : Type 0
NextLaw = (with : Use) (h : List Dimension) (front : List Command) (c : Command) (back : List Command) (e : Event) (history : List Event) (next : ℕ → ℕ) (opened : ℕ → Option ℕ)
    → AreStreams with (front ++ c ∷ back) history next opened → next (session_of with c) ≡ length front → opened (session_of with c) ≡ None
    → AreBehind with (front ++ c ∷ back) history (length front) → session_in e ≡ Some (session_of with c) → Begins with h history c e
    → IsNext with h (front ++ c ∷ back) (Waits with (front ++ c ∷ back)) history (place_in with (front ++ c ∷ back) history) (length front) e
    × HasPlace (length front) (length history) (place_in with (front ++ c ∷ back) history) (place_in with (front ++ c ∷ back) (e ∷ history))

-- The same streams when the command at k has begun: the next one of its session stands further on, and none between.
pub record StepsOn (with : Use) (commands : List Command) (e : Event) (history : List Event) (s k : ℕ) (next now_next : ℕ → ℕ) (opened now_opened : ℕ → Option ℕ) : Type 0 where
  pub further : k < now_next s
  pub one : count_of with s (take (now_next s) commands) ≡ count_of with s (take k commands) + 1
  pub no_other : (i : ℕ) (c : Command) → slice_get commands i ≡ Some c → k < i → i < now_next s → session_of with c ≢ s
  pub others : (t : ℕ) → t ≢ s → (now_next t ≡ next t) × (now_opened t ≡ opened t)
  pub opens : IsTrue (is_over (e ∷ history) (length history)) ⊎ (now_opened s ≡ Some (length history))

abbrev pub StreamBeginLaw : Type 0
StreamBeginLaw = (with : Use) (front : List Command) (c : Command) (back : List Command) (e : Event) (history : List Event) (next now_next : ℕ → ℕ) (opened now_opened : ℕ → Option ℕ)
    → AreStreams with (front ++ c ∷ back) history next opened → next (session_of with c) ≡ length front → opened (session_of with c) ≡ None
    → session_in e ≡ Some (session_of with c)
    → StepsOn with (front ++ c ∷ back) e history (session_of with c) (length front) next now_next opened now_opened
    → AreStreams with (front ++ c ∷ back) (e ∷ history) now_next now_opened

-- An event that begins nothing: what was open is so still, or is over.
abbrev pub StreamOtherLaw : Type 0
StreamOtherLaw = (with : Use) (commands : List Command) (e : Event) (history : List Event) (next : ℕ → ℕ) (opened now_opened : ℕ → Option ℕ)
    → AreStreams with commands history next opened → session_in e ≡ None
    → ((t p : ℕ) → opened t ≡ Some p → IsTrue (is_over (e ∷ history) p) ⊎ (now_opened t ≡ Some p))
    → AreStreams with commands (e ∷ history) next now_opened

-- Every command has begun and none is open.
pub record AreFinished (with : Use) (commands : List Command) (next : ℕ → ℕ) (opened : ℕ → Option ℕ) : Type 0 where
  pub begun : (i : ℕ) (c : Command) → slice_get commands i ≡ Some c → i < next (session_of with c)
  pub ended : (s : ℕ) → opened s ≡ None

-- Then the part is a whole run.
abbrev pub FinishLaw : Type 0
FinishLaw = (with : Use) (h : List Dimension) (commands : List Command) (history : List Event) (next : ℕ → ℕ) (opened : ℕ → Option ℕ)
    → IsPartAt with h commands (Waits with commands) history (place_in with commands history)
    → AreStreams with commands history next opened → AreFinished with commands next opened → IsRunOf with h commands history

-- A part of these commands, none of whose sessions has begun more than they have, is a part of more commands.
abbrev pub StartLaw : Type 0
StartLaw = (with : Use) (h : List Dimension) (done phase : List Command) (history : List Event)
    → ((s : ℕ) → length (begins_of history s) ≤ count_of with s done)
    → IsPartAt with h done (Waits with done) history (place_in with done history)
    → IsPartAt with h (done ++ phase) (Waits with (done ++ phase)) history (place_in with (done ++ phase) history)

-- So what has to be over before one of its commands that closes nothing are the done phases.
abbrev pub RankLaw : Type 0
RankLaw = (done front : List Command) (c : Command) (back : List Command) (i : ℕ) → NoneCloses front → closes c ≡ false
    → i < length (done ++ (front ++ c ∷ back))
    → slice_index_or (ranks (done ++ (front ++ c ∷ back))) i 0 < slice_index_or (ranks (done ++ (front ++ c ∷ back))) (length done + length front) 0
    → i < length done

-- What a run keeps while a phase goes on, the first n of the commands being of the phases before.
pub record IsInPhase (with : Use) (h : List Dimension) (commands : List Command) (n : ℕ) (history : List Event) (next : ℕ → ℕ) (opened : ℕ → Option ℕ) : Type 0 where
  pub part : IsPartAt with h commands (Waits with commands) history (place_in with commands history)
  pub streams : AreStreams with commands history next opened
  pub past : (i : ℕ) (c : Command) → slice_get commands i ≡ Some c → i < n → (p : ℕ) × (place_in with commands history i ≡ Some p) × IsTrue (is_over history p)

-- before the k-th command those of a lower rank are of earlier phases, or their streams are behind them with nothing open
abbrev pub IsReady : Use → List Command → ℕ → (ℕ → ℕ) → (ℕ → Option ℕ) → ℕ → Type 0
IsReady with commands n next opened k =
    (i : ℕ) (c : Command) → slice_get commands i ≡ Some c → slice_index_or (ranks commands) i 0 < slice_index_or (ranks commands) k 0
    → (i < n) ⊎ ((i < next (session_of with c)) × (opened (session_of with c) ≡ None))

abbrev pub PhaseBeginLaw : Type 0
PhaseBeginLaw = (with : Use) (h : List Dimension) (front : List Command) (c : Command) (back : List Command) (n : ℕ) (e : Event) (history : List Event) (next now_next : ℕ → ℕ) (opened now_opened : ℕ → Option ℕ)
    → IsInPhase with h (front ++ c ∷ back) n history next opened → n ≤ length front
    → next (session_of with c) ≡ length front → opened (session_of with c) ≡ None → IsReady with (front ++ c ∷ back) n next opened (length front)
    → session_in e ≡ Some (session_of with c) → Begins with h history c e
    → StepsOn with (front ++ c ∷ back) e history (session_of with c) (length front) next now_next opened now_opened
    → IsInPhase with h (front ++ c ∷ back) n (e ∷ history) now_next now_opened

abbrev pub PhaseOtherLaw : Type 0
PhaseOtherLaw = (with : Use) (h : List Dimension) (commands : List Command) (n : ℕ) (e : Event) (history : List Event) (next : ℕ → ℕ) (opened now_opened : ℕ → Option ℕ)
    → IsInPhase with h commands n history next opened → session_in e ≡ None → HasPulls with history e
    → ((t p : ℕ) → opened t ≡ Some p → IsTrue (is_over (e ∷ history) p) ⊎ (now_opened t ≡ Some p))
    → IsInPhase with h commands n (e ∷ history) next now_opened
