-- Streams by cursors: what a session still has stands from the index on at which its next command stands.
use Rattle.std.specs.Prelude.{ℕ, ◌≡◌, ◌+◌, ◌≤◌, List, [], ◌∷◌, Some, length, drop, slice_get, take}
use Rattle.row_ledger.specs.declared.event.Event.{Event}
use Rattle.script_form.specs.declared.script.Command.{Command}
use Rattle.script_run.specs.Places.{begins_of, count_of, session_of}
use Rattle.seeded_run.specs.Rests.{PhaseRun, rest_of, stream_of}

-- By session where its next command stands in the phase: since the phase began it has begun those before, and no others.
pub record HasCursors (p : PhaseRun) (history : List Event) (next : ℕ → ℕ) : Type 0 where
  pub counts : (session : ℕ) → length (begins_of history session) ≡ length (begins_of p.before session) + count_of p.with session (take (next session) p.commands)

-- The rest of a session's stream is its commands from there on.
abbrev pub CursorLaw : Type 0
CursorLaw = (p : PhaseRun) (history : List Event) (next : ℕ → ℕ) → HasCursors p history next → (session : ℕ) → rest_of p history session ≡ stream_of p.with (drop (next session) p.commands) session

-- So a command of the session that stands there is first, and behind the last command nothing is left.
abbrev pub FirstLaw : Type 0
FirstLaw = (p : PhaseRun) (history : List Event) (next : ℕ → ℕ) → HasCursors p history next
    → (session : ℕ) (c : Command) → slice_get p.commands (next session) ≡ Some c → session_of p.with c ≡ session
    → rest_of p history session ≡ c ∷ stream_of p.with (drop (next session + 1) p.commands) session

abbrev pub LastLaw : Type 0
LastLaw = (p : PhaseRun) (history : List Event) (next : ℕ → ℕ) → HasCursors p history next → (session : ℕ) → length p.commands ≤ next session → rest_of p history session ≡ []
