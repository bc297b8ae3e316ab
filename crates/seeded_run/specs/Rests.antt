-- What the streams of a phase still have: a function of its commands, and of what has begun since it began.
use Rattle.std.specs.{Option.option_map_or, Prelude.{ℕ, ◌+◌, ◌-◌, ◌==◌, Bool, false, Option, Some, None, if◌then◌else◌, List, [], ◌∷◌, ◌++◌, length, drop, filter, slice_get}}
use Rattle.row_ledger.specs.{Past.is_over, declared.event.Event.Event, declared.settings.Use.Use}
use Rattle.script_form.specs.declared.script.Command.{Command}
use Rattle.script_run.specs.Places.{session_of, count_of, begins_of}

-- a phase that runs: the settings, its commands, and the history when it began
pub record PhaseRun : Type 0 where
  pub with : Use
  pub commands : List Command
  pub before : List Event

-- how many commands of a session have begun since
abbrev pub begun_in : PhaseRun → List Event → ℕ → ℕ
begun_in p history session = length (begins_of history session) - length (begins_of p.before session)

-- the stream of a session: its commands in their order
abbrev pub stream_of : Use → List Command → ℕ → List Command
stream_of with commands session = filter (λ c. session_of with c == session) commands

-- those that it hasn't begun
abbrev pub rest_of : PhaseRun → List Event → ℕ → List Command
rest_of p history session = drop (begun_in p history session) (stream_of p.with p.commands session)

-- whether a command that stands behind these others of the phase has begun and ended
abbrev pub is_over_behind : PhaseRun → List Event → List Command → Command → Bool
is_over_behind p history front c =
    option_map_or (is_over history)
    (slice_get (begins_of history (session_of p.with c)) (length (begins_of p.before (session_of p.with c)) + count_of p.with (session_of p.with c) front))
    false

-- the session of the first command that isn't over, of those behind some others, and of all

abbrev pub first_open_behind : PhaseRun → List Event → List Command → List Command → Option ℕ
first_open_behind p history front [] = None
first_open_behind p history front (c ∷ cs) = if is_over_behind p history front c then first_open_behind p history (front ++ c ∷ []) cs else Some (session_of p.with c)

abbrev pub first_open : PhaseRun → List Event → Option ℕ
first_open p history = first_open_behind p history [] p.commands
