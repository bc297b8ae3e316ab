-- What the calls of a session tell of the history that all share. A call knows the history that its session had seen, the one that
-- it has seen now, and its own command in this; whatever else is new there others did meanwhile.
use Rattle.std.specs.Prelude.{ℕ, ◌≡◌, ◌==◌, ◌⊎◌, IsTrue, Some, List, [], ◌∷◌, ◌++◌, filter}
use Rattle.dim_hierarchy.specs.Dimension.{Dimension}
use Rattle.row_ledger.specs.{Past.{before, event_at, is_over}, declared.event.Event.Event, declared.event.Event.TheVariants.Ended, declared.settings.How.How, declared.settings.Use.Use}
use Rattle.script_form.specs.declared.script.Command.{Command}
use Rattle.script_run.specs.{Places.{begins_of, session_of}, Runs.{BeginsAt, HasPulls, PullsAlone}, Streams.NoneCloses}

-- Histories.

-- the history is the earlier one, with newer events in front
abbrev pub IsLater : List Event → List Event → Type 0
IsLater past now = (newer : List Event) × (now ≡ newer ++ past)

-- the history has grown, and the session has begun nothing meanwhile
pub record BeginsNothing (session : ℕ) (past now : List Event) : Type 0 where
  pub later : IsLater past now
  pub none : begins_of now session ≡ begins_of past session

-- Pulls.

-- where the command at a position has its end, it had pulled as it was to
abbrev pub EndsWithPulls : Use → List Event → ℕ → Type 0
EndsWithPulls with history of = (p : ℕ) (how : How) → event_at history p ≡ Some (Ended of how) → HasPulls with (before history p) (Ended of how)

-- Calls.

-- A call does a command of a session. It is the only one that the session has begun in this call, it begins as it is to, and it is over.
-- Pulls of others can't be told from its own, so what it pulled is known where no other command pulled.
pub record DoesCommand (with : Use) (h : List Dimension) (session : ℕ) (c : Command) (seen now : List Event) : Type 0 where
  pub later : IsLater seen now
  pub of : ℕ
  pub one : begins_of now session ≡ begins_of seen session ++ of ∷ []
  pub begins : BeginsAt with h now c (Some of)
  pub over : IsTrue (is_over now of)
  pub pulls : PullsAlone now of → EndsWithPulls with now of

-- a session does its commands one after the other; before, between and behind them others may go on
abbrev pub DoesInTurn : Use → List Dimension → ℕ → List Command → List Event → List Event → Type 0
DoesInTurn with h session [] past now = BeginsNothing session past now
DoesInTurn with h session (c ∷ cs) past now =
    (seen : List Event) × (next : List Event) × BeginsNothing session past seen × DoesCommand with h session c seen next × DoesInTurn with h session cs next now

-- the stream of a session: its commands in their order
abbrev pub stream_of : Use → List Command → ℕ → List Command
stream_of with commands session = filter (λ c. session_of with c == session) commands

-- each session does its own of these commands
abbrev pub EachDoes : Use → List Dimension → List Command → List Event → List Event → Type 0
EachDoes with h commands past now = (session : ℕ) → DoesInTurn with h session (stream_of with commands session) past now

-- a session does the first of its commands in turn, and stops before the others
pub record DoesFirst (with : Use) (h : List Dimension) (session : ℕ) (commands : List Command) (past now : List Event) : Type 0 where
  pub first : List Command
  pub others : List Command
  pub split : commands ≡ first ++ others
  pub does : DoesInTurn with h session first past now

-- each session does the first of its own of these commands
abbrev pub EachDoesFirst : Use → List Dimension → List Command → List Event → List Event → Type 0
EachDoesFirst with h commands past now = (session : ℕ) → DoesFirst with h session (stream_of with commands session) past now

-- Phases.

-- all but the last command are done, and then that one, while no other begins
pub record DoesLastAlone (with : Use) (h : List Dimension) (phase : List Command) (past now : List Event) : Type 0 where
  pub front : List Command
  pub last : Command
  pub split : phase ≡ front ++ last ∷ []
  pub none_closes : NoneCloses front
  pub between : List Event
  pub first : EachDoes with h front past between
  pub then : EachDoes with h (last ∷ []) between now

-- a phase is done: where nothing in it closes it, all its commands at once
abbrev pub DoesPhase : Use → List Dimension → List Command → List Event → List Event → Type 0
DoesPhase with h phase past now = (NoneCloses phase × EachDoes with h phase past now) ⊎ DoesLastAlone with h phase past now

-- phases are done one after the other
abbrev pub DoesPhases : Use → List Dimension → List (List Command) → List Event → List Event → Type 0
DoesPhases with h [] past now = now ≡ past
DoesPhases with h (phase ∷ more) past now = (between : List Event) × DoesPhase with h phase past between × DoesPhases with h more between now
