-- What holds between the steps of a phase.
use Rattle.std.specs.Prelude.{ℕ, ◌≡◌, ◌≢◌, ◌+◌, Bool, true, List, ◌++◌, Option, Some, option_map, length, slice_get}
use Rattle.script_form.specs.declared.script.Command.{Command}
use Rattle.script_run.specs.{Between.IsInOrder, Places.{begins_of, count_of, session_of}, Streams.IsInPhase}
use Rattle.row_ledger.specs.Settled.{pulls_since}
use Rattle.core_pages.specs.volap_cell.specs.{Setting.Setting, Steps.history_in, World.World, declared.command.Command.Command as OpenCommand}
use Rattle.core_due.specs.Due.{does_nothing}
use Rattle.core_told.specs.Told.{HasPulled, is_closing_work}
use Rattle.script_roles.specs.Roles.{AreScriptRoles}
use Rattle.seeded_run.specs.{Cursors.HasCursors, Due.is_alone, Progress.{ArePagesNext, IsNobodyIn, IsPhaseOf}, Rests.{PhaseRun, first_open, rest_of}}

-- by session: where the command began that its actor has open
abbrev pub opened_in : World → ℕ → Option ℕ
opened_in w a = option_map (λ (c : OpenCommand). c.of) (w.actors a).command

-- a session's next command, where it has one, is its own
abbrev pub AreAtOwn : PhaseRun → (ℕ → ℕ) → Type 0
AreAtOwn p next = (session : ℕ) (c : Command) → slice_get p.commands (next session) ≡ Some c → session_of p.with c ≡ session

-- Closing commands.

-- while a command is open that closes its phase everyone else is idle, with nothing left
abbrev pub AreClosingAlone : Setting → World → (ℕ → List Command) → Type 0
AreClosingAlone s w rest = (a : ℕ) (c : OpenCommand) → (w.actors a).command ≡ Some c → is_closing_work c.work ≡ true → is_alone s w rest a ≡ true

-- Pulls.

-- each open command has pulled as far as its actor says, and nobody else pulled meanwhile
abbrev pub ArePulling : Setting → World → Type 0
ArePulling s w = (a : ℕ) (c : OpenCommand) → (w.actors a).command ≡ Some c → HasPulled s.servers c.work (pulls_since (history_in w) c.of)

-- The phase.

-- all are idle but for the actor of the first command that isn't over
abbrev pub AreOthersIdle : PhaseRun → World → Type 0
AreOthersIdle p w = (a : ℕ) → first_open p (history_in w) ≢ Some a → does_nothing (w.actors a) ≡ true

-- A phase runs: each session has begun its commands up to its next one, and where they go one after the other only the actor of the
-- first one that isn't over has anything to do. Nothing is said of what the history was before.
pub record IsRunning (in_order : Bool) (s : Setting) (p : PhaseRun) (w : World) (next : ℕ → ℕ) : Type 0 where
  pub roles : AreScriptRoles s
  pub phase : IsPhaseOf s p
  pub cursors : HasCursors p (history_in w) next
  pub own : AreAtOwn p next
  pub closing : AreClosingAlone s w (rest_of p (history_in w))
  pub pages : ArePagesNext s w (rest_of p (history_in w))
  pub nobody : IsNobodyIn w
  pub idle : in_order ≡ true → AreOthersIdle p w

-- by session, where its next command stands among those before the phase and those of the phase
abbrev pub behind : List Command → (ℕ → ℕ) → ℕ → ℕ
behind done next session = length done + next session

-- A phase runs behind commands that were through when it began: what has begun so far is a part of a run of these and of those of
-- the phase, in their order where that is asked for.
pub record RunsBehind (in_order : Bool) (s : Setting) (p : PhaseRun) (done : List Command) (w : World) (next : ℕ → ℕ) : Type 0 where
  pub through : (session : ℕ) → length (begins_of p.before session) ≡ count_of p.with session done
  pub in_phase : IsInPhase p.with s.hierarchy (done ++ p.commands) (length done) (history_in w) (behind done next) (opened_in w)
  pub pulled : ArePulling s w
  pub ordered : in_order ≡ true → IsInOrder p.with s.hierarchy (done ++ p.commands) (history_in w)
