-- How a phase begins, goes on with each step, and ends.
use Rattle.std.specs.Prelude.{ℕ, ◌≡◌, ◌≢◌, ◌+◌, ◌<◌, ◌≤◌, Bool, true, IsTrue, List, [], ◌∷◌, ◌++◌, Some, None, length, slice_get}
use Rattle.row_ledger.specs.{Past.session_in, declared.event.Event.Event, declared.settings.Use.Use}
use Rattle.script_form.specs.declared.script.Command.{Command}
use Rattle.script_run.specs.{Between.{IsInOrder, IsThrough}, Parts.{IsPartAt, Waits, place_in}, Places.{are_over, begins_of, count_of, places, session_of}, Runs.Begins}
use Rattle.core_pages.specs.shard_store.specs.declared.gate.Phase.TheVariants.{Gone}
use Rattle.core_pages.specs.volap_cell.specs.{Cells.phase_of, Ghost.Ghost, Invariant.InvWith, Setting.{Setting, actor_count}, Sights.IsIdle, Steps.{Step, history_in}, View.view, World.World, declared.kind.Kind.Kind}
use Rattle.core_told.specs.Told.{is_of_part}
use Rattle.script_roles.specs.Roles.{AreScriptRoles}
use Rattle.seeded_run.specs.{Can.{able_in, can_step}, Due.due, Instead.{StandsFor, in_place_of}, Progress.{IsOrderedRun, IsPhaseOf, IsScriptRun}, Rests.{PhaseRun, rest_of}, Running.{AreAtOwn, IsRunning, RunsBehind}, Steps.is_for_part}

-- Between phases.

-- everybody is idle
abbrev pub AreIdle : World → Type 0
AreIdle w = (a : ℕ) → IsIdle (w.actors a)

-- no gate is gone whose cells could be used again
abbrev pub IsNoneGone : World → Type 0
IsNoneGone w = (c : ℕ) → phase_of (w.cells c) ≢ Some Gone

-- everybody is idle, no gate is gone, and the commands so far are through, in order where that is asked for
pub record IsBetween (in_order : Bool) (s : Setting) (with : Use) (done : List Command) (w : World) : Type 0 where
  pub through : IsThrough with s.hierarchy done (history_in w)
  pub idle : AreIdle w
  pub none_gone : IsNoneGone w
  pub ordered : in_order ≡ true → IsInOrder with s.hierarchy done (history_in w)

-- since the phase began each session has begun so many commands as it has in it
abbrev pub HasBegunAll : PhaseRun → World → Type 0
HasBegunAll p w = (session : ℕ) → length (begins_of (history_in w) session) ≡ length (begins_of p.before session) + count_of p.with session p.commands

-- each session's next command is its first one in the phase
pub record AreAtFirst (p : PhaseRun) (next : ℕ → ℕ) : Type 0 where
  pub first : (session i : ℕ) (c : Command) → slice_get p.commands i ≡ Some c → i < next session → session_of p.with c ≢ session
  pub own : AreAtOwn p next

-- Where everybody is idle a phase begins;
abbrev pub PhaseBeginsLaw : Type 0
PhaseBeginsLaw = (in_order : Bool) (s : Setting) (p : PhaseRun) (w : World) (next : ℕ → ℕ) → AreScriptRoles s → IsPhaseOf s p → AreIdle w
    → p.before ≡ history_in w → AreAtFirst p next → IsRunning in_order s p w next

-- and where nobody can make a step any more, everybody is idle again, no gate is gone, and all its commands have begun.
abbrev pub PhaseEndsLaw : Type 0
PhaseEndsLaw = (in_order : Bool) (s : Setting) (p : PhaseRun) (w : World) (g : Ghost) (next : ℕ → ℕ) → InvWith s (view s w) g → IsRunning in_order s p w next
    → able_in in_order s p w ≡ [] → AreIdle w × IsNoneGone w × HasBegunAll p w

-- While it runs somebody can step, as it is a script's run, and where that is asked for an ordered one.
abbrev pub RunsLaw : Type 0
RunsLaw = (in_order : Bool) (s : Setting) (p : PhaseRun) (w : World) (g : Ghost) (next : ℕ → ℕ) → InvWith s (view s w) g → IsRunning in_order s p w next
    → IsScriptRun s w (rest_of p (history_in w)) × (in_order ≡ true → IsOrderedRun s p w)

-- What is said of a run that stops in the midst of a phase: it is a part of a run of the commands so far, of which those before the
-- phase are over; in their order where that is asked for. No session has begun more than these have.
pub record IsStopped (in_order : Bool) (s : Setting) (p : PhaseRun) (done : List Command) (w : World) : Type 0 where
  pub part : IsPartAt p.with s.hierarchy (done ++ p.commands) (Waits p.with (done ++ p.commands)) (history_in w) (place_in p.with (done ++ p.commands) (history_in w))
  pub few : (session : ℕ) → length (begins_of (history_in w) session) ≤ count_of p.with session (done ++ p.commands)
  pub over : IsTrue (are_over (history_in w) (places p.with done (history_in w)))
  pub ordered : in_order ≡ true → IsInOrder p.with s.hierarchy (done ++ p.commands) (history_in w)

-- Between phases one runs behind the commands so far from its beginning on; so it is wherever it stops; and at its end its commands
-- are through too.

abbrev pub BehindBeginsLaw : Type 0
BehindBeginsLaw = (in_order : Bool) (s : Setting) (p : PhaseRun) (done : List Command) (w : World) (next : ℕ → ℕ) → IsBetween in_order s p.with done w
    → p.before ≡ history_in w → AreAtFirst p next → RunsBehind in_order s p done w next

abbrev pub StopsLaw : Type 0
StopsLaw = (in_order : Bool) (s : Setting) (p : PhaseRun) (done : List Command) (w : World) (next : ℕ → ℕ) → RunsBehind in_order s p done w next → IsStopped in_order s p done w

abbrev pub BehindEndsLaw : Type 0
BehindEndsLaw = (in_order : Bool) (s : Setting) (p : PhaseRun) (done : List Command) (w : World) (g : Ghost) (next : ℕ → ℕ) → InvWith s (view s w) g → IsRunning in_order s p w next
    → RunsBehind in_order s p done w next → able_in in_order s p w ≡ [] → IsBetween in_order s p.with (done ++ p.commands) w

-- Steps.

-- An actor that can step makes the step that is due, or what is made in its place where no memory is found. Where it is due that it goes
-- on with its part or its purse, or uses a cell again, it does so.
pub record IsTurn (in_order : Bool) (s : Setting) (p : PhaseRun) (w : World) (n : ℕ) (now : World) : Type 0 where
  pub within : n < actor_count s
  pub can : can_step in_order s p w n ≡ true
  pub due_kind : Kind
  pub is_due : due s p w n ≡ Some due_kind
  pub made : Kind
  pub stands : StandsFor due_kind made
  pub of_part : is_for_part (w.actors n).errand due_kind ≡ true → is_of_part made ≡ true
  pub step : Step s made n w now

-- A step of a kind that takes no memory is made as it is due.
abbrev pub MadeLaw : Type 0
MadeLaw = (in_order : Bool) (s : Setting) (p : PhaseRun) (w : World) (n : ℕ) (now : World) (turn : IsTurn in_order s p w n now) → in_place_of turn.due_kind ≡ None → turn.made ≡ turn.due_kind

-- A step that begins nothing and counts nobody keeps all of it;
abbrev pub KeepsOtherLaw : Type 0
KeepsOtherLaw = (in_order : Bool) (s : Setting) (p : PhaseRun) (w now : World) (g g_now : Ghost) (next : ℕ → ℕ) (n : ℕ)
    → InvWith s (view s w) g → InvWith s (view s now) g_now → IsTurn in_order s p w n now
    → ((e : Event) → history_in now ≡ e ∷ history_in w → session_in e ≡ None) → (now.actors n).counted ≡ (w.actors n).counted → IsRunning in_order s p w next
    → IsRunning in_order s p now next × ((done : List Command) → RunsBehind in_order s p done w next → RunsBehind in_order s p done now next)

-- the session's next command stands behind the one that was next, and none of it between
pub record MovesOn (p : PhaseRun) (session : ℕ) (next now : ℕ → ℕ) : Type 0 where
  pub further : next session < now session
  pub none : (i : ℕ) (c : Command) → slice_get p.commands i ≡ Some c → next session < i → i < now session → session_of p.with c ≢ session
  pub others : (t : ℕ) → t ≢ session → now t ≡ next t
  pub own : AreAtOwn p now

-- and so does one that begins the next command of its session, which has a next one then.
abbrev pub KeepsBeginningLaw : Type 0
KeepsBeginningLaw = (in_order : Bool) (s : Setting) (p : PhaseRun) (w now : World) (g g_now : Ghost) (next next_now : ℕ → ℕ) (n : ℕ) (c : Command) (e : Event)
    → InvWith s (view s w) g → InvWith s (view s now) g_now → IsTurn in_order s p w n now
    → slice_get p.commands (next n) ≡ Some c → history_in now ≡ e ∷ history_in w → session_in e ≡ Some n → Begins p.with s.hierarchy (history_in w) c e
    → MovesOn p n next next_now → IsRunning in_order s p w next
    → IsRunning in_order s p now next_now × ((done : List Command) → RunsBehind in_order s p done w next → RunsBehind in_order s p done now next_now)

-- Of a step by an actor that has a command, a part or a job, or of a kind that begins nothing, no event begins a command.
abbrev pub QuietLaw : Type 0
QuietLaw = (s : Setting) (k : Kind) (n : ℕ) (w now : World) (g g_now : Ghost) → InvWith s (view s w) g → InvWith s (view s now) g_now → Step s k n w now
    → ((w.actors n).command ≡ None → is_of_part k ≡ true)
    → (e : Event) → history_in now ≡ e ∷ history_in w → session_in e ≡ None
