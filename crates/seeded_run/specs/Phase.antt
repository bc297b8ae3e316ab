-- A phase of a script, as it runs over a core that one thread holds.
use Rattle.std.specs.Prelude.{ℕ, ◌≡◌, ◌+◌, ◌^◌, ◌<◌, Bool, true, List, [], ◌++◌, Some, length, slice_get}
use Rattle.dim_hierarchy.specs.Dimension.{Dimension}
use Rattle.row_ledger.specs.declared.settings.Use.{Use}
use Rattle.script_form.specs.declared.script.Command.{Command}
use Rattle.script_run.specs.Phases.{closes}
use Rattle.seeded_turns.specs.{Drawn.{Moment, Reaches, Turn}, declared.schedule.Schedule.Schedule}
use Rattle.core_pages.specs.volap_cell.specs.{Setting.Setting, Steps.{Inv, history_in}, World.World, declared.state.State.State}
use Rattle.seeded_run.specs.{Can.able_in, Commands.IsAllowed, Core.HasCore, Kept.{IsBetween, IsStopped, IsTurn}, Look.HasNames, Order.is_order, Rests.PhaseRun, Worlds.{setting_in, world_in}}

-- What may run.

-- a command that is allowed, and has a name or a pick for each dimension
pub record MayRun (h : List Dimension) (with : Use) (c : Command) : Type 0 where
  pub names : HasNames h c
  pub allowed : IsAllowed with h c

-- all of these may run
abbrev pub MayAllRun : List Dimension → Use → List Command → Type 0
MayAllRun h with commands = (i : ℕ) (c : Command) → slice_get commands i ≡ Some c → MayRun h with c

-- the last command alone may close the phase
abbrev pub ClosesLast : List Command → Type 0
ClosesLast phase = (i : ℕ) (c : Command) → slice_get phase i ≡ Some c → closes c ≡ true → i + 1 ≡ length phase

-- The state.

-- so many actors a number has room for
abbrev pub most_actors : ℕ
most_actors = 2 ^ 16

-- the core that a thread holds meets the invariant
abbrev pub IsCoreHeld : List Dimension → Use → State → Type 0
IsCoreHeld h with x = HasCore h with x.cells.items x.actors.items × (length x.actors.items < most_actors)

-- what it is about, and the state that it is
abbrev pub about : List Dimension → Use → State → Setting
about h with x = setting_in h with x.actors.items

abbrev pub held : List Dimension → Use → State → World
held h with x = world_in h with x.cells.items x.actors.items

-- the phase of these commands that begins in a state
abbrev pub phase_from : List Dimension → Use → List Command → State → PhaseRun
phase_from h with phase x = record { with = with; commands = phase; before = history_in (held h with x) }

-- a turn that leads to a state that meets the invariant
pub record IsKeptTurn (in_order : Bool) (s : Setting) (p : PhaseRun) (w : World) (n : ℕ) (now : World) : Type 0 where
  pub turn : IsTurn in_order s p w n now
  pub inv : Inv s now

-- Some turns of the phase that began in a state lead from that to another one: each step is due, and made by the actor whose turn it
-- is of those that can step; and each leads to a state that meets the invariant.
abbrev pub RunsTo : List Dimension → Use → List Command → State → Schedule → State → Schedule → Type 0
RunsTo h with phase from schedule to schedule_now =
    Reaches World (able_in (is_order schedule) (about h with from) (phase_from h with phase from))
    (IsKeptTurn (is_order schedule) (about h with from) (phase_from h with phase from))
    record { state = held h with from; schedule = schedule } (held h with to) schedule_now

-- and where a step found no memory, to the state that was reached, with some schedule
abbrev pub StopsAt : List Dimension → Use → List Command → State → Schedule → State → Type 0
StopsAt h with phase from schedule to = (s : Schedule) × RunsTo h with phase from schedule to s

-- nobody can make a step any more in this state of the phase that began in another one
abbrev pub NobodyCanStep : Bool → List Dimension → Use → List Command → State → State → Type 0
NobodyCanStep in_order h with phase from to = able_in in_order (about h with from) (phase_from h with phase from) (held h with to) ≡ []

-- Whatever commands were through as the phase began, they and those of the phase are through now; and where it stopped, so far is a part
-- of a run of them.

abbrev pub EndsBehindAny : Bool → List Dimension → Use → List Command → State → State → Type 0
EndsBehindAny in_order h with phase from to =
    (done : List Command) → IsBetween in_order (about h with from) with done (held h with from) → IsBetween in_order (about h with from) with (done ++ phase) (held h with to)

abbrev pub StopsBehindAny : Bool → List Dimension → Use → List Command → State → State → Type 0
StopsBehindAny in_order h with phase from to =
    (done : List Command) → IsBetween in_order (about h with from) with done (held h with from) → IsStopped in_order (about h with from) (phase_from h with phase from) done (held h with to)

-- Turns.

-- a turn of a phase, from one moment to the next
abbrev pub IsTurnOf : Bool → Setting → PhaseRun → Moment World → Moment World → Type 0
IsTurnOf in_order s p before now = Turn World (able_in in_order s p) (IsKeptTurn in_order s p) before now

-- Two turns from one moment are of one actor, for whom a step of one kind was due, and leave one schedule.
abbrev pub OneTurnLaw : Type 0
OneTurnLaw = (in_order : Bool) (s : Setting) (p : PhaseRun) (before a b : Moment World) (x : IsTurnOf in_order s p before a) (y : IsTurnOf in_order s p before b)
    → (x.actor ≡ y.actor) × (x.step.turn.due_kind ≡ y.step.turn.due_kind) × (a.schedule ≡ b.schedule)
