-- How the state came about that is left of a script's run: by steps from the opening, and on one thread by the turns that its
-- schedule gives.
use Rattle.std.specs.{List.slice_index_or, Prelude.{ℕ, ◌≡◌, ⊤, Bool, true, false, if◌then◌else◌, Some, None, is_some, List, [], ◌∷◌, All, get_or, length, take}}
use Rattle.row_ledger.specs.LedgerValue.{LedgerValue}
use Rattle.script_form.specs.{declared.script.Command.Command, declared.script.Script.Script}
use Rattle.script_run.specs.Phases.{phases}
use Rattle.seeded_run.specs.script_roles.specs.Roles.{roles_of}
use Rattle.threaded_run.specs.actor_run.specs.Halls.{hall_setting}
use Rattle.seeded_run.specs.{Can.able_in, Order.is_order, Phase.{IsKeptTurn, about, held}, Rests.PhaseRun}
use Rattle.seeded_turns.specs.{Drawn.{Moment, Reaches}, declared.schedule.Schedule.Schedule}
use Rattle.core_laws.specs.volap_cell.specs.{Cells.{FreeCell, LedgerCell}, Filling.setting_for, Opening.IsOpening, Setting.{Setting, actor_count, cell_count, ledger_cell}, Steps.{IsReached, history_in}, World.{World, change, put}, declared.state.State.State}
use Rattle.core_laws.specs.volap_cell.specs.declared.cell.Cell.TheVariants as cell
use Rattle.olap_top.specs.{Outcomes.{on_threads, schedule_of}, declared.outcome.Status.Status, declared.wanted.Wanted.Wanted}
use Rattle.olap_top.specs.declared.outcome.Status.TheVariants as status_is

-- what the core of a script's run is about on one thread
abbrev pub setting_alone : Script → Setting
setting_alone s = setting_for s.hierarchy s.with (roles_of s.with)

-- and with a thread for each actor: the hall's own stands behind the others
abbrev pub setting_of : Wanted → Script → Setting
setting_of wanted s = if on_threads wanted s then hall_setting s.hierarchy s.with (roles_of s.with) else setting_alone s

-- Runs.

-- a phase that begins at a moment
abbrev pub phase_at : Script → List Command → Moment World → PhaseRun
phase_at s phase from = record { with = s.with; commands = phase; before = history_in from.state }

-- Turns of a phase, from the moment at which it begins to another. Each is a step that is due, of the actor whose turn it is, and leads
-- to a state that meets the invariant.
abbrev pub RunsPhase : Bool → Script → List Command → Moment World → Moment World → Type 0
RunsPhase in_order s phase from to = Reaches World (able_in in_order (setting_alone s) (phase_at s phase from)) (IsKeptTurn in_order (setting_alone s) (phase_at s phase from)) from to.state to.schedule

-- a whole phase: its turns lead to a moment at which nobody can make a step of it any more
pub record RunsWhole (in_order : Bool) (s : Script) (phase : List Command) (from to : Moment World) : Type 0 where
  pub turns : RunsPhase in_order s phase from to
  pub rested : able_in in_order (setting_alone s) (phase_at s phase from) to.state ≡ []

-- whole phases, one after the other
abbrev pub RunPhases : Bool → Script → List (List Command) → Moment World → Moment World → Type 0
RunPhases in_order s [] from to = to ≡ from
RunPhases in_order s (phase ∷ more) from to = (between : Moment World) × RunsWhole in_order s phase from between × RunPhases in_order s more between to

-- the commands of the phase with a number from 0; none behind the last one
abbrev pub phase_of : Script → ℕ → List Command
phase_of s k = slice_index_or (phases s.commands) k []

-- through the first phases, each to its end, and then by some turns of the next one
pub record GoesTo (in_order : Bool) (s : Script) (from : Moment World) (to : World) : Type 0 where
  pub phase : ℕ
  pub between : Moment World
  pub whole : RunPhases in_order s (take phase (phases s.commands)) from between
  pub schedule : Schedule
  pub part : RunsPhase in_order s (phase_of s phase) between (record { state = to; schedule = schedule })

-- through these phases, each to its end, and no further
abbrev pub GoesThrough : Bool → Script → List (List Command) → Moment World → World → Type 0
GoesThrough in_order s ps from to = (schedule : Schedule) × RunPhases in_order s ps from (record { state = to; schedule = schedule })

-- A run ends where a phase has ended: one that is done behind the last phase, and one whose sink failed behind some phase. Only where
-- memory ran out it may end in the midst of one.
abbrev pub EndsAs : Status → Bool → Script → Moment World → World → Type 0
EndsAs status_is.Done in_order s from to = GoesThrough in_order s (phases s.commands) from to
EndsAs status_is.WriteFault in_order s from to = (count : ℕ) × GoesThrough in_order s (take count (phases s.commands)) from to
EndsAs _ in_order s from to = ⊤

-- whether one thread goes in order
abbrev pub alone_in_order : Wanted → Bool
alone_in_order wanted = is_order (schedule_of wanted)

-- A state to which the script's run on one thread leads from its opening, where it ends with this status.
pub record IsRunUpTo (wanted : Wanted) (s : Script) (status : Status) (to : World) : Type 0 where
  pub opening : World
  pub is_opening : IsOpening (setting_alone s) opening
  pub goes : GoesTo (alone_in_order wanted) s (record { state = opening; schedule = schedule_of wanted }) to
  pub ends : EndsAs status (alone_in_order wanted) s (record { state = opening; schedule = schedule_of wanted }) to

-- What is left.

-- the state, with the ledger in its cell
abbrev pub with_ledger : LedgerValue → World → World
with_ledger ledger w = record { cells = put (change ledger_cell FreeCell (LedgerCell ledger) ∷ []) w.cells; actors = w.actors }

-- as many cells and actors as a core of these settings has, and each stands in its place
pub record IsWhole (s : Setting) (x : State) : Type 0 where
  pub cells : length x.cells.items ≡ cell_count s
  pub actors : length x.actors.items ≡ actor_count s
  pub each_cell : All (λ place. is_some place ≡ true) x.cells.items
  pub each_actor : All (λ place. is_some place ≡ true) x.actors.items

-- What is left of a run: the state that it led to, but that the ledger was moved out of its cell, which is free. Steps of the core led
-- to it from an opening; on one thread they are the turns of the one run.
pub record IsRestOf (wanted : Wanted) (s : Script) (status : Status) (ledger : LedgerValue) (rest : State) : Type 0 where
  pub about_is : about s.hierarchy s.with rest ≡ setting_of wanted s
  pub whole : IsWhole (setting_of wanted s) rest
  pub freed : get_or rest.cells.items ledger_cell None ≡ Some cell.Free
  pub reached : IsReached (setting_of wanted s) (with_ledger ledger (held s.hierarchy s.with rest))
  pub run : on_threads wanted s ≡ false → IsRunUpTo wanted s status (with_ledger ledger (held s.hierarchy s.with rest))
