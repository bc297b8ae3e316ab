-- What runs a script's phases: what is asked of it, and what it leaves.
use Rattle.std.specs.Prelude.{ℕ, ◌≡◌, ◌<◌, true, false, Some, List, [], ◌++◌, length, slice_get, take}
use Rattle.row_ledger.specs.{Right.IsRight, Site.site_of, declared.event.Event.Event}
use Rattle.script_form.specs.{Fits.Fits, declared.script.Command.Command, declared.script.Script.Script}
use Rattle.script_run.specs.{Between.IsThrough, Phases.all_of, Places.begins_of, Runs.IsSerial}
use Rattle.seeded_run.specs.{Core.HasState, Kept.{AreIdle, IsNoneGone}, Phase.{about, held}}
use Rattle.seeded_turns.specs.{Drawn.Moment, declared.schedule.Schedule.Schedule}
use Rattle.core_laws.specs.volap_cell.specs.{Opening.IsOpening, Steps.history_in, World.World, declared.state.State.State}
use Rattle.olap_top.specs.{OneRun.{RunPhases, RunsPhase, alone_in_order, setting_alone, setting_of}, Outcomes.{goes_in_order, on_threads, schedule_of}, RunSoFar.HasGrown, declared.wanted.Wanted.Wanted}

-- Phases.

-- the last of these commands, from a place on, may run as a phase behind these phases
pub record MayRunNext (s : Script) (ps : List (List Command)) (done : ℕ) (commands : List Command) : Type 0 where
  pub first : all_of ps ≡ take done commands
  pub fit : (i : ℕ) (c : Command) → slice_get commands i ≡ Some c → Fits s c
  pub dims : 0 < length s.hierarchy

-- whatever became of a phase
pub record HasGoneInto (s : Script) (was now : List Event) (Within : Type 0) : Type 0 where
  pub grows : HasGrown was now
  pub right : IsRight (site_of s.with s.hierarchy) now
  pub within : Within

-- The history was read between two phases: nothing has begun meanwhile.
pub record HasBeenRead (s : Script) (was now : List Event) (Behind : Type 0) : Type 0 where
  pub grows : HasGrown was now
  pub right : IsRight (site_of s.with s.hierarchy) now
  pub none : (session : ℕ) → begins_of now session ≡ begins_of was session
  pub behind : Behind

-- What is left.

-- a state that meets the invariant, about what the run is about, with this history
pub record IsLeft (wanted : Wanted) (s : Script) (history : List Event) (x : State) : Type 0 where
  pub state : HasState s.hierarchy s.with x.cells.items x.actors.items
  pub about_is : about s.hierarchy s.with x ≡ setting_of wanted s
  pub told : history_in (held s.hierarchy s.with x) ≡ history

-- on one thread the turns of these phases, each to its end, lead from the opening to a state
pub record HasRunThrough (wanted : Wanted) (s : Script) (ps : List (List Command)) (to : World) : Type 0 where
  pub opening : World
  pub is_opening : IsOpening (setting_alone s) opening
  pub schedule : Schedule
  pub turns : RunPhases (alone_in_order wanted) s ps (record { state = opening; schedule = schedule_of wanted }) (record { state = to; schedule = schedule })

-- and then some turns of one phase more
pub record HasRunInto (wanted : Wanted) (s : Script) (ps : List (List Command)) (phase : List Command) (to : World) : Type 0 where
  pub opening : World
  pub is_opening : IsOpening (setting_alone s) opening
  pub between : Moment World
  pub whole : RunPhases (alone_in_order wanted) s ps (record { state = opening; schedule = schedule_of wanted }) between
  pub schedule : Schedule
  pub part : RunsPhase (alone_in_order wanted) s phase between (record { state = to; schedule = schedule })

-- behind these phases: everybody is idle, and no gate is gone
pub record IsLeftBehind (wanted : Wanted) (s : Script) (ps : List (List Command)) (history : List Event) (x : State) : Type 0 where
  pub left : IsLeft wanted s history x
  pub idle : AreIdle (held s.hierarchy s.with x)
  pub none_gone : IsNoneGone (held s.hierarchy s.with x)
  pub run : on_threads wanted s ≡ false → HasRunThrough wanted s ps (held s.hierarchy s.with x)
  pub serial : goes_in_order wanted ≡ true → (more : List Command) → IsSerial s.with (all_of ps ++ more) history

-- in the phase behind these
pub record IsLeftWithin (wanted : Wanted) (s : Script) (ps : List (List Command)) (phase : List Command) (history : List Event) (x : State) : Type 0 where
  pub left : IsLeft wanted s history x
  pub run : on_threads wanted s ≡ false → HasRunInto wanted s ps phase (held s.hierarchy s.with x)
  pub serial : goes_in_order wanted ≡ true → (more : List Command) → IsSerial s.with ((all_of ps ++ phase) ++ more) history

-- Openings.

-- nothing has begun
pub record HasOpenedFor (s : Script) (history : List Event) (Behind : Type 0) : Type 0 where
  pub through : IsThrough s.with s.hierarchy [] history
  pub right : IsRight (site_of s.with s.hierarchy) history
  pub behind : Behind
