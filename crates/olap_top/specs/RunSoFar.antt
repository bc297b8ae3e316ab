-- What a run has made so far, and what a phase of it makes.
use Rattle.std.specs.Prelude.{ℕ, ◌≡◌, ◌++◌, ◌⊎◌, Bool, true, false, if◌then◌else◌, Option, Some, None, IfSome, is_some, List, [], take, drop}
use Rattle.answer_text.specs.{Printed.phase_behind, Told.HasTold, declared.text.Teller.Teller}
use Rattle.row_ledger.specs.{Right.IsRight, Site.site_of, declared.event.Event.Event, declared.settings.Use.Use}
use Rattle.script_form.specs.{declared.script.Command.Command, declared.script.Script.Script}
use Rattle.script_run.specs.{Between.IsThrough, Phases.phases, Runs.IsRunSoFar}
use Rattle.olap_top.specs.{OneRun.phase_of, declared.outcome.Status.Status, declared.outcome.Status.TheVariants.{Done, WriteFault}, declared.wanted.Wanted.Wanted, declared.wanted.Wanted.TheVariants.Load}

-- these commands are told, by the history as it was when the last of them was over
pub record HasToldSo (s : Script) (done : List Command) (history : List Event) (teller : Teller) : Type 0 where
  pub past : List Event
  pub more : List Event
  pub told : HasTold s.with done past teller
  pub grown : history ≡ more ++ past

-- the text of the commands that a teller has not told; nothing without a teller
abbrev pub untold_text : Option Teller → Use → List Command → List Event → List ℕ
untold_text None with commands history = []
untold_text (Some teller) with commands history = phase_behind with (take teller.told commands) (drop teller.told commands) history

-- whether the text of each phase is asked for; a load is asked for its summary instead
abbrev pub tells_phases : Wanted → Bool
tells_phases (Load rows seed threads) = false
tells_phases wanted = true

-- A run between two phases: these commands are over, and told where phases are.
pub record IsBehind (s : Script) (done : List Command) (history : List Event) (teller : Option Teller) : Type 0 where
  pub through : IsThrough s.with s.hierarchy done history
  pub right : IsRight (site_of s.with s.hierarchy) history
  pub told : IfSome teller (HasToldSo s done history)

-- the history has gone on
pub record HasGrown (before now : List Event) : Type 0 where
  pub newer : List Event
  pub grown : now ≡ newer ++ before

-- A phase ran to its end, and this is its text, where it is told.
pub record HasGone (s : Script) (done phase : List Command) (was now : List Event) (teller teller_now : Option Teller) (text : List ℕ) : Type 0 where
  pub behind : IsBehind s (done ++ phase) now teller_now
  pub grows : HasGrown was now
  pub same : is_some teller_now ≡ is_some teller
  pub text_is : text ≡ (if is_some teller then phase_behind s.with done phase now else [])

-- Memory ran out in a phase, or for its text: so far it is a part of a run of these commands and of any that were to come behind.
pub record HasStopped (s : Script) (done phase : List Command) (was now : List Event) : Type 0 where
  pub right : IsRight (site_of s.with s.hierarchy) now
  pub grows : HasGrown was now
  pub part : (more : List Command) → IsRunSoFar s.with s.hierarchy ((done ++ phase) ++ more) now

-- Where what runs the script stands, by the status with which the run ends: behind its last phase, behind some phase, or anywhere.
-- `Behind` says of phases that it stands behind them, `Within` that it came so far in the one behind them.
abbrev pub HasLeft : Script → Status → (List (List Command) → Type 0) → (List (List Command) → List Command → Type 0) → Type 0
HasLeft s Done Behind Within = Behind (phases s.commands)
HasLeft s WriteFault Behind Within = (k : ℕ) × Behind (take k (phases s.commands))
HasLeft s status Behind Within = (k : ℕ) × (Behind (take k (phases s.commands)) ⊎ Within (take k (phases s.commands)) (phase_of s k))
