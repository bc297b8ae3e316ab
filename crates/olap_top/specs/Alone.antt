-- One thread that makes all steps of a script's run: where it stands.
use Rattle.std.specs.Prelude.{◌≡◌, false, List, get_or, None}
use Rattle.row_ledger.specs.declared.event.Event.{Event}
use Rattle.script_form.specs.{declared.script.Command.Command, declared.script.Script.Script}
use Rattle.script_run.specs.Phases.{all_of}
use Rattle.seeded_run.specs.{Kept.{IsBetween, IsStopped}, Order.is_order, Phase.{IsCoreHeld, about, held}}
use Rattle.seeded_turns.specs.{Drawn.Moment, declared.schedule.Schedule.Schedule}
use Rattle.core_laws.specs.volap_cell.specs.{Cells.ledger_in, Filling.cell_or, Opening.IsOpening, Setting.ledger_cell, World.World, declared.state.State.State}
use Rattle.olap_top.specs.{Engines.HasRunInto, OneRun.{RunPhases, alone_in_order, phase_at, setting_alone}, Outcomes.{on_threads, schedule_of}, declared.alone.OnOneThread.OnOneThread, declared.wanted.Wanted.Wanted}

-- what the ledger in its cell tells
abbrev pub history_at : State → List Event
history_at x = (ledger_in (cell_or (get_or x.cells.items ledger_cell None))).history

-- it runs this script
pub record IsFor (wanted : Wanted) (s : Script) (e : OnOneThread) : Type 0 where
  pub alone : on_threads wanted s ≡ false
  pub with_is : e.with ≡ s.with
  pub hierarchy_is : e.hierarchy ≡ s.hierarchy
  pub core : IsCoreHeld s.hierarchy s.with e.state
  pub about_is : about s.hierarchy s.with e.state ≡ setting_alone s

pub record IsBehindPhases (wanted : Wanted) (s : Script) (ps : List (List Command)) (e : OnOneThread) : Type 0 where
  pub runs : IsFor wanted s e
  pub order : is_order e.schedule ≡ alone_in_order wanted
  pub between : IsBetween (alone_in_order wanted) (setting_alone s) s.with (all_of ps) (held s.hierarchy s.with e.state)
  pub opening : World
  pub is_opening : IsOpening (setting_alone s) opening
  pub turns : RunPhases (alone_in_order wanted) s ps (record { state = opening; schedule = schedule_of wanted }) (record { state = held s.hierarchy s.with e.state; schedule = e.schedule })

pub record IsWithinPhase (wanted : Wanted) (s : Script) (ps : List (List Command)) (phase : List Command) (e : OnOneThread) : Type 0 where
  pub runs : IsFor wanted s e
  pub came : HasRunInto wanted s ps phase (held s.hierarchy s.with e.state)
  pub stopped : IsStopped (alone_in_order wanted) (setting_alone s) (phase_at s phase came.between) (all_of ps) (held s.hierarchy s.with e.state)
