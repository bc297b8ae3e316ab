-- A thread for each actor of a script's run: where the hall of the run stands.
use Rattle.std.specs.Prelude.{◌≡◌, true, List, []}
use Rattle.row_ledger.specs.declared.event.Event.{Event}
use Rattle.script_form.specs.declared.script.{Command.Command, Script.Script}
use Rattle.script_run.specs.{Between.IsThrough, Phases.all_of}
use Rattle.seeded_run.specs.script_roles.specs.Roles.{roles_of}
use Rattle.threaded_run.specs.actor_run.specs.{Halls.hall_setting, Passes.PassesValue}
use Rattle.threaded_run.specs.seat_steps.specs.declared.floor.Floor.{Floor}
use Rattle.threaded_run.specs.Phases.{ArePhased}
use Rattle.olap_top.specs.{Outcomes.on_threads, declared.wanted.Wanted.Wanted}

-- it is the hall of this script's run, and all passes are in
pub record IsHallOf (wanted : Wanted) (s : Script) (f : Floor) (p : PassesValue) : Type 0 where
  pub threads : on_threads wanted s ≡ true
  pub with_is : f.with ≡ s.with
  pub hierarchy_is : f.hierarchy ≡ s.hierarchy
  pub phased : ArePhased f p
  pub setting : p.setting ≡ hall_setting s.hierarchy s.with (roles_of s.with)

-- these phases are through, and no gate is gone
pub record IsHallBehind (wanted : Wanted) (s : Script) (ps : List (List Command)) (f : Floor) (p : PassesValue) : Type 0 where
  pub is : IsHallOf wanted s f p
  pub through : IsThrough s.with s.hierarchy (all_of ps) p.seen
  pub none_gone : p.gone ≡ []
