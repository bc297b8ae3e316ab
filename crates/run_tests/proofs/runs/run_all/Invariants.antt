use Rattle.std.proofs.Common.{◌≡◌, ◌≤◌, ◌-◌, length, take}
use Rattle.library_runs.specs.seeded_run.specs.{Kept.IsBetween, Order.is_order, Phase.{IsCoreHeld, about, held}}
use Rattle.run_tests.proofs.runs.run_all.Given as goal

abbrev pub decreases-loop-done : goal.decreases-loop-done
decreases-loop-done l = length l.commands - l.done

abbrev pub invariant-loop-done : goal.invariant-loop-done
invariant-loop-done l = record {
  within : l.done ≤ length l.commands;
  core : IsCoreHeld l.script.hierarchy l.script.with l.state;
  order : is_order l.schedule ≡ is_order l.initial.schedule;
  between : IsBetween (is_order l.initial.schedule) (about l.script.hierarchy l.script.with l.state) l.script.with (take l.done l.commands) (held l.script.hierarchy l.script.with l.state);
}
