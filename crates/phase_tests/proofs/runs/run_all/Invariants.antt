use Rattle.std.proofs.Common.{◌≤◌, ◌-◌, length}
use Rattle.threaded_run.specs.Phases.{ArePhased}
use Rattle.phase_tests.proofs.runs.run_all.Given as goal

abbrev pub decreases-loop-done : goal.decreases-loop-done
decreases-loop-done g l = length l.commands - l.done

abbrev pub invariant-loop-done : goal.invariant-loop-done
invariant-loop-done g l = record {
  within : l.done ≤ length l.commands;
  phased : ArePhased l.hall l.passes;
}
