use Rattle.std.proofs.Common.{ℕ, ◌≡◌, ◌≤◌, false, List, length, slice_get}
use Rattle.hall_hands.specs.actor_run.specs.Passes.{PassesValue}
use Rattle.script_form.specs.declared.script.Command.{Command}
use Rattle.threaded_run.specs.{Jobs.AreJobsBack, Phases.HasGivenSome}
use Rattle.threaded_run.proofs.phases.give_all.Given as goal

abbrev pub invariant-loop-place : goal.invariant-loop-place
invariant-loop-place l = record {
  given : (commands : List Command) (was : PassesValue) → HasGivenSome l.hall commands (length l.fn.jobs) 0 false was l.fn.passes → AreJobsBack l.hall commands was.seen l.fn.jobs
      → HasGivenSome l.hall commands (length l.fn.jobs) l.place l.stopped was l.passes;
  count : length l.jobs ≡ length l.fn.jobs;
  left : (k : ℕ) → l.place ≤ k → slice_get l.jobs k ≡ slice_get l.fn.jobs k;
}
