use Rattle.std.proofs.Common.{◌≡◌, ◌≤◌, length, vec_capacity}
use Rattle.threaded_run.specs.Phases.{HasTakenSome}
use Rattle.threaded_run.proofs.phases.take_all.Given as goal

abbrev pub invariant-loop-number : goal.invariant-loop-number
invariant-loop-number g l = record {
  some : HasTakenSome l.hall l.jobs.items l.fn.passes l.passes;
  count : length l.jobs.items ≡ l.number;
  room : l.roles ≤ vec_capacity l.jobs;
}
