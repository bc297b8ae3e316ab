use Rattle.std.proofs.Common.{◌-◌}
use Rattle.seeded_run.specs.Survey.{AllAwaited}
use Rattle.seeded_run.proofs.survey.first_unknown.Given as goal

abbrev pub invariant-loop-known : goal.invariant-loop-known
invariant-loop-known l = AllAwaited l.awaited l.known

abbrev pub decreases-loop-known : goal.decreases-loop-known
decreases-loop-known l = l.workers - l.known
