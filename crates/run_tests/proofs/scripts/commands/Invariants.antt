use Rattle.std.specs.Prelude.{All}
use Rattle.library_runs.specs.seeded_run.specs.Phase.{MayRun}
use Rattle.run_tests.proofs.scripts.commands.Given as goal

abbrev pub invariant-loop-line : goal.invariant-loop-line
invariant-loop-line l = All (MayRun l.h l.with) l.commands
