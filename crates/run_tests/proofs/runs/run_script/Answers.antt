use Rattle.std.proofs.Common.{sym, subst}
use Rattle.library_runs.specs.seeded_run.specs.Phase.{MayAllRun}
use Rattle.run_tests.proofs.runs.run_script.Goals as goal

pub run_all-requires-clause-may_run : goal.run_all-requires-clause-may_run
run_all-requires-clause-may_run c = subst (MayAllRun c.args.script.now.hierarchy c.args.script.now.with) (sym c.as_slice.ensures) c.requires.may_run
