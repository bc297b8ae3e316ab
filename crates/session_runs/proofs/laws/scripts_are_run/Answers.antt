use Rattle.session_runs.proofs.Phases.{run-law}
use Rattle.session_runs.proofs.laws.scripts_are_run.Goals as goal

pub returns : goal.returns
returns c = run-law
