use Rattle.script_run.proofs.WorkedRuns.{settle-runs}
use Rattle.script_run.proofs.worked.settle_with_all_pulls_is_a_run.Goals as goal

pub returns : goal.returns
returns c = settle-runs
