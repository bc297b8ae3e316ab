use Rattle.session_runs.proofs.WorkedSessions.{twice-not}
use Rattle.session_runs.proofs.worked.sync_with_two_pulls_is_not_done.Goals as goal

pub returns : goal.returns
returns c = twice-not
