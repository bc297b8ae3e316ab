use Rattle.session_runs.proofs.WorkedSessions.{each-done}
use Rattle.session_runs.proofs.worked.insert_and_sync_at_once_are_done.Goals as goal

pub returns : goal.returns
returns c = each-done
