use Rattle.session_runs.proofs.Phases.{stop-law}
use Rattle.session_runs.proofs.laws.sessions_that_stop_make_a_part.Goals as goal

pub returns : goal.returns
returns c = stop-law
