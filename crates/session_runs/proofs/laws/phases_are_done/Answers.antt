use Rattle.session_runs.proofs.Phases.{phase-law}
use Rattle.session_runs.proofs.laws.phases_are_done.Goals as goal

pub returns : goal.returns
returns c = phase-law
