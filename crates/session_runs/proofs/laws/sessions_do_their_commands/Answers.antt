use Rattle.session_runs.proofs.Phases.{together-law}
use Rattle.session_runs.proofs.laws.sessions_do_their_commands.Goals as goal

pub returns : goal.returns
returns c = together-law
