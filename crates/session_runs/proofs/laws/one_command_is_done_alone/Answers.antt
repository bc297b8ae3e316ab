use Rattle.session_runs.proofs.Phases.{alone-law}
use Rattle.session_runs.proofs.laws.one_command_is_done_alone.Goals as goal

pub returns : goal.returns
returns c = alone-law
