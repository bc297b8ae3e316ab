use Rattle.seeded_run.proofs.Scripts.{script-law}
use Rattle.seeded_run.proofs.laws.scripts_run_so.Goals as goal

pub returns : goal.returns
returns c = script-law
