use Rattle.seeded_run.proofs.Due.DueReuses.{idle-law}
use Rattle.seeded_run.proofs.laws.idle_actors_wait.Goals as goal

pub returns : goal.returns
returns c = idle-law
