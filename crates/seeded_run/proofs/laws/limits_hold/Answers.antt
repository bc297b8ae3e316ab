use Rattle.seeded_run.proofs.Phases.Limits.{limits-law}
use Rattle.seeded_run.proofs.laws.limits_hold.Goals as goal

pub returns : goal.returns
returns c = limits-law
