use Rattle.core_told.proofs.Pulling.{opened-pulling-law, resting-law}
use Rattle.core_told.proofs.laws.opening_has_pulled.Goals as goal

pub returns-clause-resting : goal.returns-clause-resting
returns-clause-resting c = resting-law

pub returns-clause-opened : goal.returns-clause-opened
returns-clause-opened c = opened-pulling-law
