use Rattle.core_told.proofs.Pulling.{pulling-law}
use Rattle.core_told.proofs.laws.pulls_go_on.Goals as goal

pub returns : goal.returns
returns c = pulling-law
