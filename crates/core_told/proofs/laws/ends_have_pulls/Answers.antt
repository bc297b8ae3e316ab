use Rattle.core_told.proofs.Pulling.{ending-law}
use Rattle.core_told.proofs.laws.ends_have_pulls.Goals as goal

pub returns : goal.returns
returns c = ending-law
