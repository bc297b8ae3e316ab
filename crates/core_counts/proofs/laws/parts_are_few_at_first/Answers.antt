use Rattle.core_counts.proofs.AtFirst.{at-first-law}
use Rattle.core_counts.proofs.laws.parts_are_few_at_first.Goals as goal

pub returns : goal.returns
returns c = at-first-law
