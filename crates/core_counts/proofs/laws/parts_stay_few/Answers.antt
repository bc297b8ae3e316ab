use Rattle.core_counts.proofs.Counting.{counting-law, resting-count-law}
use Rattle.core_counts.proofs.laws.parts_stay_few.Goals as goal

pub returns-clause-counting : goal.returns-clause-counting
returns-clause-counting c = counting-law

pub returns-clause-resting : goal.returns-clause-resting
returns-clause-resting c = resting-count-law
