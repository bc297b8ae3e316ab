use Rattle.core_counts.proofs.Grows.{grows-law}
use Rattle.core_counts.proofs.laws.an_event_adds_few.Goals as goal

pub returns : goal.returns
returns c = grows-law
