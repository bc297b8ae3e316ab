use Rattle.seeded_run.proofs.Phases.Shrinks.{rest-law}
use Rattle.seeded_run.proofs.laws.streams_run_out.Goals as goal

pub returns-clause-rest : goal.returns-clause-rest
returns-clause-rest c = rest-law
