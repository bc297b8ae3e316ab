use Rattle.seeded_run.proofs.Phases.PhaseRuns.{behind-begins-law, behind-ends-law, stops-law}
use Rattle.seeded_run.proofs.laws.phases_go_on_behind.Goals as goal

pub returns-clause-begins : goal.returns-clause-begins
returns-clause-begins c = behind-begins-law

pub returns-clause-stops : goal.returns-clause-stops
returns-clause-stops c = stops-law

pub returns-clause-ends : goal.returns-clause-ends
returns-clause-ends c = behind-ends-law
