use Rattle.seeded_run.proofs.Phases.PhaseRuns.{phase-begins-law, phase-ends-law, runs-law}
use Rattle.seeded_run.proofs.laws.phases_begin_and_end.Goals as goal

pub returns-clause-begins : goal.returns-clause-begins
returns-clause-begins c = phase-begins-law

pub returns-clause-ends : goal.returns-clause-ends
returns-clause-ends c = phase-ends-law

pub returns-clause-runs : goal.returns-clause-runs
returns-clause-runs c = runs-law
