use Rattle.seeded_run.proofs.{Phases.Ranks.{rank-falls, step-falls}, Phases.Waiting.waiting-law}
use Rattle.seeded_run.proofs.laws.less_is_left.Goals as goal

pub returns-clause-rank : goal.returns-clause-rank
returns-clause-rank c = rank-falls

pub returns-clause-step : goal.returns-clause-step
returns-clause-step c = step-falls

pub returns-clause-waiting : goal.returns-clause-waiting
returns-clause-waiting c = waiting-law
