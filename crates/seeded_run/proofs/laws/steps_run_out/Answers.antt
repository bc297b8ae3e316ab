use Rattle.seeded_run.proofs.{Counted.counted-law, Phases.Measure.{fewer-law, most-law, steps-left-law}}
use Rattle.seeded_run.proofs.laws.steps_run_out.Goals as goal

pub returns-clause-step : goal.returns-clause-step
returns-clause-step c = steps-left-law

pub returns-clause-counted : goal.returns-clause-counted
returns-clause-counted c = counted-law

pub returns-clause-most : goal.returns-clause-most
returns-clause-most c = most-law

pub returns-clause-fewer : goal.returns-clause-fewer
returns-clause-fewer c = fewer-law
