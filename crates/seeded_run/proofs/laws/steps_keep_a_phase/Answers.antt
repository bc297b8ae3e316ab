use Rattle.seeded_run.proofs.{Begins.{keeps-beginning-law, quiet-law}, Phases.Keeps.keeps-other-law}
use Rattle.seeded_run.proofs.laws.steps_keep_a_phase.Goals as goal

pub returns-clause-other : goal.returns-clause-other
returns-clause-other c = keeps-other-law

pub returns-clause-beginning : goal.returns-clause-beginning
returns-clause-beginning c = keeps-beginning-law

pub returns-clause-quiet : goal.returns-clause-quiet
returns-clause-quiet c = quiet-law
