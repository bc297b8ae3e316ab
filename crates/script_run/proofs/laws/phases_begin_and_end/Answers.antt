use Rattle.script_run.proofs.Between.{opening-law, phase-end-law, phase-start-law, through-law}
use Rattle.script_run.proofs.laws.phases_begin_and_end.Goals as goal

pub returns-clause-through : goal.returns-clause-through
returns-clause-through c = through-law

pub returns-clause-opening : goal.returns-clause-opening
returns-clause-opening c = opening-law

pub returns-clause-start : goal.returns-clause-start
returns-clause-start c = phase-start-law

pub returns-clause-end : goal.returns-clause-end
returns-clause-end c = phase-end-law
