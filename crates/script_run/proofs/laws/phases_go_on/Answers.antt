use Rattle.script_run.proofs.InPhase.{phase_begin_law, phase_other_law, rank_law}
use Rattle.script_run.proofs.laws.phases_go_on.Goals as goal

pub returns-clause-begin : goal.returns-clause-begin
returns-clause-begin c = phase_begin_law

pub returns-clause-other : goal.returns-clause-other
returns-clause-other c = phase_other_law

pub returns-clause-rank : goal.returns-clause-rank
returns-clause-rank c = rank_law
