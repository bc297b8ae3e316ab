use Rattle.script_run.proofs.{NextCommand.next_law, PhaseEnds.{start_law, finish_law}, StreamSteps.{begin_law, other_law}}
use Rattle.script_run.proofs.laws.streams_go_on.Goals as goal

pub returns-clause-next : goal.returns-clause-next
returns-clause-next c = next_law

pub returns-clause-begin : goal.returns-clause-begin
returns-clause-begin c = begin_law

pub returns-clause-other : goal.returns-clause-other
returns-clause-other c = other_law

pub returns-clause-start : goal.returns-clause-start
returns-clause-start c = start_law

pub returns-clause-finish : goal.returns-clause-finish
returns-clause-finish c = finish_law
