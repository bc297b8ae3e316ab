use Rattle.script_run.proofs.Between.{order-begin-law, order-other-law, order-start-law}
use Rattle.script_run.proofs.laws.commands_stay_in_order.Goals as goal

pub returns-clause-start : goal.returns-clause-start
returns-clause-start c = order-start-law

pub returns-clause-other : goal.returns-clause-other
returns-clause-other c = order-other-law

pub returns-clause-begin : goal.returns-clause-begin
returns-clause-begin c = order-begin-law
