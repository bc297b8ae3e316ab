use Rattle.seeded_run.proofs.{Phases.Ends.end-law, Phases.Movers.can-law, Phases.Orders.order-end-law, Phases.Progress.due-law}
use Rattle.seeded_run.proofs.laws.somebody_goes_on.Goals as goal

pub returns-clause-due : goal.returns-clause-due
returns-clause-due c = due-law

pub returns-clause-can : goal.returns-clause-can
returns-clause-can c = can-law

pub returns-clause-over : goal.returns-clause-over
returns-clause-over c = end-law

pub returns-clause-order : goal.returns-clause-order
returns-clause-order c = order-end-law
