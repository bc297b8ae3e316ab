use Rattle.seeded_run.proofs.Due.DueReuses.{order-law}
use Rattle.seeded_run.proofs.laws.one_steps_in_order.Goals as goal

pub returns : goal.returns
returns c = order-law
