use Rattle.std.proofs.Common.{[], ◌∷◌}
use Rattle.job_steps.proofs.Cells.{may-rest, order-rest, takes-on, takes-one}
use Rattle.job_steps.proofs.turns.take_up.Goals as goal

pub take-requires-2-clause-other : goal.take-requires-2-clause-other
take-requires-2-clause-other g c = (may-rest c.take.ensures.took c.requires.may).other.0

pub take-requires-2-clause-rank : goal.take-requires-2-clause-rank
take-requires-2-clause-rank g c = (order-rest (c.args.high ∷ []) c.take.ensures.took (c.requires.up, tt) c.requires.order.1).0

pub returns-clause-took : goal.returns-clause-took
returns-clause-took g c =
    takes-on (takes-one c.requires.may.other.0 c.requires.order.0 c.take.ensures.took)
    (takes-one (may-rest c.take.ensures.took c.requires.may).other.0 (order-rest (c.args.high ∷ []) c.take.ensures.took (c.requires.up, tt) c.requires.order.1).0 c.take-2.ensures.took)
