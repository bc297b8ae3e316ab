use Rattle.std.proofs.Common.{[], ◌∷◌}
use Rattle.job_steps.proofs.Cells.{may-rest, order-rest, takes-on, takes-one}
use Rattle.job_steps.proofs.turns.take_low.Goals as goal

pub take_two-requires-clause-may : goal.take_two-requires-clause-may
take_two-requires-clause-may g c = may-rest c.take.ensures.took c.requires.may

pub take_two-requires-clause-order : goal.take_two-requires-clause-order
take_two-requires-clause-order g c = order-rest (c.args.x ∷ c.args.y ∷ []) c.take.ensures.took (c.requires.first, (c.requires.first_too, tt)) c.requires.order.1

pub returns-clause-took : goal.returns-clause-took
returns-clause-took g c = takes-on (takes-one c.requires.may.other.0 c.requires.order.0 c.take.ensures.took) c.take_two.ensures.took
