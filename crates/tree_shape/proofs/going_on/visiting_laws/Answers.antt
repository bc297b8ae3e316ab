use Rattle.tree_shape.proofs.Reading.VisitsLeft.{few-law, falls-law}
use Rattle.tree_shape.proofs.going_on.visiting_laws.Goals as goal

pub returns-clause-few : goal.returns-clause-few
returns-clause-few c = few-law

pub returns-clause-falls : goal.returns-clause-falls
returns-clause-falls c = falls-law
