use Rattle.tree_shape.proofs.Down.Deepest.{deepest-law, some-law}
use Rattle.tree_shape.proofs.going_on.carrying_laws.Goals as goal

pub returns-clause-deepest : goal.returns-clause-deepest
returns-clause-deepest c = deepest-law

pub returns-clause-some : goal.returns-clause-some
returns-clause-some c = some-law
