use Rattle.tree_shape.proofs.Examples.Cities.{all-work}
use Rattle.tree_shape.proofs.worked_cities.Goals as goal

pub returns : goal.returns
returns _ = all-work
