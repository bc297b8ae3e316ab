use Rattle.tree_shape.proofs.Examples.Steps.{works}
use Rattle.tree_shape.proofs.worked_example.Goals as goal

pub returns : goal.returns
returns _ = λ table x d. works table x d
