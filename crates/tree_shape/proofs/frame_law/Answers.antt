use Rattle.tree_shape.proofs.Whole.Others.{after-other}
use Rattle.tree_shape.proofs.frame_law.Goals as goal

pub returns : goal.returns
returns _ = λ table g before now tree d. after-other table g before now tree d
