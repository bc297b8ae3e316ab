use Rattle.tree_shape.proofs.Examples.HeadCuts.{head-cut_work}
use Rattle.tree_shape.proofs.worked_head_cut.Goals as goal

pub returns : goal.returns
returns _ = head-cut_work
