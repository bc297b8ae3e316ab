use Rattle.std.proofs.Common.{[], refl}
use Rattle.tree_shape.proofs.Building.Openings.{opening-law}
use Rattle.tree_shape.proofs.opening_law.Goals as goal

pub returns : goal.returns
returns c = λ stamp. opening-law stamp [] refl
