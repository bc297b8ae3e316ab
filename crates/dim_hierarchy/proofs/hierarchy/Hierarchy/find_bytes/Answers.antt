use Rattle.std.proofs.Common.{arith, sym}
use Rattle.dim_hierarchy.proofs.Dimensions.{find-past}
use Rattle.dim_hierarchy.proofs.hierarchy.Hierarchy.find_bytes.Goals as goal

pub returns-then-dim-dims : goal.returns-then-dim-dims
returns-then-dim-dims c = sym (find-past c.args.self.now c.args.dim c.args.name.now (omega arith))
