use Rattle.std.proofs.Common.{refl}
use Rattle.hierarchy_split.proofs.Groups.{struck_none}
use Rattle.hierarchy_split.proofs.head.struck.Goals as goal

pub returns-in-None : goal.returns-in-None
returns-in-None c = λ items same a. struck_none c.args.h.now items c.args.set.now c.args.dim c.args.cuts.now _ c.in-None.is refl a
