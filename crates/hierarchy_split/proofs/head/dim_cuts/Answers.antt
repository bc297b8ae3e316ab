use Rattle.std.proofs.Common.{refl}
use Rattle.hierarchy_split.specs.Head.{head_items}
use Rattle.hierarchy_split.proofs.Groups.{no_cuts}
use Rattle.hierarchy_split.proofs.head.dim_cuts.Goals as goal

pub returns-in-None : goal.returns-in-None
returns-in-None c = no_cuts c.args.h.now (head_items c.args.head.now) c.args.dim _ refl (λ level l. c.in-None.ensures.none level l.cut_level)
