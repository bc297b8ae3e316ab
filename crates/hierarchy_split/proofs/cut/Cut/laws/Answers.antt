use Rattle.hierarchy_split.proofs.Cuts.{IsGoodCut-unique}
use Rattle.hierarchy_split.proofs.cut.Cut.laws.Goals as goal

pub returns : goal.returns
returns c = IsGoodCut-unique c.args.h.now c.args.sets.now
