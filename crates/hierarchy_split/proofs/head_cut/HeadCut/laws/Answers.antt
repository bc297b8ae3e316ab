use Rattle.hierarchy_split.proofs.Heads.{IsGoodHeadCut-unique}
use Rattle.hierarchy_split.proofs.head_cut.HeadCut.laws.Goals as goal

pub returns : goal.returns
returns c = IsGoodHeadCut-unique c.args.h.now
