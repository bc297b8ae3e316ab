use Rattle.row_ledger.proofs.Ascent.{frontier-ascends}
use Rattle.row_ledger.proofs.laws.frontier_ascends.Goals as goal

pub returns : goal.returns
returns c = λ site usable h right. frontier-ascends site usable h right.each
