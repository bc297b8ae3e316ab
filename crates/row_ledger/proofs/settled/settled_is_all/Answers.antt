use Rattle.row_ledger.proofs.SettledAnswer.{settled-is_all}
use Rattle.row_ledger.proofs.settled.settled_is_all.Goals as goal

pub returns : goal.returns
returns c = settled-is_all
