use Rattle.row_ledger.proofs.Settling.{must-settled}
use Rattle.row_ledger.proofs.settled.settle_tells_all.Goals as goal

pub returns : goal.returns
returns c = must-settled
