use Rattle.row_ledger.proofs.Growth.{IsRight-kept}
use Rattle.row_ledger.proofs.laws.kept_is_right.Goals as goal

pub returns : goal.returns
returns c = IsRight-kept
