use Rattle.std.proofs.Common.{arith}
use Rattle.row_ledger.proofs.worked.page_without_the_row_is_wrong.Goals as goal

pub returns : goal.returns
returns c right = let shown = right.each.1.0.shown in omega (arith, shown.least)
