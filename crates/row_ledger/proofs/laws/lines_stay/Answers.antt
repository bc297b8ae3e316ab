use Rattle.row_ledger.proofs.Descent.{comes_from-older}
use Rattle.row_ledger.proofs.laws.lines_stay.Goals as goal

pub returns : goal.returns
returns c = λ site usable past e x y right made. comes_from-older site usable past e x y right.each.0 made
