use Rattle.std.proofs.Common.{◌≡◌, length, take, drop}
use Rattle.link_descent.proofs.divide.copy_rows.Given as goal

abbrev pub invariant-loop-number : goal.invariant-loop-number
invariant-loop-number l = (l.copies.items ≡ take l.number (drop l.first l.rows.items)) × (length l.copies.items ≡ l.number)
