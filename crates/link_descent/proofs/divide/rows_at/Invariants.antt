use Rattle.std.proofs.Common.{◌≡◌, length, take}
use Rattle.link_descent.specs.Divide.{items_at}
use Rattle.link_descent.proofs.divide.rows_at.Given as goal

abbrev pub invariant-loop-place : goal.invariant-loop-place
invariant-loop-place l = (l.some.items ≡ items_at l.rows.items (take l.place-index l.places)) × (length l.some.items ≡ l.place-index)
