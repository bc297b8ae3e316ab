use Rattle.hierarchy_split.proofs.Orders.{Placing}
use Rattle.hierarchy_split.proofs.order.cut_place.Given as goal

abbrev pub invariant-loop-k : goal.invariant-loop-k
invariant-loop-k l = Placing l.leasts l.order l.k l.best
