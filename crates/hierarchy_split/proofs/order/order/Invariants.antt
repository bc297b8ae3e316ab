use Rattle.hierarchy_split.proofs.Orders.{Ordering}
use Rattle.hierarchy_split.proofs.order.order.Given as goal

abbrev pub invariant-loop-place : goal.invariant-loop-place
invariant-loop-place l = Ordering l.leasts l.order.items l.place
