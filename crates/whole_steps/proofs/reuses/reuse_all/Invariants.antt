use Rattle.whole_steps.specs.{Reuses.HasReusedSole, Sole.player}
use Rattle.whole_steps.proofs.reuses.reuse_all.Given as goal

abbrev pub invariant-loop : goal.invariant-loop
invariant-loop g l = HasReusedSole l.floor (player l.number l.fn.actor l.fn.seat) (player l.number l.actor l.seat)
