use Rattle.whole_steps.specs.{Settles.HasPulledAll, Sole.player}
use Rattle.whole_steps.proofs.settles.pull_all.Given as goal

abbrev pub invariant-loop-at : goal.invariant-loop-at
invariant-loop-at g l = HasPulledAll l.floor l.at (player l.number l.fn.actor l.fn.seat) (player l.number l.actor l.seat)
