use Rattle.hand_steps.proofs.Served.{IsAtPartSince}
use Rattle.hand_steps.proofs.serves.do_part.Given as goal

abbrev pub invariant-loop : goal.invariant-loop
invariant-loop g l = IsAtPartSince l.floor l.initial.player l.player
