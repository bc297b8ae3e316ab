use Rattle.hall_hands.specs.Rounds.{HasGoneOn}
use Rattle.hall_hands.proofs.rounds.serve.Given as goal

abbrev pub invariant-loop : goal.invariant-loop
invariant-loop g l = HasGoneOn l.hall l.fn.player l.player
