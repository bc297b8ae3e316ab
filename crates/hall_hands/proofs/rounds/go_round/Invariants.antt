use Rattle.std.proofs.Common.{◌≡◌, true}
use Rattle.hall_hands.specs.Rounds.{HasGoneOn, NobodyBelow}
use Rattle.hall_hands.proofs.rounds.go_round.Given as goal

abbrev pub invariant-loop-server : goal.invariant-loop-server
invariant-loop-server g l = HasGoneOn l.floor l.fn.player l.player × (l.nobody ≡ true → NobodyBelow l.floor l.server l.fn.player l.player)
