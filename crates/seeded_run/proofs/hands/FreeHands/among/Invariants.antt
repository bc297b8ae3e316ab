use Rattle.seeded_run.specs.Hands.{AreFreeHands}
use Rattle.seeded_run.proofs.hands.FreeHands.among.Given as goal

abbrev pub invariant-loop-number : goal.invariant-loop-number
invariant-loop-number l = AreFreeHands l.actors l.hands
