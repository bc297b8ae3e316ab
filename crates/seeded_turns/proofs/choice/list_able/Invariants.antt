use Rattle.seeded_turns.proofs.Able.{AreSeen}
use Rattle.seeded_turns.proofs.choice.list_able.Given as goal

abbrev pub invariant-loop-actor : goal.invariant-loop-actor
invariant-loop-actor g l = AreSeen (g.M.Machine.can l.machine) l.actor l.seen l.listed
