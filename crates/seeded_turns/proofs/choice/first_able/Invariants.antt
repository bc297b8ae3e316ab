use Rattle.std.proofs.Common.{◌≡◌, []}
use Rattle.seeded_turns.specs.Drawn.{able}
use Rattle.seeded_turns.proofs.choice.first_able.Given as goal

abbrev pub invariant-loop-actor : goal.invariant-loop-actor
invariant-loop-actor g l = able (g.M.Machine.can l.machine) l.actor ≡ []
