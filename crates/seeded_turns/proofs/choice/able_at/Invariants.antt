use Rattle.std.proofs.Common.{◌≡◌, ◌+◌, length}
use Rattle.seeded_turns.specs.Drawn.{able}
use Rattle.seeded_turns.proofs.choice.able_at.Given as goal

abbrev pub invariant-loop-actor : goal.invariant-loop-actor
invariant-loop-actor g l = l.left + length (able (g.M.Machine.can l.machine) l.actor) ≡ l.place
