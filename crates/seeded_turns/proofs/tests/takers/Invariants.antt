use Rattle.std.proofs.Common.{sum_by}
use Rattle.seeded_turns.proofs.tests.takers.Given as goal

abbrev pub ghosts-run : goal.ghosts-run
ghosts-run a = record { name = a.blank.name; parts = a.blank.parts }

abbrev pub ghost-run : goal.ghost-run
ghost-run a = sum_by (λ x. x) a.machine.now.piles.items
