use Rattle.seeded_run.specs.Machine.{most_steps}
use Rattle.seeded_run.proofs.phase.run_turns.Given as goal

abbrev pub ghosts-run : goal.ghosts-run
ghosts-run a = record { name = a.blank.name; parts = a.blank.parts }

abbrev pub ghost-run : goal.ghost-run
ghost-run a = most_steps a.machine.now
