use Rattle.seeded_run.specs.Machine.{HoldsNow}
use Rattle.seeded_run.proofs.IdleHands.{hands-there}
use Rattle.seeded_run.proofs.machine.RunningMachine.survey.Goals as goal

pub of-requires : goal.of-requires
unfolding HoldsNow
of-requires c = record { free = hands-there c.args.self.now c.requires }
