use Rattle.seeded_run.specs.Machine.{HoldsNow}
use Rattle.std.proofs.Common.{arith}
use Rattle.seeded_run.proofs.machine.RunningMachine.actors.Goals as goal

pub overflow_cast-result : goal.overflow_cast-result
unfolding HoldsNow
overflow_cast-result c = omega (arith, c.requires.kept.few)
