use Rattle.seeded_run.specs.Machine.{HoldsNow, LeavesAtMost}
use Rattle.seeded_run.proofs.Begun.{less-then, turned-then}
use Rattle.seeded_run.proofs.machine.RunningMachine.step.Goals as goal

pub returns-clause-step : goal.returns-clause-step
unfolding HoldsNow
returns-clause-step c = turned-then c.args.self.now c.take_turn.new.self c.look_first.new.self c.args.actor c.in_default.ensures.turned c.look_first.ensures.same

pub returns-clause-left : goal.returns-clause-left
unfolding HoldsNow LeavesAtMost
returns-clause-left c = less-then c.args.self.now c.take_turn.new.self c.look_first.new.self c.args.actor c.in_default.ensures.turned c.look_first.ensures.same

pub look_first-requires-clause-hands : goal.look_first-requires-clause-hands
unfolding HoldsNow
look_first-requires-clause-hands c = c.in_default.ensures.turned.hands c.requires.holds.hands
