use Rattle.seeded_run.specs.Machine.{HoldsNow}
use Rattle.seeded_run.proofs.Phases.ByHand.{later-turned}
use Rattle.seeded_run.proofs.machine.Running.make_postpone.Goals as goal

pub returns-clause-later : goal.returns-clause-later
returns-clause-later c = later-turned c.args.self.now c.postpone.new.self c.look_first.new.self c.args.actor c.postpone.ensures.turned c.look_first.ensures.same

pub look_first-requires-clause-hands : goal.look_first-requires-clause-hands
unfolding HoldsNow
look_first-requires-clause-hands c = c.postpone.ensures.turned.hands c.requires.holds.hands
