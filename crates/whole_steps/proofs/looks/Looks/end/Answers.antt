use Rattle.whole_steps.proofs.Turned.{turned-on}
use Rattle.whole_steps.proofs.looks.Looks.end.Goals as goal

pub returns-clause-turned : goal.returns-clause-turned
returns-clause-turned g c = turned-on g.B.Start.seat c.self.inside.seat c.give_turns.new.seat c.self.invariant.turned c.give_turns.ensures.turned
