use Rattle.whole_steps.proofs.Turned.{looking-first}
use Rattle.whole_steps.proofs.looks.Looks.new.Goals as goal

pub invariant_of-result : goal.invariant_of-result
invariant_of-result g c = looking-first c.args.table.now g.B.Start.seat c.args.seat c.requires.start c.requires.everyone c.requires.knows
