use Rattle.group_answer.proofs.Added.{added-none, added-not, added-under}
use Rattle.group_answer.proofs.found.Found.add_told.Goals as goal

pub returns-in-NoRow-clause-lines : goal.returns-in-NoRow-clause-lines
returns-in-NoRow-clause-lines c = added-none c.args.asked.now c.args.set.now c.args.agg.now c.args.self.now.lines.items c.in-NoRow.ensures.rows

pub returns-in_ok-add-in-Under-clause-lines : goal.returns-in_ok-add-in-Under-clause-lines
returns-in_ok-add-in-Under-clause-lines c = added-under c.args.asked.now c.args.set.now c.args.agg.now c.args.self.now.lines.items c.in-Under.id _ c.in-Under.ensures.rows c.in_ok-add-in-Under.ensures.lines

pub returns-in-Unknown-clause-lines : goal.returns-in-Unknown-clause-lines
returns-in-Unknown-clause-lines c = added-not c.args.asked.now c.args.set.now c.args.agg.now c.args.self.now.lines.items c.in-Unknown.ensures.known
