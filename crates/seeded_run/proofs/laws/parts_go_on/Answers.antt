use Rattle.seeded_run.proofs.Due.Dues.{free-law, at-part-law}
use Rattle.seeded_run.proofs.laws.parts_go_on.Goals as goal

pub returns-clause-part : goal.returns-clause-part
returns-clause-part c = at-part-law

pub returns-clause-free : goal.returns-clause-free
returns-clause-free c = free-law
