use Rattle.seeded_run.proofs.Cursors.Cursors.{cursor-law, first-law, last-law}
use Rattle.seeded_run.proofs.laws.cursors_tell_rests.Goals as goal

pub returns-clause-cursor : goal.returns-clause-cursor
returns-clause-cursor c = cursor-law

pub returns-clause-first : goal.returns-clause-first
returns-clause-first c = first-law

pub returns-clause-last : goal.returns-clause-last
returns-clause-last c = last-law
