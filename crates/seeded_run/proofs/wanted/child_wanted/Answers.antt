use Rattle.std.proofs.Common.{ap}
use Rattle.core_pages.specs.volap_cell.specs.Values.{task_of}
use Rattle.seeded_run.proofs.wanted.child_wanted.Goals as goal

pub child_at-requires-clause-body : goal.child_at-requires-clause-body
child_at-requires-clause-body c = c.requires.fits.0

pub child_at-requires-clause-row : goal.child_at-requires-clause-row
child_at-requires-clause-row c = c.requires.fits.1 c.in-Row.going (ap task_of c.in-Row.is)
