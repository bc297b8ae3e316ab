use Rattle.core_laws.proofs.SameRows.{finish-law}
use Rattle.core_laws.proofs.laws.finished_splits_and_moves_leave_the_rows.Goals as goal

pub returns : goal.returns
returns c = finish-law
