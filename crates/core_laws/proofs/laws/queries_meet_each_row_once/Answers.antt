use Rattle.core_laws.proofs.Meetings.{meet-law}
use Rattle.core_laws.proofs.laws.queries_meet_each_row_once.Goals as goal

pub returns : goal.returns
returns c = meet-law
