use Rattle.volap_cell.proofs.Promised.{query-law}
use Rattle.volap_cell.proofs.laws.queries_count_once.Goals as goal

pub returns : goal.returns
returns c = query-law
