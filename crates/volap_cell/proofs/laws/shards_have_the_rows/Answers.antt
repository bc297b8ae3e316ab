use Rattle.volap_cell.proofs.Promised.{rows-law}
use Rattle.volap_cell.proofs.laws.shards_have_the_rows.Goals as goal

pub returns : goal.returns
returns c = rows-law
