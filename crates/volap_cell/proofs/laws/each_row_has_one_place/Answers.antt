use Rattle.volap_cell.proofs.Promised.{place-law}
use Rattle.volap_cell.proofs.laws.each_row_has_one_place.Goals as goal

pub returns : goal.returns
returns c = place-law
