use Rattle.volap_cell.proofs.FirstState.Holds.{opening-holds, opening-inv}
use Rattle.volap_cell.proofs.laws.opening_holds.Goals as goal

pub returns : goal.returns
returns c = λ s w set o. (opening-holds s w set o, opening-inv s w set o)
