use Rattle.volap_turns.proofs.Filled.{opening-whole}
use Rattle.volap_turns.proofs.laws.opening_is_whole.Goals as goal

pub returns : goal.returns
returns c = opening-whole
