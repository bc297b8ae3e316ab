use Rattle.core_due.proofs.{InStates.still-state, PartsReady.ends-ready}
use Rattle.core_due.proofs.laws.parts_end.Goals as goal

pub returns : goal.returns
returns c = λ h with state now s w n e due of at fails same. (let still = still-state h with state now s w of same in (still, ends-ready h with now s w still n e at.0 due at.1 fails))
