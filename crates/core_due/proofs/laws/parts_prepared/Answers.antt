use Rattle.core_due.proofs.{PartsReady.{down-prepared, in-prepared, is-asked, is-free, is-prepared}, StepsPrepared.spares-prepared}
use Rattle.core_due.proofs.laws.parts_prepared.Goals as goal

pub returns : goal.returns
returns c = record {
  asked = λ s w n e due inv at. is-asked s w n inv e at.0 due at.1;
  prepared = λ s w n e due inv at. is-prepared s w n inv e at.0 due at.1;
  free = λ s w n e step inv at meets_it. is-free s w n inv e at.0 step at.1 meets_it;
  rows = λ s w n inv. (down-prepared s w n inv, in-prepared s w n inv);
  spares = λ s w n inv has. spares-prepared s w inv.ghost_of inv.holds n has.no_errand has.no_job has.some;
}
