use Rattle.core_due.proofs.{InStates.{due-seen, tree-may}, PartsReady.{can-descend, down-ready, in-ready, is-ready}, StepsPrepared.spares-prepared}
use Rattle.core_steps.specs.declared.trees.TreeStep.TheVariants.{GiveBack}
use Rattle.core_due.proofs.laws.parts_ready.Goals as goal

pub returns : goal.returns
returns c = record {
  seen = due-seen;
  ready = λ h with state s w n e due of at. is-ready h with state s w of n e at.0 due at.1;
  rows = λ h with state s w n of. ((λ block d. (can-descend h with state s w of n block d, down-ready h with state s w of n block d)), in-ready h with state s w of n);
  spares = λ h with state s w n of has. tree-may h with state s w of n GiveBack (spares-prepared s w of.inv.ghost_of of.inv.holds n has.no_errand has.no_job has.some) tt;
}
