use Rattle.std.proofs.Common.{subst}
use Rattle.row_ledger.specs.Right.{IsRight}
use Rattle.whole_steps.specs.volap_cell.specs.Setting.{site_in}
use Rattle.actor_run.specs.Passes.{PassesValue}
use Rattle.actor_run.proofs.passes.Passes.right.Goals as goal

pub returns : goal.returns
returns c = subst (λ (p : PassesValue). IsRight (site_in p.setting) p.seen) c.self.view_is c.self.invariant.0.right
