use Rattle.std.proofs.Common.{◌∙◌, ap, sym}
use Rattle.core_due.specs.Spares.{last_spare}
use Rattle.core_due.proofs.LastItems.{spare-last}
use Rattle.core_due.proofs.spares.last_spare.Goals as goal

pub returns-in-Some : goal.returns-in-Some
returns-in-Some c = sym (ap last_spare c.in-Some.ensures.some.1 ∙ spare-last c.in-Some.ensures.some.0 c.in-Some.spare)
