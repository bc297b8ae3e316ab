use Rattle.std.proofs.Common.{◌∙◌, ap, sym}
use Rattle.core_due.specs.Wants.{last_noted}
use Rattle.core_due.proofs.LastItems.{noted-at}
use Rattle.core_due.proofs.parts.last_noted.Goals as goal

pub returns-in-Some : goal.returns-in-Some
returns-in-Some c = sym (ap last_noted c.in-Some.ensures.1 ∙ noted-at c.in-Some.ensures.0 c.in-Some.item)
