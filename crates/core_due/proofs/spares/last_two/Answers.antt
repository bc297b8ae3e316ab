use Rattle.std.proofs.Common.{◌∙◌, ap, sym}
use Rattle.core_due.specs.Spares.{last_spare, spare_before}
use Rattle.core_due.proofs.LastItems.{before-last, spare-last}
use Rattle.core_due.proofs.spares.last_two.Goals as goal

pub returns-clause-last : goal.returns-clause-last
returns-clause-last c = sym (ap last_spare c.next-last.ensures.taken ∙ spare-last c.next-last.new.self.spares c.next-last.result)

pub returns-clause-before : goal.returns-clause-before
returns-clause-before c = c.last_spare-before.ensures ∙ sym (ap spare_before c.next-last.ensures.taken ∙ before-last c.next-last.new.self.spares c.next-last.result)
