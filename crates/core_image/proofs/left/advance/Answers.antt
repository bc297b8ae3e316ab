use Rattle.std.proofs.Common.{sym, ◌∙◌}
use Rattle.core_image.proofs.left.advance.Goals as goal

pub returns-in-Some : goal.returns-in-Some
returns-in-Some c = λ of balance is. c.onward.ensures of balance (sym c.in-Some.is ∙ is)
