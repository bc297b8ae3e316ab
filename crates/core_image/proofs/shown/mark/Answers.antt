use Rattle.std.proofs.Common.{is_some, ap, sym, ◌∙◌}
use Rattle.volap_cell.specs.{Commands.once_shown, declared.command.Work.Work}
use Rattle.core_image.proofs.EachStep.NotesShown.{page-marked}
use Rattle.core_image.proofs.shown.mark.Goals as goal

pub returns-in-Page : goal.returns-in-Page
returns-in-Page c = ap once_shown c.in-Page.is ∙ page-marked c.in-Page.subject c.in-Page.there c.in-Page.shown (ap (λ (w : Work). is_some (once_shown w)) (sym c.in-Page.is) ∙ c.requires)
