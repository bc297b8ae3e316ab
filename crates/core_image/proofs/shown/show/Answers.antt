use Rattle.std.proofs.Common.{◌≡◌, ℕ, Option, ap, sym, ◌∙◌}
use Rattle.std.specs.Option.{option_map_or}
use Rattle.volap_cell.specs.{Commands.once_shown, ImageKinds.doing, declared.command.Command.Command}
use Rattle.core_image.proofs.shown.show.Goals as goal

pub mark-requires : goal.mark-requires
mark-requires c = c.requires c.in-Some.command.of c.in-Some.command.work c.in-Some.is

pub returns-in-Some : goal.returns-in-Some
returns-in-Some c = λ p work is.
    let same : c.in-Some.command.work ≡ work = ap (λ (o : Option Command). option_map_or (λ (x : Command). x.work) o work) (sym c.in-Some.is ∙ is) in
    let number : c.in-Some.command.of ≡ p = ap (λ (o : Option Command). option_map_or (λ (x : Command). x.of) o p) (sym c.in-Some.is ∙ is) in
    (c.mark.new.work, ap once_shown (sym same) ∙ c.mark.ensures, ap (λ (q : ℕ). doing q c.mark.new.work) number)
