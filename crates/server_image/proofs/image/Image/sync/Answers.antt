use Rattle.std.proofs.Common.{◌∙◌, subst, sym, ap}
use Rattle.server_image.specs.Image.{ImageValue, AreGrowths}
use Rattle.server_image.proofs.image.Image.sync.Goals as goal

pub pull-requires-clause-growths : goal.pull-requires-clause-growths
pull-requires-clause-growths c =
    subst (AreGrowths c.args.h.now) (ap (λ (v : ImageValue). v.growths) (sym c.self.view_is) ∙ sym c.deref.ensures.value) c.requires.growths
