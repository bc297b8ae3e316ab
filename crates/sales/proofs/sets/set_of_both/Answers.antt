use Rattle.std.proofs.{Common.{[], ◌∷◌}, lemmas.List.Elements.{All-nil, All-cons}}
use Rattle.dim_hierarchy.specs.Row.{IsCoordOf}
use Rattle.sales.proofs.sets.set_of_both.Goals as goal

pub returns : goal.returns
returns c =
    let at = IsCoordOf c.args.h.now in
    c.grow.ensures.grown.grown (c.args.one.now ∷ []) (All-cons at c.args.one.now [] c.requires.one (All-nil at)) c.of_coord-set.ensures.set_of
