use Rattle.std.proofs.Common.{◌∙◌, ap, subst, sym}
use Rattle.dim_hierarchy.specs.{Dimension.Dimension, Tree.{IsConcept, is_under}}
use Rattle.dim_hierarchy.proofs.Ancestors.{is_under-IsUnder}
use Rattle.dim_hierarchy.proofs.hierarchy.Hierarchy.is_under.Goals as goal

pub returns-clause-meaning : goal.returns-clause-meaning
returns-clause-meaning c =
    let e = c.is_under.ensures ∙ ap (λ (d : Dimension). is_under d.tree c.args.id c.args.top) c.table.ensures.value in
    let concept = subst (λ (d : Dimension). IsConcept d.tree c.args.id) (sym c.table.ensures.value) c.requires.concept in
    rw (e, ← c.table.ensures.value) (is_under-IsUnder c.table.result.now.tree c.table.ensures.valid.tree c.args.id c.args.top concept)
