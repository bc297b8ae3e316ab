use Rattle.std.proofs.Common.{subst, sym}
use Rattle.dim_hierarchy.specs.{Dimension.Dimension, Tree.IsConcept}
use Rattle.dim_hierarchy.proofs.Dimensions.{named-some}
use Rattle.dim_hierarchy.proofs.hierarchy.Hierarchy.name_of.Goals as goal

pub returns-clause-some : goal.returns-clause-some
returns-clause-some c = λ concept below.
    let here = subst (λ (d : Dimension). IsConcept d.tree c.args.id) (sym c.table.ensures.value) concept in
    named-some c.table.result.now c.table.ensures.valid c.args.id here below c.name_of.result c.name_of.ensures.none
