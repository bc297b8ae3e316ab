use Rattle.std.proofs.lemmas.Bool.{OnTrue_from}
use Rattle.dim_hierarchy.specs.Dimension.{tree}
use Rattle.dim_hierarchy.proofs.Ancestors.{up-IsConcept}
use Rattle.describing_set.specs.Parts.{GrowsPart}
use Rattle.describing_set.proofs.{Membership.concept_is_one, Parts.GrowsPart-kept, Sorted.In-from_Contains}
use Rattle.describing_set.proofs.part.Part.has_ancestor.Goals as goal

pub has-requires : goal.has-requires
has-requires c =
    let t = tree c.args.h.now c.args.dim in
    let w = (c.requires.hierarchy.each c.args.dim c.requires.dim).tree in
    rw c.up-ancestor.ensures (concept_is_one t w _ (up-IsConcept t w c.args.id c.args.self.now.level c.requires.concept))

pub returns-clause-kept : goal.returns-clause-kept
returns-clause-kept c =
    let t = tree c.args.h.now c.args.dim in
    let p = c.args.self.now in
    let there = rw c.up-ancestor.ensures at c.has.ensures.meaning in
    OnTrue_from c.has.result (GrowsPart t c.args.id p p) (λ yes. GrowsPart-kept t c.args.id p c.requires.part (In-from_Contains p.ids.items _ (there.0 yes)))
