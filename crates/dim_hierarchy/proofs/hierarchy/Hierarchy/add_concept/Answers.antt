use Rattle.std.proofs.Common.{◌≡◌, ◌∙◌, ◌+◌, ◌<◌, ◌^◌, List, length, set, ap, subst, sym}
use Rattle.dim_hierarchy.specs.{Concept.level_of, Counted.IsCounted, Dimension.{Dimension, dimension, with_concept}, Tree.parents_at}
use Rattle.dim_hierarchy.proofs.{Dimensions.dimension-read, Faults.{concept_fault-None, CanAddConcept-CanGrow}, Growth.IsCounted-with_concept}
use Rattle.dim_hierarchy.proofs.hierarchy.Hierarchy.add_concept.Goals as goal

pub add-requires-clause-room : goal.add-requires-clause-room
add-requires-clause-room c =
    let h = c.args.self.now in
    let p = c.unwrap_or-parent.result in
    let n = c.self.inside.concepts in
    let counted : IsCounted h n = subst (λ (l : List Dimension). IsCounted l n) c.self.view_is c.self.invariant in
    let few = subst (λ k. k < 2 ^ 28) counted.count c.if-self-ge-MOST_CONCEPTS.false in
    let can = concept_fault-None h c.args.dim c.args.name.now p (sym c.concept_fault.ensures ∙ c.in_default.is) in
    let read = dimension-read h c.self.inside.dims.items c.from.result c.args.dim c.index_mut.result.now c.self.view_is c.from.ensures can.within c.index_mut.ensures.value in
    subst (λ (d : Dimension). length (parents_at d.tree (level_of p + 1)) < 2 ^ 28) (sym read) (CanAddConcept-CanGrow h c.args.dim c.args.name.now p can few).room

pub invariant_of-self : goal.invariant_of-self
invariant_of-self c =
    let h = c.args.self.now in
    let dim = c.args.dim in
    let p = c.unwrap_or-parent.result in
    let n = c.self.inside.concepts in
    let counted : IsCounted h n = subst (λ (l : List Dimension). IsCounted l n) c.self.view_is c.self.invariant in
    let few = subst (λ k. k < 2 ^ 28) counted.count c.if-self-ge-MOST_CONCEPTS.false in
    let can = concept_fault-None h dim c.args.name.now p (sym c.concept_fault.ensures ∙ c.in_default.is) in
    let read = dimension-read h c.self.inside.dims.items c.from.result dim c.index_mut.result.now c.self.view_is c.from.ensures can.within c.index_mut.ensures.value in
    let grown = IsCounted-with_concept h n dim c.args.name.now p counted few can.within (CanAddConcept-CanGrow h dim c.args.name.now p can few) in
    let new = with_concept (dimension h dim) c.args.name.now p in
    let e : set c.self.inside.dims.items c.from.result c.add.new.self ≡ set h dim new =
    ap (λ (d : Dimension). set c.self.inside.dims.items c.from.result d) (c.in-Ok.ensures.ok ∙ ap (λ (d : Dimension). with_concept d c.args.name.now p) read)
    ∙ ap (λ (l : List Dimension). set l c.from.result new) c.self.view_is
    ∙ ap (λ k. set h k new) c.from.ensures in
    subst (λ (l : List Dimension). IsCounted l (n + 1)) (sym e) grown
