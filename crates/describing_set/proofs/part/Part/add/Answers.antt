use Rattle.std.proofs.Common.{arith, refl}
use Rattle.dim_hierarchy.specs.Dimension.{tree}
use Rattle.dim_hierarchy.proofs.Ancestors.{up-IsConcept}
use Rattle.describing_set.proofs.{Membership.concept_is_one, Parts.{Adding-start, Adding-lift, Adding-last, add-IsPart, full_below_top}}
use Rattle.describing_set.proofs.part.Part.add.Goals as goal

pub loop-id-init : goal.loop-id-init
loop-id-init c = Adding-start (tree c.args.h.now c.args.dim) c.args.id c.args.self.now c.requires.part

pub returns-then-add-clause-part : goal.returns-then-add-clause-part
returns-then-add-clause-part c =
    let w = (c.requires.hierarchy.each c.args.dim c.requires.dim).tree in
    let e = rw c.up-ancestor.ensures at c.if-add.ensures.added in
    let le = c.loop-id.invariant.level in
    add-IsPart (tree c.args.h.now c.args.dim) w c.loop-id.self _ c.args.id c.loop-id.invariant.part c.requires.concept (omega (arith, le, c.requires.level)) refl e c.add.ensures.few

pub returns-then-add-clause-grown : goal.returns-then-add-clause-grown
returns-then-add-clause-grown c =
    let e = rw c.up-ancestor.ensures at c.if-add.ensures.added in
    Adding-last (tree c.args.h.now c.args.dim) c.args.id c.args.self.now c.loop-id.self _ c.loop-id.invariant refl e c.add.ensures.few

pub lift-requires-clause-below : goal.lift-requires-clause-below
lift-requires-clause-below c =
    let w = (c.requires.hierarchy.each c.args.dim c.requires.dim).tree in
    full_below_top (tree c.args.h.now c.args.dim) w c.loop-id.self c.up-ancestor.result c.loop-id.invariant.part c.if-add.ensures.seventh

pub lift-requires-clause-part : goal.lift-requires-clause-part
lift-requires-clause-part c = rw c.if-add.ensures.full c.loop-id.invariant.part

pub loop-id-smaller : goal.loop-id-smaller
loop-id-smaller c =
    let w = (c.requires.hierarchy.each c.args.dim c.requires.dim).tree in
    let below = full_below_top (tree c.args.h.now c.args.dim) w c.loop-id.self c.up-ancestor.result c.loop-id.invariant.part c.if-add.ensures.seventh in
    omega (arith, c.lift.ensures.level)

pub loop-id-preserved : goal.loop-id-preserved
loop-id-preserved c =
    let w = (c.requires.hierarchy.each c.args.dim c.requires.dim).tree in
    let below = full_below_top (tree c.args.h.now c.args.dim) w c.loop-id.self c.up-ancestor.result c.loop-id.invariant.part c.if-add.ensures.seventh in
    let seventh = rw c.up-ancestor.ensures at c.if-add.ensures.seventh in
    let ids = rw c.if-add.ensures.full at c.lift.ensures.ids in
    Adding-lift (tree c.args.h.now c.args.dim) w c.args.id c.args.self.now c.loop-id.self c.lift.new.self c.loop-id.invariant below seventh c.lift.ensures.level ids

pub add-requires-clause-concept : goal.add-requires-clause-concept
add-requires-clause-concept c =
    let t = tree c.args.h.now c.args.dim in
    let w = (c.requires.hierarchy.each c.args.dim c.requires.dim).tree in
    rw c.up-ancestor.ensures (concept_is_one t w _ (up-IsConcept t w c.args.id c.loop-id.self.level c.requires.concept))
