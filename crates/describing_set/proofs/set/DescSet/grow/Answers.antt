use Rattle.std.proofs.Common.{◌<◌, ◌≤◌, length, arith, sym, subst}
use Rattle.dim_hierarchy.specs.{Concept.level_of, Dimension.tree, Row.concept_at}
use Rattle.describing_set.specs.{Parts.IsPart, declared.part.Part.Part}
use Rattle.describing_set.proofs.Sets.{part_at-IsPart, part_at-above, IsDescSetOf-grown, Growing-next, grown_parts}
use Rattle.describing_set.proofs.set.DescSet.grow.Goals as goal

pub add-requires-clause-within : goal.add-requires-clause-within
add-requires-clause-within c = omega (arith, c.loop-dim-test.true, c.dims-dim-end.ensures.value, c.loop-dim.invariant.count, c.requires.set.set_of.count)

pub add-requires-clause-part : goal.add-requires-clause-part
add-requires-clause-part c =
    let lt : c.loop-dim.dim < length c.args.h.now = omega (arith, c.loop-dim-test.true, c.dims-dim-end.ensures.value) in
    subst (IsPart (tree c.args.h.now c.loop-dim.dim)) (sym (c.loop-dim.invariant.rest c.loop-dim.dim (omega arith))) (part_at-IsPart c.args.h.now c.args.self.now c.loop-dim.dim lt c.requires.set)

pub add-requires-clause-level : goal.add-requires-clause-level
add-requires-clause-level c =
    let lt : c.loop-dim.dim < length c.args.h.now = omega (arith, c.loop-dim-test.true, c.dims-dim-end.ensures.value) in
    rw c.concept.ensures
    (subst (λ (p : Part). p.level ≤ level_of (concept_at c.args.at.now c.loop-dim.dim)) (sym (c.loop-dim.invariant.rest c.loop-dim.dim (omega arith))) (part_at-above c.args.h.now c.args.self.now c.args.at.now c.loop-dim.dim lt c.requires.set c.requires.at))

pub loop-dim-preserved : goal.loop-dim-preserved
loop-dim-preserved c =
    Growing-next c.args.h.now c.args.at.now c.args.self.now.parts.items c.loop-dim.self.parts.items c.add.new.self.items c.loop-dim.dim c.concept.result c.concept.ensures
    (omega (arith, c.loop-dim-test.true, c.dims-dim-end.ensures.value, c.loop-dim.invariant.count, c.requires.set.set_of.count)) c.loop-dim.invariant c.add.ensures

pub returns-clause-grown : goal.returns-clause-grown
returns-clause-grown c =
    let le : length c.args.h.now ≤ c.loop-dim.dim = omega (arith, c.loop-dim-test.false, c.dims-dim-end.ensures.value) in
    grown_parts c.args.h.now c.args.at.now c.args.self.now c.loop-dim.self c.loop-dim.dim c.loop-dim.invariant le

pub returns-clause-valid : goal.returns-clause-valid
returns-clause-valid c =
    let le : length c.args.h.now ≤ c.loop-dim.dim = omega (arith, c.loop-dim-test.false, c.dims-dim-end.ensures.value) in
    IsDescSetOf-grown c.args.h.now c.args.at.now c.args.self.now c.loop-dim.self c.requires.set c.requires.at
    (grown_parts c.args.h.now c.args.at.now c.args.self.now c.loop-dim.self c.loop-dim.dim c.loop-dim.invariant le)
