use Rattle.std.proofs.Common.{◌<◌, List, length, true, false, arith, refl, subst}
use Rattle.dim_hierarchy.specs.{Dimension.{Dimension, tree}, Row.{concept_at, IsCoordOf}}
use Rattle.dim_hierarchy.proofs.Matching.{IsCoordOf-length}
use Rattle.describing_set.specs.{DescSet.{part_at, covers}, Part.has_ancestor, Sets.Covers}
use Rattle.describing_set.proofs.Covering.{in_each-from, in_each-fails, test_read, means, covers-Covers, IsSetOf-Covers}
use Rattle.describing_set.proofs.set.DescSet.covers.Goals as goal

pub returns-then-not-covers-clause-test : goal.returns-then-not-covers-clause-test
returns-then-not-covers-clause-test c =
    let lt : c.loop-dim.dim < length c.args.h.now = omega (arith, c.loop-dim-test.true, c.dims-dim-end.ensures.value) in
    let here = test_read has_ancestor (tree c.args.h.now c.loop-dim.dim) c.part.result.now (part_at c.args.self.now c.loop-dim.dim) (concept_at c.args.at.now.coord c.loop-dim.dim) (concept_at c.args.at.now.coord c.loop-dim.dim) false c.part.ensures.value refl c.if-not-covers.ensures in
    in_each-fails has_ancestor c.args.h.now c.args.self.now.parts.items c.args.at.now.coord.at 0 c.loop-dim.dim lt here

pub returns-then-not-covers-clause-meaning : goal.returns-then-not-covers-clause-meaning
returns-then-not-covers-clause-meaning c =
    means false (covers c.args.h.now c.args.self.now c.args.at.now.coord) (Covers c.args.h.now c.args.self.now c.args.at.now.coord) (returns-then-not-covers-clause-test c)
    (covers-Covers c.args.h.now c.args.self.now c.args.at.now.coord c.requires.set.set_of.count (subst (λ (h : List Dimension). IsCoordOf h c.args.at.now.coord) c.requires.at c.law.ensures))

pub returns-then-not-covers-clause-members : goal.returns-then-not-covers-clause-members
returns-then-not-covers-clause-members c = λ rows s k. (returns-then-not-covers-clause-meaning c).1 (IsSetOf-Covers c.args.h.now rows c.args.self.now c.args.at.now.coord s k)

pub returns-clause-test : goal.returns-clause-test
returns-clause-test c =
    let all = in_each-from has_ancestor c.args.h.now c.args.self.now.parts.items c.args.at.now.coord.at 0 c.requires.set.set_of.count (IsCoordOf-length c.args.h.now c.args.at.now.coord (subst (λ (h : List Dimension). IsCoordOf h c.args.at.now.coord) c.requires.at c.law.ensures))
    (λ k lt. c.loop-dim.invariant k (omega (arith, lt, c.loop-dim-test.false, c.dims-dim-end.ensures.value))) in
    cc

pub returns-clause-meaning : goal.returns-clause-meaning
returns-clause-meaning c =
    means true (covers c.args.h.now c.args.self.now c.args.at.now.coord) (Covers c.args.h.now c.args.self.now c.args.at.now.coord) (returns-clause-test c)
    (covers-Covers c.args.h.now c.args.self.now c.args.at.now.coord c.requires.set.set_of.count (subst (λ (h : List Dimension). IsCoordOf h c.args.at.now.coord) c.requires.at c.law.ensures))
