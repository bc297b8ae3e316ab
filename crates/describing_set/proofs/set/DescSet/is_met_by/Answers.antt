use Rattle.std.proofs.Common.{◌<◌, length, arith, false, sym}
use Rattle.dim_hierarchy.specs.{Dimension.tree, Filter.pick_at, declared.filter.Pick.TheVariants.All}
use Rattle.describing_set.specs.{DescSet.part_at, Filter.is_part_met}
use Rattle.describing_set.proofs.Covering.{in_each-from, in_each-fails, test_read}
use Rattle.describing_set.proofs.set.DescSet.is_met_by.Goals as goal

pub returns-then-not-is_met_by : goal.returns-then-not-is_met_by
returns-then-not-is_met_by c =
    let h = c.args.h.now in
    let dim = c.loop-dim.dim in
    let lt : dim < length h = omega (arith, c.loop-dim-test.true, c.dims-dim-end.ensures.value) in
    let here = test_read is_part_met (tree h dim) c.part.result.now (part_at c.args.self.now dim) c.pick.result.now (pick_at c.args.filter.now dim) false c.part.ensures.value c.pick.ensures c.if-not-is_met_by.ensures in
    in_each-fails is_part_met h c.args.self.now.parts.items c.args.filter.now All dim lt here

pub returns : goal.returns
returns c =
    sym (in_each-from is_part_met c.args.h.now c.args.self.now.parts.items c.args.filter.now All c.requires.set.set_of.count (let n = c.requires.filter.count in omega (arith, n))
    (λ k lt. c.loop-dim.invariant k (omega (arith, lt, c.loop-dim-test.false, c.dims-dim-end.ensures.value))))
