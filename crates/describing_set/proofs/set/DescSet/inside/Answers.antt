use Rattle.std.proofs.Common.{◌<◌, length, arith, true, false, refl, sym}
use Rattle.dim_hierarchy.specs.{Dimension.tree, Filter.pick_at, declared.filter.Pick.TheVariants.All}
use Rattle.describing_set.specs.{DescSet.part_at, Filter.{IsInside, is_inside, is_part_inside}}
use Rattle.describing_set.proofs.{Covering.{in_each-from, in_each-fails, means, test_read}, Filters.{inside_matches, is_inside-IsInside}}
use Rattle.describing_set.proofs.set.DescSet.inside.Goals as goal

pub returns-then-not-is_inside_of-clause-test : goal.returns-then-not-is_inside_of-clause-test
returns-then-not-is_inside_of-clause-test c =
    let h = c.args.h.now in
    let dim = c.loop-dim.dim in
    let lt : dim < length h = omega (arith, c.loop-dim-test.true, c.dims-dim-end.ensures.value) in
    let here = test_read is_part_inside (tree h dim) c.part.result.now (part_at c.args.self.now dim) c.pick.result.now (pick_at c.args.filter.now dim) false c.part.ensures.value c.pick.ensures c.if-not-is_inside_of.ensures in
    in_each-fails is_part_inside h c.args.self.now.parts.items c.args.filter.now All dim lt here

pub returns-clause-test : goal.returns-clause-test
returns-clause-test c =
    sym (in_each-from is_part_inside c.args.h.now c.args.self.now.parts.items c.args.filter.now All c.requires.set.set_of.count (let n = c.requires.filter.count in omega (arith, n))
    (λ k lt. c.loop-dim.invariant k (omega (arith, lt, c.loop-dim-test.false, c.dims-dim-end.ensures.value))))

pub returns-then-not-is_inside_of-clause-meaning : goal.returns-then-not-is_inside_of-clause-meaning
returns-then-not-is_inside_of-clause-meaning c =
    let h = c.args.h.now in
    let set = c.args.self.now in
    let filter = c.args.filter.now in
    means false (is_inside h set filter) (IsInside h set filter) (returns-then-not-is_inside_of-clause-test c) (is_inside-IsInside h set filter c.requires.set c.requires.filter)

pub returns-clause-meaning : goal.returns-clause-meaning
returns-clause-meaning c =
    let h = c.args.h.now in
    let set = c.args.self.now in
    let filter = c.args.filter.now in
    means true (is_inside h set filter) (IsInside h set filter) (returns-clause-test c) (is_inside-IsInside h set filter c.requires.set c.requires.filter)

pub returns-clause-all_match : goal.returns-clause-all_match
returns-clause-all_match c = λ at covers. inside_matches c.args.h.now c.args.self.now c.args.filter.now at ((returns-clause-meaning c).0 refl) covers
