use Rattle.std.proofs.Common.{◌≡◌, ◌<◌, ◌≤◌, length, true, false, refl, arith}
use Rattle.dim_hierarchy.specs.{Dimension.tree, Filter.pick_at, declared.filter.Pick.TheVariants.All}
use Rattle.describing_set.specs.{DescSet.part_at, Filter.{is_inside, is_part_inside}, declared.bearing.Bearing.TheVariants.{Inside, Overlaps, Apart}}
use Rattle.describing_set.proofs.{Covering.{in_each-from, test_read}, Filters.{inside_matches, matched_overlaps, left_bearing, bearing-IsBearing}}
use Rattle.describing_set.proofs.set.DescSet.bearing.Goals as goal

pub returns-then-is_met_from-clause-test : goal.returns-then-is_met_from-clause-test
returns-then-is_met_from-clause-test c =
    let lt : c.loop-dim.dim < length c.args.wanted.now.hierarchy = omega (arith, c.loop-dim-test.true, c.dims-dim-end.ensures.value) in
    let here = test_read is_part_inside (tree c.args.wanted.now.hierarchy c.loop-dim.dim) c.part_for.result.now (part_at c.args.self.now c.loop-dim.dim) (pick_at c.args.wanted.now.picks c.loop-dim.dim) (pick_at c.args.wanted.now.picks c.loop-dim.dim) false c.part_for.ensures.value refl c.if-not-is_inside.ensures in
    left_bearing c.args.wanted.now.hierarchy c.args.self.now c.args.wanted.now.picks c.loop-dim.dim true c.requires c.dims-dim-end.ensures.valid lt c.loop-dim.invariant here c.if-is_met_from.ensures

pub returns-then-is_met_from-clause-meaning : goal.returns-then-is_met_from-clause-meaning
returns-then-is_met_from-clause-meaning c =
    bearing-IsBearing c.args.wanted.now.hierarchy c.args.self.now c.args.wanted.now.picks Overlaps c.requires c.dims-dim-end.ensures.valid (returns-then-is_met_from-clause-test c)

pub returns-else-is_met_from-clause-test : goal.returns-else-is_met_from-clause-test
returns-else-is_met_from-clause-test c =
    let lt : c.loop-dim.dim < length c.args.wanted.now.hierarchy = omega (arith, c.loop-dim-test.true, c.dims-dim-end.ensures.value) in
    let here = test_read is_part_inside (tree c.args.wanted.now.hierarchy c.loop-dim.dim) c.part_for.result.now (part_at c.args.self.now c.loop-dim.dim) (pick_at c.args.wanted.now.picks c.loop-dim.dim) (pick_at c.args.wanted.now.picks c.loop-dim.dim) false c.part_for.ensures.value refl c.if-not-is_inside.ensures in
    left_bearing c.args.wanted.now.hierarchy c.args.self.now c.args.wanted.now.picks c.loop-dim.dim false c.requires c.dims-dim-end.ensures.valid lt c.loop-dim.invariant here c.if-is_met_from.ensures

pub returns-else-is_met_from-clause-meaning : goal.returns-else-is_met_from-clause-meaning
returns-else-is_met_from-clause-meaning c =
    bearing-IsBearing c.args.wanted.now.hierarchy c.args.self.now c.args.wanted.now.picks Apart c.requires c.dims-dim-end.ensures.valid (returns-else-is_met_from-clause-test c)

pub returns-else-is_met_from-clause-none_match : goal.returns-else-is_met_from-clause-none_match
returns-else-is_met_from-clause-none_match c = λ _ at v m.
    let some : 0 < length c.args.wanted.now.hierarchy = omega (arith, c.loop-dim-test.true, c.dims-dim-end.ensures.value) in
    (returns-else-is_met_from-clause-meaning c).1 (matched_overlaps c.args.wanted.now.hierarchy c.args.self.now c.args.wanted.now.picks at some v m)

pub returns-clause-test : goal.returns-clause-test
returns-clause-test c =
    let long : length c.args.wanted.now.hierarchy ≤ length c.args.wanted.now.picks = omega (arith, c.dims-dim-end.ensures.valid.count) in
    let all : is_inside c.args.wanted.now.hierarchy c.args.self.now c.args.wanted.now.picks ≡ true =
    in_each-from is_part_inside c.args.wanted.now.hierarchy c.args.self.now.parts.items c.args.wanted.now.picks All c.requires.set_of.count long
    (λ k lt. c.loop-dim.invariant k (omega (arith, lt, c.loop-dim-test.false, c.dims-dim-end.ensures.value))) in
    rw all refl

pub returns-clause-meaning : goal.returns-clause-meaning
returns-clause-meaning c =
    bearing-IsBearing c.args.wanted.now.hierarchy c.args.self.now c.args.wanted.now.picks Inside c.requires c.dims-dim-end.ensures.valid (returns-clause-test c)

pub returns-clause-all_match : goal.returns-clause-all_match
returns-clause-all_match c = λ _ at v. inside_matches c.args.wanted.now.hierarchy c.args.self.now c.args.wanted.now.picks at (returns-clause-meaning c) v
