use Rattle.std.proofs.Common.{◌≡◌, ◌<◌, length, arith}
use Rattle.dim_hierarchy.specs.{Concept.level_of, Dimension.tree}
use Rattle.describing_set.specs.DescSet.{part_at}
use Rattle.describing_set.proofs.{Sets.{part_at-IsPart, part_at-level, part_read, IsPart-concepts}, Sorted.All-from_In}
use Rattle.hierarchy_split.proofs.leasts.part.Goals as goal

pub returns-clause-concepts : goal.returns-clause-concepts
returns-clause-concepts c =
    let lt : c.args.dim < length c.args.set.now.parts.items = omega (arith, c.requires.dim, c.requires.set.set_of.count) in
    rw (part_read c.args.set.now c.as_slice.result.now c.from.result c.args.dim c.index-as_slice-from.result c.as_slice.ensures.value c.from.ensures lt c.index-as_slice-from.is)
    (IsPart-concepts (tree c.args.h.now c.args.dim) (part_at c.args.set.now c.args.dim) (part_at-IsPart c.args.h.now c.args.set.now c.args.dim c.requires.dim c.requires.set))

pub returns-clause-level : goal.returns-clause-level
returns-clause-level c =
    let lt : c.args.dim < length c.args.set.now.parts.items = omega (arith, c.requires.dim, c.requires.set.set_of.count) in
    let p = part_at c.args.set.now c.args.dim in
    rw (part_read c.args.set.now c.as_slice.result.now c.from.result c.args.dim c.index-as_slice-from.result c.as_slice.ensures.value c.from.ensures lt c.index-as_slice-from.is)
    (All-from_In (λ id. level_of id ≡ p.level) p.ids.items (part_at-IsPart c.args.h.now c.args.set.now c.args.dim c.requires.dim c.requires.set).level)

pub returns-clause-few : goal.returns-clause-few
returns-clause-few c =
    let lt : c.args.dim < length c.args.set.now.parts.items = omega (arith, c.requires.dim, c.requires.set.set_of.count) in
    let deep = part_at-level c.args.h.now c.args.set.now c.args.dim c.requires.dim c.requires.set in
    let nine = (c.requires.set.hierarchy.each c.args.dim c.requires.dim).tree.few in
    rw (part_read c.args.set.now c.as_slice.result.now c.from.result c.args.dim c.index-as_slice-from.result c.as_slice.ensures.value c.from.ensures lt c.index-as_slice-from.is)
    (omega (arith, deep, nine))
