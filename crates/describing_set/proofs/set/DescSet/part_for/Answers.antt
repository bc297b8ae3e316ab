use Rattle.std.proofs.Common.{◌<◌, length, arith}
use Rattle.dim_hierarchy.specs.Dimension.{tree}
use Rattle.describing_set.specs.DescSet.{part_at}
use Rattle.describing_set.proofs.Sets.{part_at-IsPart, part_at-within, part_read, IsPart-of_level}
use Rattle.describing_set.proofs.set.DescSet.part_for.Goals as goal

pub returns-clause-level : goal.returns-clause-level
returns-clause-level c =
    let lt : c.args.dim < length c.args.self.now.parts.items = omega (arith, c.requires.dim, c.requires.set.set_of.count) in
    rw (part_read c.args.self.now c.as_slice.result.now c.from.result c.args.dim c.index-as_slice-from.result c.as_slice.ensures.value c.from.ensures lt c.index-as_slice-from.is)
    (part_at-within c.args.wanted.now.hierarchy c.args.self.now c.args.dim c.requires.dim c.requires.set)

pub returns-clause-concepts : goal.returns-clause-concepts
returns-clause-concepts c =
    let h = c.args.wanted.now.hierarchy in
    let lt : c.args.dim < length c.args.self.now.parts.items = omega (arith, c.requires.dim, c.requires.set.set_of.count) in
    rw (part_read c.args.self.now c.as_slice.result.now c.from.result c.args.dim c.index-as_slice-from.result c.as_slice.ensures.value c.from.ensures lt c.index-as_slice-from.is)
    (IsPart-of_level (tree h c.args.dim) (part_at c.args.self.now c.args.dim) (part_at-IsPart h c.args.self.now c.args.dim c.requires.dim c.requires.set))
