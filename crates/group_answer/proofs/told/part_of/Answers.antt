use Rattle.std.proofs.Common.{◌<◌, length, arith}
use Rattle.describing_set.proofs.Sets.{part_read}
use Rattle.group_answer.proofs.told.part_of.Goals as goal

pub returns : goal.returns
returns c =
    let lt : c.args.dim < length c.args.set.now.parts.items = omega (arith, c.requires.dim, c.requires.set.set_of.count) in
    part_read c.args.set.now c.as_slice.result.now c.from.result c.args.dim c.index-as_slice-from.result c.as_slice.ensures.value c.from.ensures lt c.index-as_slice-from.is
