use Rattle.std.proofs.Common.{arith}
use Rattle.dim_hierarchy.specs.Dimension.{tree}
use Rattle.describing_set.proofs.{Parts.{Joining-next, joined_parts}, Sorted.In-read}
use Rattle.describing_set.proofs.part.Part.join_deeper.Goals as goal

pub add-requires-clause-concept : goal.add-requires-clause-concept
add-requires-clause-concept c =
    let i = In-read c.as_slice-id-items.result.now c.args.deeper.now.ids.items c.loop-id.id-index c.id-item.result c.loop-id-test.true c.id-item.is c.as_slice-id-items.ensures.value in
    c.requires.right.concept c.id-item.result i

pub add-requires-clause-level : goal.add-requires-clause-level
add-requires-clause-level c =
    let i = In-read c.as_slice-id-items.result.now c.args.deeper.now.ids.items c.loop-id.id-index c.id-item.result c.loop-id-test.true c.id-item.is c.as_slice-id-items.ensures.value in
    omega (arith, c.requires.right.level c.id-item.result i, c.requires.level, c.loop-id.invariant.level)

pub loop-id-preserved : goal.loop-id-preserved
loop-id-preserved c =
    Joining-next (tree c.args.h.now c.args.dim) c.args.self.now c.args.deeper.now c.as_slice-id-items.result.now c.loop-id.id-index c.id-item.result c.loop-id.part c.add.new.self
    c.as_slice-id-items.ensures.value c.requires.right c.requires.level c.loop-id-test.true c.id-item.is c.loop-id.invariant c.add.ensures.part c.add.ensures.level c.add.ensures.grown

pub returns : goal.returns
returns c =
    joined_parts (tree c.args.h.now c.args.dim) (c.requires.hierarchy.each c.args.dim c.requires.dim).tree c.args.self.now c.args.deeper.now c.as_slice-id-items.result.now c.loop-id.id-index c.loop-id.part
    c.as_slice-id-items.ensures.value c.requires.level c.loop-id-test.false c.loop-id.invariant
