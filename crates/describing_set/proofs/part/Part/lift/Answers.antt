use Rattle.std.proofs.Common.{◌-◌, ◌≤◌, length, arith}
use Rattle.dim_hierarchy.specs.{Dimension.tree, Tree.up}
use Rattle.describing_set.proofs.Sorted.{add_mapped, In-read}
use Rattle.describing_set.proofs.part.Part.lift.Goals as goal

pub up-parent-requires-clause-concept : goal.up-parent-requires-clause-concept
up-parent-requires-clause-concept c =
    let i = In-read c.as_slice-id-items.result.now c.args.self.now.ids.items c.loop-id.id-index c.id-item.result c.loop-id-test.true c.id-item.is c.as_slice-id-items.ensures.value in
    c.requires.part.concept c.id-item.result i

pub up-parent-requires-clause-level : goal.up-parent-requires-clause-level
up-parent-requires-clause-level c =
    let i = In-read c.as_slice-id-items.result.now c.args.self.now.ids.items c.loop-id.id-index c.id-item.result c.loop-id-test.true c.id-item.is c.as_slice-id-items.ensures.value in
    let e = c.requires.part.level c.id-item.result i in
    omega (arith, e)

pub loop-id-preserved : goal.loop-id-preserved
loop-id-preserved c =
    let six : length c.as_slice-id-items.result.now ≤ 6 = omega (arith, c.as_slice-id-items.ensures.few) in
    add_mapped (λ id. up (tree c.args.h.now c.args.dim) id (c.args.self.now.level - 1)) c.as_slice-id-items.result.now c.loop-id.ids.items c.put-fits.new.self.items c.loop-id.id-index c.id-item.result c.up-parent.result c.put-fits.result
    c.loop-id-test.true six c.id-item.is c.up-parent.ensures c.loop-id.invariant.0 c.loop-id.invariant.1 c.put-fits.ensures.added c.put-fits.ensures.seventh
