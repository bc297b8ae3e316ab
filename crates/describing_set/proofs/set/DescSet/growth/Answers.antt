use Rattle.std.proofs.Common.{false, true, arith}
use Rattle.describing_set.specs.Sets.{growth_at}
use Rattle.describing_set.proofs.{Covering.{IsSumBelow-next, growth_read}, set.DescSet.growth.Goals.{then-not-covers, else-not-covers}}
use Rattle.describing_set.proofs.set.DescSet.growth.Goals as goal

pub loop-dim-preserved : goal.loop-dim-preserved
loop-dim-preserved c =
    let here = growth_read c.args.h.now c.args.self.now c.args.at.now.coord c.loop-dim.dim c.part.result.now c.covers.result in
    let next = IsSumBelow-next (growth_at c.args.h.now c.args.self.now c.args.at.now.coord) c.loop-dim.dim c.loop-dim.growth in
    elim c.if-not-covers.branch [
      | then-not-covers w ↦ (
        next 1 c.if-not-covers.growth c.loop-dim.invariant.0 (here false c.part.ensures.value c.covers.ensures w.if-not-covers.true) w.growth-is,
        omega (arith, c.loop-dim.invariant.1, w.growth-is),
      )
      | else-not-covers w ↦ (
        next 0 c.if-not-covers.growth c.loop-dim.invariant.0 (here true c.part.ensures.value c.covers.ensures w.if-not-covers.false) (omega (arith, w.growth-is)),
        omega (arith, c.loop-dim.invariant.1, w.growth-is),
      )
    ]
