use Rattle.std.proofs.Common.{◌≡◌, length, arith}
use Rattle.dim_hierarchy.proofs.Compiling.{AreFirstMarks-more, AreFilterMarks-all}
use Rattle.dim_hierarchy.proofs.hierarchy.Hierarchy.compile.Goals as goal

pub loop-dim-preserved : goal.loop-dim-preserved
loop-dim-preserved c =
    rw c.in_ok-push.ensures.items
    (AreFirstMarks-more c.args.self.now c.args.filter.now c.loop-dim.dim c.loop-dim.dims.items c.in_ok-marks.marks c.loop-dim.invariant c.in_ok-marks.ensures)

pub invariant_of-result : goal.invariant_of-result
invariant_of-result c =
    let all : c.loop-dim.dim ≡ length c.args.self.now = omega arith in
    rw (c.of.ensures, c.of-2.ensures)
    (AreFilterMarks-all c.args.self.now c.args.filter.now c.loop-dim.dim c.loop-dim.dims.items c.requires all c.loop-dim.invariant)
