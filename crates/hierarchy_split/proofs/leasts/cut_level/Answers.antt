use Rattle.std.proofs.Common.{◌≡◌, subst, sym, arith}
use Rattle.hierarchy_split.specs.{Cut.leasts, Order.AreEqual}
use Rattle.hierarchy_split.proofs.Lifts.{leasts_at_top}
use Rattle.hierarchy_split.proofs.leasts.cut_level.Goals as goal

pub loop-level-init : goal.loop-level-init
loop-level-init c = λ lower lt.
    let e : lower ≡ 0 = omega arith in
    subst (λ level. AreEqual (leasts c.args.h.now c.args.sets.now c.args.dim level)) (sym e) (leasts_at_top c.args.h.now c.args.sets.now c.args.dim c.requires.dim c.requires.sets)
