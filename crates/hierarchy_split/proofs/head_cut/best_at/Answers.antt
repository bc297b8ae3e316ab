use Rattle.std.proofs.{Common.{◌∙◌, arith}, lemmas.List.get_or_default}
use Rattle.hierarchy_split.proofs.Heads.{IsBestWith-concept, IsBestBelow-more, best_at_all}
use Rattle.hierarchy_split.proofs.head_cut.best_at.Goals as goal

pub loop-concept-preserved : goal.loop-concept-preserved
loop-concept-preserved c =
    let found = c.good_cut in
    let xs = c.args.leasts.now in
    IsBestBelow-more c.args.dim c.args.level xs c.args.crossed.now c.loop-concept.concept-index c.concept-item.result c.loop-concept.best found.result c.better-best.result c.loop-concept-test.true
    (c.concept-item.is ∙ get_or_default xs c.loop-concept.concept-index c.concept-item.result 0 c.loop-concept-test.true) c.loop-concept.invariant
    (IsBestWith-concept c.args.dim c.args.level xs c.args.crossed.now c.concept-item.result found.result found.ensures.concept found.ensures.good found.ensures.none) c.better-best.ensures

pub returns : goal.returns
returns c = best_at_all c.args.dim c.args.level c.args.leasts.now c.args.crossed.now c.loop-concept.concept-index c.loop-concept.best (omega (arith, c.loop-concept-test.false)) c.loop-concept.invariant
