use Rattle.std.proofs.Common.{◌<◌, ◌≤◌, length, arith}
use Rattle.hierarchy_split.proofs.Groups.{best_below_more, best_below_all, best_is_good, none_is_good}
use Rattle.hierarchy_split.proofs.head.HeadCuts.best.Goals as goal

pub loop-dim-preserved : goal.loop-dim-preserved
loop-dim-preserved c =
    let own = c.args.self.now in
    let lt : c.loop-dim.dim < length c.args.h.now = omega (arith, c.loop-dim-test.true, c.dims-dim-end.ensures.value, c.loop-dim.auto.dim-end) in
    best_below_more c.args.h.now own.head.now own.dims.items c.loop-dim.dim c.cuts.result.now c.loop-dim.best c.best_of.result c.better-best.result lt c.cuts.ensures c.loop-dim.invariant c.best_of.ensures c.better-best.ensures

pub returns-clause-cut : goal.returns-clause-cut
returns-clause-cut c =
    let own = c.args.self.now in
    let all : length c.args.h.now ≤ c.loop-dim.dim = omega (arith, c.loop-dim-test.false, c.dims-dim-end.ensures.value, c.loop-dim.auto.dim-end) in
    let best = best_below_all c.args.h.now own.head.now own.dims.items c.loop-dim.dim c.loop-dim.best all c.loop-dim.invariant in
    λ items a. best_is_good c.args.h.now items own c.loop-dim.best a best

pub returns-clause-none : goal.returns-clause-none
returns-clause-none c =
    let own = c.args.self.now in
    let all : length c.args.h.now ≤ c.loop-dim.dim = omega (arith, c.loop-dim-test.false, c.dims-dim-end.ensures.value, c.loop-dim.auto.dim-end) in
    let best = best_below_all c.args.h.now own.head.now own.dims.items c.loop-dim.dim c.loop-dim.best all c.loop-dim.invariant in
    λ items a. none_is_good c.args.h.now items own c.loop-dim.best a best
