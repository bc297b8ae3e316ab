use Rattle.std.proofs.{Common.{All, arith, subst}, lemmas.List.take_all}
use Rattle.dim_hierarchy.specs.Names.{IsNamePick}
use Rattle.run_tests.proofs.MayRun.{all-more}
use Rattle.run_tests.proofs.scripts.are_picks.Goals as goal

pub loop-pick-preserved : goal.loop-pick-preserved
loop-pick-preserved c = all-more IsNamePick c.args.picks.now c.loop-pick.pick-index c.pick-item.result c.loop-pick-test.true c.pick-item.is c.loop-pick.invariant (c.is_pick.ensures c.if-not-is_pick.false)

pub returns : goal.returns
returns c = λ is. subst (All IsNamePick) (take_all c.loop-pick.pick-index c.args.picks.now (omega arith)) c.loop-pick.invariant
