use Rattle.std.proofs.Common.{◌∙◌}
use Rattle.balancer.proofs.Plans.{next_action-move, next_action-split}
use Rattle.balancer.proofs.balance.next_action.Goals as goal

pub returns-in-Some : goal.returns-in-Some
returns-in-Some c = next_action-move c.args.loads.now c.args.workers c.fullest-from.result c.emptiest-to.result c.saturating_sub-gap.result c.in-Some.load c.fullest-from.ensures c.emptiest-to.ensures (cc) c.if-gap-le-EVEN_GAP.false c.in-Some.ensures

pub returns-in_default : goal.returns-in_default
returns-in_default c = c.split_of.ensures ∙ next_action-split c.args.loads.now c.args.workers c.fullest-from.result c.emptiest-to.result c.saturating_sub-gap.result _ c.fullest-from.ensures c.emptiest-to.ensures (cc) c.if-gap-le-EVEN_GAP.false c.in_default.ensures c.largest_on.ensures
