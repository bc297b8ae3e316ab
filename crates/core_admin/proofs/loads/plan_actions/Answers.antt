use Rattle.std.proofs.Common.{Some, ◌∙◌, ap}
use Rattle.core_admin.proofs.Balances.PlanShards.{planned-stands}
use Rattle.core_admin.proofs.loads.plan_actions.Goals as goal

pub first_job-requires : goal.first_job-requires
first_job-requires c =
    planned-stands (record c.args.balance.now { plan = c.from_vec-2.result; standing = c.plan_among.new.standing }) c.as_slice-loads.result.now c.args.workers c.args.balance.now.most
    (c.from_vec-2.ensures ∙ ap Some c.plan_among.ensures.plan) c.plan_among.ensures.same
