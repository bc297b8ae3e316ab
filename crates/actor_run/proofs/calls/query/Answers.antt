use Rattle.std.proofs.Common.{◌≡◌, OnOk, IfOk, subst}
use Rattle.actor_run.specs.{Doing.Does, Sessions.TriesQuery}
use Rattle.actor_run.proofs.{Ends.query-nothing, Everything.of-all}
use Rattle.dim_hierarchy.specs.Filter.{IsFilterNamed}
use Rattle.whole_steps.specs.seat_steps.specs.declared.floor.Player.{Player}
use Rattle.actor_run.proofs.calls.query.Goals as goal

pub returns-in_err-picks-clause-does : goal.returns-in_err-picks-clause-does
returns-in_err-picks-clause-does g c server s =
    query-nothing c.args.floor.now server c.args.player.now c.filter_for.new.player c.from_residual.result c.from_residual.ensures.0 c.args.filter.now (c.in_err-picks.ensures.nothing server s)

pub returns-in-Ok-clause-does : goal.returns-in-Ok-clause-does
returns-in-Ok-clause-does g c =
    let f = c.args.floor.now in
    let same = subst (λ r. OnOk r (c.filter_for.new.player ≡ c.args.player.now)) c.in-Ok.is c.in_ok-picks.ensures.same in
    let named = subst (λ r. IfOk r (IsFilterNamed f.hierarchy c.args.filter.now)) c.in-Ok.is c.in_ok-picks.ensures.named in
    subst (λ (p : Player). Does f (TriesQuery c.query_with.result c.args.filter.now) p c.query_with.new.player) same (c.query_with.ensures.does c.args.filter.now named)

pub returns-in-Ok-clause-steps : goal.returns-in-Ok-clause-steps
returns-in-Ok-clause-steps g c all =
    let h = c.args.floor.now.hierarchy in
    let named = subst (λ r. IfOk r (IsFilterNamed h c.args.filter.now)) c.in-Ok.is c.in_ok-picks.ensures.named in
    c.query_with.ensures.steps (of-all h c.args.filter.now c.in-Ok.picks named all)
