use Rattle.std.proofs.Common.{rules}
use Rattle.call_steps.specs.seat_steps.proofs.Since.{as-err}
use Rattle.whole_steps.proofs.Settling.{can-pull, none-pulled, pulled-on, waited-on}
use Rattle.whole_steps.specs.Sole.{player}
use Rattle.whole_steps.proofs.settles.pull_all.Goals as goal

pub loop-at-init : goal.loop-at-init
loop-at-init g c = none-pulled c.args.floor.now (player c.args.number c.args.actor.now c.args.seat.now) c.requires.stands c.requires.at

pub pull-requires-clause-stands : goal.pull-requires-clause-stands
pull-requires-clause-stands g c = c.loop-at.invariant.stands

pub pull-requires-clause-pulls : goal.pull-requires-clause-pulls
pull-requires-clause-pulls g c =
    can-pull c.args.floor.now (player c.args.number c.args.actor.now c.args.seat.now) c.loop-at.at (player c.args.number c.loop-at.actor c.loop-at.seat) c.loop-at.invariant c.server_at-server.result c.server_at-server.ensures

pub returns-in_err-pull-clause-some : goal.returns-in_err-pull-clause-some
returns-in_err-pull-clause-some g c =
    as-err c.from_residual.result
    (c.loop-at.at, search rules, waited-on c.args.floor.now (player c.args.number c.args.actor.now c.args.seat.now) c.loop-at.at (player c.args.number c.loop-at.actor c.loop-at.seat) c.loop-at.invariant (player c.args.number c.pull.new.actor c.pull.new.seat) c.in_err-pull.ensures.same)

pub loop-at-preserved : goal.loop-at-preserved
loop-at-preserved g c =
    pulled-on c.args.floor.now (player c.args.number c.args.actor.now c.args.seat.now) c.loop-at.at (player c.args.number c.loop-at.actor c.loop-at.seat) c.loop-at.invariant c.server_at-server.result (player c.args.number c.pull.new.actor c.pull.new.seat) c.server_at-server.ensures
    c.in_ok-pull.ensures.pulled
