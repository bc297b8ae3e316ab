use Rattle.call_steps.specs.seat_steps.proofs.Since.{as-err}
use Rattle.whole_steps.proofs.{Alone.everyone-of, Paging.{bare-done, ends-bare, not-begun}, Turned.turned-self}
use Rattle.whole_steps.specs.Sole.{player}
use Rattle.whole_steps.proofs.tells.call_barrier.Goals as goal

pub end_call-requires-clause-stands : goal.end_call-requires-clause-stands
end_call-requires-clause-stands g c = c.in_ok-begin_call.ensures.begun.added.stands

pub end_call-requires-clause-ends : goal.end_call-requires-clause-ends
end_call-requires-clause-ends g c = ends-bare c.args.floor.now (player c.args.number c.args.actor.now c.args.seat.now) (player c.args.number c.begin_call.new.actor c.begin_call.new.seat) c.requires.begins c.in_ok-begin_call.ensures.begun

pub returns-clause-done : goal.returns-clause-done
returns-clause-done g c =
    bare-done c.args.floor.now c.args.number c.args.actor.now c.begin_call.new.actor c.end_call.new.actor c.args.seat.now c.begin_call.new.seat c.end_call.new.seat c.requires.stands c.requires.begins c.in_ok-begin_call.ensures.begun c.end_call.ensures.ended

pub returns-in_err-begin_call-clause-same : goal.returns-in_err-begin_call-clause-same
returns-in_err-begin_call-clause-same g c =
    let f = c.args.floor.now in
    let s = c.args.seat.now in
    as-err c.from_residual.result
    (not-begun f c.args.number c.args.actor.now c.begin_call.new.actor s s c.begin_call.new.seat (turned-self s) (everyone-of f (player c.args.number c.args.actor.now s) c.requires.stands.sole) c.requires.begins.noted c.in_err-begin_call.ensures.same)
