use Rattle.std.proofs.Common.{◌∙◌, ◌+◌, refl, sym}
use Rattle.whole_steps.proofs.{Alone.everyone-of, Paging.{err-of, not-begun, ok-of}, Settling.{failed-so, settled-so}, Turned.turned-self}
use Rattle.whole_steps.specs.Sole.{player}
use Rattle.whole_steps.proofs.settles.call_settle.Goals as goal

pub returns-then-is_err : goal.returns-then-is_err
returns-then-is_err g c = record {
  settled = not-begun c.args.floor.now c.args.number c.args.actor.now c.begin_call.new.actor c.args.seat.now c.args.seat.now c.begin_call.new.seat (turned-self c.args.seat.now)
      (everyone-of c.args.floor.now (player c.args.number c.args.actor.now c.args.seat.now) c.requires.stands.sole) c.requires.begins.noted (err-of c.begin_call.result c.begin_call.ensures.same (sym c.is_err.ensures.value ∙ c.if-is_err.true));
}

pub returns-then-is_err-2 : goal.returns-then-is_err-2
returns-then-is_err-2 g c =
    let has = ok-of c.begin_call.result c.begin_call.ensures.begun (sym c.is_err.ensures.value ∙ c.if-is_err.false) in
    let some = err-of c.pull_all.result c.pull_all.ensures.some (sym c.is_err-2.ensures.value ∙ c.if-is_err-2.true) in
    record {
      settled = failed-so c.args.floor.now c.args.number c.args.actor.now c.begin_call.new.actor c.args.seat.now c.begin_call.new.seat c.requires.stands c.requires.begins has some.0 c.pull_all.new.actor c.pull_all.new.seat some.2 c.end_call.new.actor c.end_call.new.seat some.1 c.end_call.ensures.ended;
    }

pub returns : goal.returns
returns g c =
    let has = ok-of c.begin_call.result c.begin_call.ensures.begun (sym c.is_err.ensures.value ∙ c.if-is_err.false) in
    let all = ok-of c.pull_all.result c.pull_all.ensures.all (sym c.is_err-2.ensures.value ∙ c.if-is_err-2.false) in
    record {
      settled = settled-so c.args.floor.now c.args.number c.args.actor.now c.begin_call.new.actor c.args.seat.now c.begin_call.new.seat c.requires.stands c.requires.begins has (c.args.floor.now.with.servers + c.args.floor.now.with.servers) c.pull_all.new.actor c.pull_all.new.seat all
          c.end_call-2.new.actor c.end_call-2.new.seat refl c.end_call-2.ensures.ended;
    }
