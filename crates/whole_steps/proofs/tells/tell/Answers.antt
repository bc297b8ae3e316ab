use Rattle.std.proofs.Common.{length, sym}
use Rattle.whole_steps.proofs.{Alone.everyone-of, Calling.began-with, Paging.{ended-shown, ended-straight, ends-shown, fails-on, ledger-known, page-made, shows-on, stands-on, told-page}, Telling.can-tell}
use Rattle.whole_steps.specs.Sole.{player}
use Rattle.whole_steps.proofs.tells.tell.Goals as goal

pub make_page-seat-requires-clause-everyone : goal.make_page-seat-requires-clause-everyone
make_page-seat-requires-clause-everyone g c = everyone-of c.args.floor.now (player c.args.number c.args.actor.now c.args.seat) c.requires.stands.sole

pub make_page-seat-requires-clause-can : goal.make_page-seat-requires-clause-can
make_page-seat-requires-clause-can g c = can-tell c.args.floor.now (player c.args.number c.args.actor.now c.args.seat) c.requires.stands.sole c.requires.knows c.args.call.now c.requires.due

pub show-requires-clause-stands : goal.show-requires-clause-stands
show-requires-clause-stands g c =
    stands-on c.args.floor.now c.args.number c.args.actor.now c.args.seat c.make_page-seat.result.0 c.make_page-seat.ensures.turned c.make_page-seat.ensures.everyone c.requires.stands c.make_page-seat.ensures.bare

pub show-requires-clause-shows : goal.show-requires-clause-shows
show-requires-clause-shows g c =
    shows-on c.args.floor.now c.args.call.now c.args.number c.args.actor.now c.args.seat c.make_page-seat.result.0 c.requires.stands c.requires.knows c.requires.due c.make_page-seat.ensures.turned c.make_page-seat.ensures.everyone c.make_page-seat.result.1
    c.make_page-seat.ensures.page c.make_page-seat.ensures.asked c.in-Ok.page c.in-Ok.ensures.made

pub end_call-requires-clause-stands : goal.end_call-requires-clause-stands
end_call-requires-clause-stands g c = c.show.ensures.shown.added.stands

pub end_call-requires-clause-ends : goal.end_call-requires-clause-ends
end_call-requires-clause-ends g c =
    ends-shown c.args.floor.now c.args.number c.args.call.now c.in-Ok.page c.args.actor.now c.show.new.actor c.show.new.actor c.args.seat c.make_page-seat.result.0 c.show.new.seat c.show.new.seat c.requires.due c.make_page-seat.ensures.turned c.make_page-seat.ensures.everyone
    (ledger-known c.args.floor.now (player c.args.number c.args.actor.now c.args.seat) c.requires.stands.sole c.requires.knows) c.show.ensures.shown

pub end_call-requires-in-Err-clause-stands : goal.end_call-requires-in-Err-clause-stands
end_call-requires-in-Err-clause-stands g c =
    stands-on c.args.floor.now c.args.number c.args.actor.now c.args.seat c.make_page-seat.result.0 c.make_page-seat.ensures.turned c.make_page-seat.ensures.everyone c.requires.stands c.make_page-seat.ensures.bare

pub end_call-requires-in-Err-clause-ends : goal.end_call-requires-in-Err-clause-ends
end_call-requires-in-Err-clause-ends g c =
    fails-on c.args.floor.now c.args.call.now c.args.number c.args.actor.now c.args.seat c.make_page-seat.result.0 c.requires.stands c.requires.knows c.requires.due c.make_page-seat.ensures.turned c.make_page-seat.ensures.everyone c.requires.noted

pub returns-in-Ok : goal.returns-in-Ok
returns-in-Ok g c = record {
  told = (
      told-page (sym c.in-Ok.ensures.same)
      (ended-shown c.args.floor.now c.args.number c.args.call.now c.in-Ok.page c.args.actor.now c.show.new.actor c.end_call.new.actor c.args.seat c.make_page-seat.result.0 c.show.new.seat c.end_call.new.seat c.requires.due c.make_page-seat.ensures.turned
      c.make_page-seat.ensures.everyone (ledger-known c.args.floor.now (player c.args.number c.args.actor.now c.args.seat) c.requires.stands.sole c.requires.knows) c.show.ensures.shown c.end_call.ensures.ended)
      (page-made c.args.floor.now c.args.call.now c.args.number c.args.actor.now c.args.seat c.make_page-seat.result.0 c.requires.stands c.requires.knows c.requires.due c.make_page-seat.ensures.turned c.make_page-seat.ensures.everyone c.make_page-seat.result.1
      c.make_page-seat.ensures.page c.in-Ok.page c.in-Ok.ensures.made)
      );
}

pub returns-in-Err : goal.returns-in-Err
returns-in-Err g c = record {
  told = ended-straight c.args.floor.now _ c.args.number (length c.requires.due.older) _ c.args.actor.now c.end_call-in-Err.new.actor c.args.seat c.make_page-seat.result.0 c.end_call-in-Err.new.seat c.requires.due.command (began-with c.requires.due) c.make_page-seat.ensures.turned
      c.make_page-seat.ensures.everyone (ledger-known c.args.floor.now (player c.args.number c.args.actor.now c.args.seat) c.requires.stands.sole c.requires.knows) c.end_call-in-Err.ensures.ended;
}
