use Rattle.std.proofs.Common.{◌∙◌, ap, arith, sym}
use Rattle.core_pages.specs.volap_cell.specs.Values.{ActorValue}
use Rattle.whole_steps.proofs.{Alone.everyone-of, Paging.{at-page, can-call-on, ends-unknown, err-of, knows-then, not-begun, of-tree, ok-of, paged-so, stands-on, unknown-so}}
use Rattle.whole_steps.specs.Sole.{player}
use Rattle.whole_steps.proofs.tells.call_page.Goals as goal

pub look_round-requires-clause-everyone : goal.look_round-requires-clause-everyone
look_round-requires-clause-everyone g c = everyone-of c.args.floor.now (player c.args.number c.args.actor.now c.args.seat) c.requires.stands.sole

pub begin_call-requires-clause-stands : goal.begin_call-requires-clause-stands
begin_call-requires-clause-stands g c =
    stands-on c.args.floor.now c.args.number c.args.actor.now c.args.seat c.look_round.new.seat c.look_round.ensures.turned c.look_round.ensures.everyone c.requires.stands c.look_round.ensures.bare

pub begin_call-requires-clause-begins : goal.begin_call-requires-clause-begins
begin_call-requires-clause-begins g c = can-call-on c.args.floor.now c.args.call.now c.args.number c.args.actor.now c.args.seat c.look_round.new.seat c.look_round.ensures.turned c.requires.begins

pub returns-then-is_err : goal.returns-then-is_err
returns-then-is_err g c = record {
  paged = not-begun c.args.floor.now c.args.number c.args.actor.now c.begin_call.new.actor c.args.seat c.look_round.new.seat c.begin_call.new.seat c.look_round.ensures.turned c.look_round.ensures.everyone c.requires.begins.noted
      (err-of c.begin_call.result c.begin_call.ensures.same (sym c.is_err.ensures.value ∙ c.if-is_err.true));
}

pub tell-requires-clause-stands : goal.tell-requires-clause-stands
tell-requires-clause-stands g c = (ok-of c.begin_call.result c.begin_call.ensures.begun (sym c.is_err.ensures.value ∙ c.if-is_err.false)).added.stands

pub tell-requires-clause-knows : goal.tell-requires-clause-knows
tell-requires-clause-knows g c =
    knows-then c.args.floor.now c.args.call.now c.args.number c.args.actor.now c.begin_call.new.actor c.begin_call.new.actor c.args.seat c.look_round.new.seat c.begin_call.new.seat c.begin_call.new.seat c.look_round.ensures.turned c.look_round.ensures.everyone c.look_round.ensures.knows
    c.requires.begins (ok-of c.begin_call.result c.begin_call.ensures.begun (sym c.is_err.ensures.value ∙ c.if-is_err.false))

pub tell-requires-clause-due : goal.tell-requires-clause-due
tell-requires-clause-due g c =
    at-page c.args.floor.now c.args.call.now c.requires.page.0 c.requires.page.1 (player c.args.number c.args.actor.now c.look_round.new.seat) (player c.args.number c.begin_call.new.actor c.begin_call.new.seat)
    (ok-of c.begin_call.result c.begin_call.ensures.begun (sym c.is_err.ensures.value ∙ c.if-is_err.false)) (can-call-on c.args.floor.now c.args.call.now c.args.number c.args.actor.now c.args.seat c.look_round.new.seat c.look_round.ensures.turned c.requires.begins)
    (sym c.is_there.ensures ∙ c.if-is_there.true)

pub tell-requires-clause-noted : goal.tell-requires-clause-noted
tell-requires-clause-noted g c =
    let seen = ap (λ (a : ActorValue). a.seen) (ok-of c.begin_call.result c.begin_call.ensures.begun (sym c.is_err.ensures.value ∙ c.if-is_err.false)).actor in omega (arith, seen)

pub returns-then-is_there : goal.returns-then-is_there
returns-then-is_there g c = record {
  paged = paged-so c.args.floor.now c.args.call.now c.args.number c.args.actor.now c.begin_call.new.actor c.tell.new.actor c.args.seat c.look_round.new.seat c.begin_call.new.seat c.tell.result.0 c.look_round.ensures.turned c.look_round.ensures.everyone c.look_round.ensures.knows
      c.requires.begins (ok-of c.begin_call.result c.begin_call.ensures.begun (sym c.is_err.ensures.value ∙ c.if-is_err.false)) c.tell.result.1 c.tell.ensures.told;
}

pub end_call-requires-clause-stands : goal.end_call-requires-clause-stands
end_call-requires-clause-stands g c = (ok-of c.begin_call.result c.begin_call.ensures.begun (sym c.is_err.ensures.value ∙ c.if-is_err.false)).added.stands

pub end_call-requires-clause-ends : goal.end_call-requires-clause-ends
end_call-requires-clause-ends g c =
    ends-unknown c.args.floor.now c.args.call.now c.requires.page.0 c.requires.page.1 (player c.args.number c.args.actor.now c.look_round.new.seat) (player c.args.number c.begin_call.new.actor c.begin_call.new.seat)
    (ok-of c.begin_call.result c.begin_call.ensures.begun (sym c.is_err.ensures.value ∙ c.if-is_err.false)) (can-call-on c.args.floor.now c.args.call.now c.args.number c.args.actor.now c.args.seat c.look_round.new.seat c.look_round.ensures.turned c.requires.begins)
    (sym c.is_there.ensures ∙ c.if-is_there.false)

pub returns : goal.returns
returns g c = record {
  paged = (
    of-tree c.args.floor.now c.args.call.now c.requires.page.0 c.requires.page.1 (player c.args.number c.args.actor.now c.look_round.new.seat) (player c.args.number c.begin_call.new.actor c.begin_call.new.seat)
        (ok-of c.begin_call.result c.begin_call.ensures.begun (sym c.is_err.ensures.value ∙ c.if-is_err.false)) (sym c.is_there.ensures ∙ c.if-is_there.false),
    unknown-so c.args.floor.now c.args.call.now c.args.number c.args.actor.now c.begin_call.new.actor c.end_call.new.actor c.args.seat c.look_round.new.seat c.begin_call.new.seat c.end_call.new.seat c.look_round.ensures.turned c.look_round.ensures.everyone c.look_round.ensures.knows
        c.requires.begins (ok-of c.begin_call.result c.begin_call.ensures.begun (sym c.is_err.ensures.value ∙ c.if-is_err.false)) c.end_call.ensures.ended,
  );
}
