use Rattle.actor_run.specs.Doing.{HasDone, HasRefused}
use Rattle.std.proofs.Common.{ap, subst}
use Rattle.actor_run.specs.Driving.{EndsSince}
use Rattle.actor_run.proofs.{Ends.{query-answered, query-failed, query-nothing, query-open, query-refused, query-unacked}, Everything.spent-none, Sessions.{as-before, can-begin, refused-later}}
use Rattle.whole_steps.specs.session_steps.specs.declared.commands.End.{End}
use Rattle.whole_steps.specs.volap_cell.specs.Values.{ActorValue}
use Rattle.actor_run.proofs.calls.query_with.Goals as goal

pub ask-requires-clause-stands : goal.ask-requires-clause-stands
ask-requires-clause-stands g c = c.requires.session.1.stands

pub ask-requires-clause-begins : goal.ask-requires-clause-begins
ask-requires-clause-begins g c = can-begin c.args.floor.now c.requires.session.0 c.args.player.now c.requires.session.1

pub refuse-requires : goal.refuse-requires
refuse-requires g c = record { session = (c.requires.session.0, (as-before c.args.floor.now c.requires.session.0 c.args.player.now c.requires.session.1 c.ask.new.player c.in_default.ensures.same).session) }

pub drive-end-requires-clause-open : goal.drive-end-requires-clause-open
drive-end-requires-clause-open g c _ _ = query-open c.args.floor.now c.requires.session.0 c.args.player.now c.ask.new.player c.requires.session.1 c.in-Some.of c.args.filter c.in-Some.ensures.begun

pub returns-in-Answered-clause-does : goal.returns-in-Answered-clause-does
returns-in-Answered-clause-does g c names named server s =
    let f = c.args.floor.now in
    let ended = subst (λ (r : End). EndsSince f r c.ask.new.player c.drive-end.new.player) c.in-Answered.is c.drive-end.ensures.ends in
    query-answered f server c.args.player.now c.ask.new.player s c.in-Some.of c.args.filter c.in-Some.ensures.begun c.drive-end.new.player names named c.in-Answered.agg ended

pub returns-in-Failed-clause-does : goal.returns-in-Failed-clause-does
returns-in-Failed-clause-does g c names named server s =
    let f = c.args.floor.now in
    let ended = subst (λ (r : End). EndsSince f r c.ask.new.player c.drive-end.new.player) c.in-Failed.is c.drive-end.ensures.ends in
    query-failed f server c.args.player.now c.ask.new.player s c.in-Some.of c.args.filter c.in-Some.ensures.begun c.drive-end.new.player names named ended

pub returns-in-Answered-clause-seen : goal.returns-in-Answered-clause-seen
returns-in-Answered-clause-seen g c = ap (λ (a : ActorValue). a.seen) c.drive-end.ensures.ends.actor

pub returns-in-Failed-clause-seen : goal.returns-in-Failed-clause-seen
returns-in-Failed-clause-seen g c = ap (λ (a : ActorValue). a.seen) c.drive-end.ensures.ends.actor

pub unreachable-requires : goal.unreachable-requires
unreachable-requires g c =
    let f = c.args.floor.now in
    let now = c.drive-end.new.player in
    let ended = subst (λ (r : End). EndsSince f r c.ask.new.player now) c.in-Acked.is c.drive-end.ensures.ends in
    absurd (query-unacked f c.requires.session.0 c.args.player.now c.ask.new.player c.requires.session.1 c.in-Some.of c.args.filter c.in-Some.ensures.begun now ended)

pub returns-in_err-refuse-clause-does : goal.returns-in_err-refuse-clause-does
returns-in_err-refuse-clause-does g c names named server s =
    let f = c.args.floor.now in
    let was = c.args.player.now in
    let before = as-before f server was s c.ask.new.player c.in_default.ensures.same in
    let did = refused-later c.refuse.result f server was c.ask.new.player c.refuse.new.player before (c.refuse.ensures.does server before.session) in
    query-nothing f server was c.refuse.new.player c.from_residual.result c.from_residual.ensures.0 names
    (subst (λ r. HasDone f (HasRefused r) server was c.refuse.new.player) c.in_err-refuse.was did)

pub returns-in_default-clause-does : goal.returns-in_default-clause-does
returns-in_default-clause-does g c names named server s =
    let f = c.args.floor.now in
    let was = c.args.player.now in
    let before = as-before f server was s c.ask.new.player c.in_default.ensures.same in
    let did = refused-later c.refuse.result f server was c.ask.new.player c.refuse.new.player before (c.refuse.ensures.does server before.session) in
    query-refused f server was c.refuse.new.player names (subst (λ r. HasDone f (HasRefused r) server was c.refuse.new.player) c.in_ok-refuse.was did)

pub returns-in-Answered-clause-steps : goal.returns-in-Answered-clause-steps
returns-in-Answered-clause-steps g c all =
    c.drive-end.ensures.steps (spent-none c.args.floor.now c.in-Some.of c.args.filter c.args.player.now c.ask.new.player c.in-Some.ensures.begun c.requires.session.1.free.errand all c.args.steps.now)

pub returns-in-Failed-clause-steps : goal.returns-in-Failed-clause-steps
returns-in-Failed-clause-steps g c all =
    c.drive-end.ensures.steps (spent-none c.args.floor.now c.in-Some.of c.args.filter c.args.player.now c.ask.new.player c.in-Some.ensures.begun c.requires.session.1.free.errand all c.args.steps.now)
