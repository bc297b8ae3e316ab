use Rattle.actor_run.specs.Doing.{HasDone, HasRefused}
use Rattle.std.proofs.Common.{ℤ, ap, subst, rules}
use Rattle.actor_run.specs.Driving.{EndsSince}
use Rattle.actor_run.proofs.{Ends.{insert-acked, insert-failed, insert-nothing, insert-open, insert-refused, insert-unanswered}, Measured.measured, Sessions.{as-before, can-begin, refused-later}}
use Rattle.whole_steps.specs.session_steps.specs.{Begins.HasBegunInsert, declared.commands.End.End}
use Rattle.whole_steps.specs.volap_cell.specs.Values.{ActorValue}
use Rattle.actor_run.proofs.calls.insert_at.Goals as goal

pub begin_insert-requires-clause-stands : goal.begin_insert-requires-clause-stands
begin_insert-requires-clause-stands g c = c.requires.session.1.stands

pub begin_insert-requires-clause-begins : goal.begin_insert-requires-clause-begins
begin_insert-requires-clause-begins g c = can-begin c.args.floor.now c.requires.session.0 c.args.player.now c.requires.session.1

pub refuse-requires : goal.refuse-requires
refuse-requires g c = record { session = (c.requires.session.0, (as-before c.args.floor.now c.requires.session.0 c.args.player.now c.requires.session.1 c.begin_insert.new.player c.in_default.ensures.same).session) }

pub drive-end-requires-clause-open : goal.drive-end-requires-clause-open
drive-end-requires-clause-open g c _ _ = insert-open c.args.floor.now c.requires.session.0 c.args.player.now c.begin_insert.new.player c.requires.session.1 c.in-Ok.of c.args.at _ c.in-Ok.ensures.begun

pub returns-in-Acked-clause-does : goal.returns-in-Acked-clause-does
returns-in-Acked-clause-does g c names named server s =
    let f = c.args.floor.now in
    let ended = subst (λ (r : End). EndsSince f r c.begin_insert.new.player c.drive-end.new.player) c.in-Acked.is c.drive-end.ensures.ends in
    let begun = measured (λ (m : ℤ). HasBegunInsert f c.in-Ok.of c.args.at m c.args.player.now c.begin_insert.new.player) c.args.measures (search rules) c.in-Ok.ensures.begun in
    insert-acked f server c.args.player.now c.begin_insert.new.player s c.in-Ok.of c.args.at c.args.measures begun c.drive-end.new.player names named ended

pub returns-in-Failed-clause-does : goal.returns-in-Failed-clause-does
returns-in-Failed-clause-does g c names named server s =
    let f = c.args.floor.now in
    let ended = subst (λ (r : End). EndsSince f r c.begin_insert.new.player c.drive-end.new.player) c.in-Failed.is c.drive-end.ensures.ends in
    let begun = measured (λ (m : ℤ). HasBegunInsert f c.in-Ok.of c.args.at m c.args.player.now c.begin_insert.new.player) c.args.measures (search rules) c.in-Ok.ensures.begun in
    insert-failed f server c.args.player.now c.begin_insert.new.player s c.in-Ok.of c.args.at c.args.measures begun c.drive-end.new.player names named ended

pub returns-in-Acked-clause-seen : goal.returns-in-Acked-clause-seen
returns-in-Acked-clause-seen g c = ap (λ (a : ActorValue). a.seen) c.drive-end.ensures.ends.actor

pub returns-in-Failed-clause-seen : goal.returns-in-Failed-clause-seen
returns-in-Failed-clause-seen g c = ap (λ (a : ActorValue). a.seen) c.drive-end.ensures.ends.actor

pub unreachable-requires : goal.unreachable-requires
unreachable-requires g c =
    let f = c.args.floor.now in
    let now = c.drive-end.new.player in
    let ended = subst (λ (r : End). EndsSince f r c.begin_insert.new.player now) c.in-Answered.is c.drive-end.ensures.ends in
    absurd (insert-unanswered f c.requires.session.0 c.args.player.now c.begin_insert.new.player c.requires.session.1 c.in-Ok.of c.args.at _ c.in-Ok.ensures.begun now _ ended)

pub returns-in_err-refuse-clause-does : goal.returns-in_err-refuse-clause-does
returns-in_err-refuse-clause-does g c names named server s =
    let f = c.args.floor.now in
    let was = c.args.player.now in
    let before = as-before f server was s c.begin_insert.new.player c.in_default.ensures.same in
    let did = refused-later c.refuse.result f server was c.begin_insert.new.player c.refuse.new.player before (c.refuse.ensures.does server before.session) in
    insert-nothing f server was c.refuse.new.player c.from_residual.result c.from_residual.ensures.0 names c.args.measures
    (subst (λ r. HasDone f (HasRefused r) server was c.refuse.new.player) c.in_err-refuse.was did)

pub returns-in_default-clause-does : goal.returns-in_default-clause-does
returns-in_default-clause-does g c names named server s =
    let f = c.args.floor.now in
    let was = c.args.player.now in
    let before = as-before f server was s c.begin_insert.new.player c.in_default.ensures.same in
    let did = refused-later c.refuse.result f server was c.begin_insert.new.player c.refuse.new.player before (c.refuse.ensures.does server before.session) in
    insert-refused f server was c.refuse.new.player names c.args.measures
    (subst (λ r. HasDone f (HasRefused r) server was c.refuse.new.player) c.in_ok-refuse.was did)
