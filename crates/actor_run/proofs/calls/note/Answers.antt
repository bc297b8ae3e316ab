use Rattle.actor_run.proofs.Ends.{told-nothing}
use Rattle.actor_run.specs.Doing.{HasDone, HasRefused}
use Rattle.std.proofs.Common.{subst}
use Rattle.std.proofs.Common.{ap}
use Rattle.actor_run.proofs.Sessions.{as-before, refused-later, told}
use Rattle.whole_steps.specs.volap_cell.specs.Values.{ActorValue}
use Rattle.actor_run.proofs.calls.note.Goals as goal

pub note_unknown-requires-clause-stands : goal.note_unknown-requires-clause-stands
note_unknown-requires-clause-stands g c = c.requires.session.1.stands

pub note_unknown-requires-clause-free : goal.note_unknown-requires-clause-free
note_unknown-requires-clause-free g c = c.requires.session.1.free

pub note_unknown-requires-clause-noted : goal.note_unknown-requires-clause-noted
note_unknown-requires-clause-noted g c = c.requires.session.1.noted

pub refuse-requires : goal.refuse-requires
refuse-requires g c = record { session = (c.requires.session.0, (as-before c.args.floor.now c.requires.session.0 c.args.player.now c.requires.session.1 c.note_unknown.new.player c.in-Err.ensures.same).session) }

pub returns-in-Ok-clause-does : goal.returns-in-Ok-clause-does
returns-in-Ok-clause-does g c server s = told c.args.floor.now server c.args.player.now c.note_unknown.new.player s c.args.dim c.in-Ok.ensures.noted

pub returns-in-Ok-clause-seen : goal.returns-in-Ok-clause-seen
returns-in-Ok-clause-seen g c = ap (λ (a : ActorValue). a.seen) c.in-Ok.ensures.noted.actor

pub returns-in_err-refuse-in-Err-clause-does : goal.returns-in_err-refuse-in-Err-clause-does
returns-in_err-refuse-in-Err-clause-does g c server s =
    let f = c.args.floor.now in
    let was = c.args.player.now in
    let before = as-before f server was s c.note_unknown.new.player c.in-Err.ensures.same in
    let did = refused-later c.refuse.result f server was c.note_unknown.new.player c.refuse.new.player before (c.refuse.ensures.does server before.session) in
    told-nothing f server was c.refuse.new.player c.from_residual.result c.from_residual.ensures.0 c.args.dim
    (subst (λ r. HasDone f (HasRefused r) server was c.refuse.new.player) c.in_err-refuse-in-Err.was did)

pub returns-in_ok-refuse-in-Err-clause-does : goal.returns-in_ok-refuse-in-Err-clause-does
returns-in_ok-refuse-in-Err-clause-does g c server s =
    let f = c.args.floor.now in
    let was = c.args.player.now in
    let before = as-before f server was s c.note_unknown.new.player c.in-Err.ensures.same in
    let did = refused-later c.refuse.result f server was c.note_unknown.new.player c.refuse.new.player before (c.refuse.ensures.does server before.session) in
    subst (λ r. HasDone f (HasRefused r) server was c.refuse.new.player) c.in_ok-refuse-in-Err.was did
