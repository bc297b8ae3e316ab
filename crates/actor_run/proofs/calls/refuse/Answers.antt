use Rattle.std.proofs.Common.{ap}
use Rattle.actor_run.proofs.{Ends.as-before-on, Sessions.{as-before, refused-noted, still-free}}
use Rattle.whole_steps.specs.volap_cell.specs.Values.{ActorValue}
use Rattle.actor_run.proofs.calls.refuse.Goals as goal

pub note_refused-requires-clause-stands : goal.note_refused-requires-clause-stands
note_refused-requires-clause-stands g c = c.requires.session.1.stands

pub note_refused-requires-clause-free : goal.note_refused-requires-clause-free
note_refused-requires-clause-free g c = c.requires.session.1.free

pub note_refused-requires-clause-noted : goal.note_refused-requires-clause-noted
note_refused-requires-clause-noted g c = c.requires.session.1.noted

pub hear-requires-clause-free : goal.hear-requires-clause-free
hear-requires-clause-free g c = still-free c.args.floor.now c.requires.session.0 c.args.player.now c.requires.session.1 c.note_refused.new.player c.in-Err.ensures.same

pub returns-in-Ok-clause-does : goal.returns-in-Ok-clause-does
returns-in-Ok-clause-does g c server s = refused-noted c.args.floor.now server c.args.player.now c.note_refused.new.player s c.in-Ok.ensures.noted

pub returns-in-Ok-clause-seen : goal.returns-in-Ok-clause-seen
returns-in-Ok-clause-seen g c = ap (λ (a : ActorValue). a.seen) c.in-Ok.ensures.noted.actor

pub returns-in-Err-clause-does : goal.returns-in-Err-clause-does
returns-in-Err-clause-does g c server s =
    as-before c.args.floor.now server c.args.player.now s c.hear.new.player
    (as-before-on c.args.floor.now c.args.player.now c.note_refused.new.player c.hear.new.player c.in-Err.ensures.same c.hear.ensures.same)
