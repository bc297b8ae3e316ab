use Rattle.std.proofs.Common.{◌∙◌, ap, refl}
use Rattle.call_steps.proofs.{CallsDue.end-due, CallsMade.has-ended}
use Rattle.session_steps.specs.core_steps.specs.declared.notes.NoteStep.TheVariants.{Ended}
use Rattle.session_steps.specs.part_steps.proofs.Keeping.{note-kept}
use Rattle.session_steps.specs.seat_steps.proofs.{Since.{nothing-told, still-unchanged}, WithLedger.up-none}
use Rattle.session_steps.specs.volap_cell.specs.Values.{ActorValue}
use Rattle.session_steps.specs.volap_turns.proofs.Turned.{when-ok}
use Rattle.call_steps.proofs.ends.end_call.Goals as goal

pub make_booked-requires-clause-held : goal.make_booked-requires-clause-held
make_booked-requires-clause-held g c = up-none c.args.player.now (nothing-told c.requires.stands c.requires.ends.no_part)

pub make_booked-requires-clause-due : goal.make_booked-requires-clause-due
make_booked-requires-clause-due g c = end-due c.args.floor.now c.args.player.now c.args.how c.requires.ends

pub make_booked-requires-clause-kept : goal.make_booked-requires-clause-kept
make_booked-requires-clause-kept g c q e = note-kept c.args.floor.now.hierarchy q (Ended c.args.how) (ap (λ (a : ActorValue). a.errand) e ∙ c.requires.ends.no_part)

pub returns : goal.returns
returns g c =
    let booked = when-ok c.make_booked.result c.make_booked.ensures.booked (c.make_booked.ensures.sure refl) in
    record { ended = has-ended c.requires.stands.seated (still-unchanged c.args.player.now) c.args.how c.requires.ends booked }
