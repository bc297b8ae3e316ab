use Rattle.std.proofs.Common.{◌∙◌, ap, refl}
use Rattle.call_steps.proofs.CallsDue.{end-due}
use Rattle.call_steps.specs.core_steps.specs.{Notes.note_places}
use Rattle.call_steps.specs.core_steps.specs.declared.notes.NoteStep.TheVariants.{Ended}
use Rattle.call_steps.specs.part_steps.proofs.Keeping.{note-kept}
use Rattle.call_steps.specs.seat_steps.proofs.WithLedger.{up-none}
use Rattle.core_pages.specs.volap_cell.specs.Values.{ActorValue}
use Rattle.call_steps.specs.volap_turns.proofs.Turned.{when-ok}
use Rattle.whole_steps.proofs.Calling.{due-sole, has-ended}
use Rattle.whole_steps.specs.Sole.{player}
use Rattle.whole_steps.proofs.calls.end_call.Goals as goal

pub add-requires-clause-held : goal.add-requires-clause-held
add-requires-clause-held g c = up-none (player c.args.number c.args.actor.now c.args.seat.now) c.requires.stands.bare

pub add-requires-clause-due : goal.add-requires-clause-due
add-requires-clause-due g c =
    let f = c.args.floor.now in
    let p = player c.args.number c.args.actor.now c.args.seat.now in due-sole f p (note_places (Ended c.args.how)) (end-due f p c.args.how c.requires.ends)

pub add-requires-clause-sees : goal.add-requires-clause-sees
add-requires-clause-sees g c now turned s w about inv seen = tt

pub add-requires-clause-kept : goal.add-requires-clause-kept
add-requires-clause-kept g c q e = note-kept c.args.floor.now.hierarchy q (Ended c.args.how) (ap (λ (a : ActorValue). a.errand) e ∙ c.requires.ends.no_part)

pub returns : goal.returns
returns g c = record { ended = has-ended c.args.how c.requires.ends (when-ok c.add.result c.add.ensures.made (c.add.ensures.sure refl)) }
