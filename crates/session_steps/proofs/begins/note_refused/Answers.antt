use Rattle.std.proofs.Common.{◌∙◌, ap}
use Rattle.part_steps.specs.core_steps.specs.declared.notes.NoteStep.TheVariants.{Refused}
use Rattle.part_steps.proofs.Keeping.{note-kept}
use Rattle.session_steps.proofs.{Beginning.refused-told, Servers.refused-due}
use Rattle.part_steps.specs.seat_steps.proofs.{Since.{map-ok, nothing-told, still-unchanged}, WithLedger.up-none}
use Rattle.part_steps.specs.volap_cell.specs.Values.{ActorValue}
use Rattle.session_steps.proofs.begins.note_refused.Goals as goal

pub make_booked-requires-clause-held : goal.make_booked-requires-clause-held
make_booked-requires-clause-held g c = up-none c.args.player.now (nothing-told c.requires.stands c.requires.free.errand)

pub make_booked-requires-clause-due : goal.make_booked-requires-clause-due
make_booked-requires-clause-due g c = refused-due c.args.floor.now c.args.player.now c.requires.free

pub make_booked-requires-clause-kept : goal.make_booked-requires-clause-kept
make_booked-requires-clause-kept g c q e = note-kept c.args.floor.now.hierarchy q Refused (ap (λ (a : ActorValue). a.errand) e ∙ c.requires.free.errand)

pub returns-clause-noted : goal.returns-clause-noted
returns-clause-noted g c = map-ok c.make_booked.result (refused-told (still-unchanged c.args.player.now) c.requires.noted c.requires.free) c.make_booked.ensures.booked
