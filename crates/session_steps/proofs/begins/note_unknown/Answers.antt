use Rattle.std.proofs.Common.{◌∙◌, ap}
use Rattle.part_steps.specs.core_steps.specs.declared.notes.NoteStep.TheVariants.{Unknown}
use Rattle.part_steps.proofs.Keeping.{note-kept}
use Rattle.session_steps.proofs.{Beginning.unknown-told, Servers.unknown-due}
use Rattle.part_steps.specs.seat_steps.proofs.{Since.{map-ok, nothing-told, still-unchanged}, WithLedger.up-none}
use Rattle.part_steps.specs.volap_cell.specs.Values.{ActorValue}
use Rattle.session_steps.proofs.begins.note_unknown.Goals as goal

pub make_booked-requires-clause-held : goal.make_booked-requires-clause-held
make_booked-requires-clause-held g c = up-none c.args.player.now (nothing-told c.requires.stands c.requires.free.errand)

pub make_booked-requires-clause-due : goal.make_booked-requires-clause-due
make_booked-requires-clause-due g c = unknown-due c.args.floor.now c.args.player.now c.args.dim c.requires.free

pub make_booked-requires-clause-kept : goal.make_booked-requires-clause-kept
make_booked-requires-clause-kept g c q e = note-kept c.args.floor.now.hierarchy q (Unknown c.args.dim) (ap (λ (a : ActorValue). a.errand) e ∙ c.requires.free.errand)

pub returns-clause-noted : goal.returns-clause-noted
returns-clause-noted g c = map-ok c.make_booked.result (unknown-told (still-unchanged c.args.player.now) c.requires.noted c.requires.free c.args.dim) c.make_booked.ensures.booked
