use Rattle.std.proofs.Common.{◌∙◌, ap}
use Rattle.call_steps.specs.core_steps.specs.{Notes.note_places}
use Rattle.call_steps.specs.core_steps.specs.declared.notes.NoteStep.TheVariants.{Unknown}
use Rattle.call_steps.specs.part_steps.proofs.Keeping.{note-kept}
use Rattle.call_steps.specs.seat_steps.proofs.{Since.{map-err, map-ok}, WithLedger.up-none}
use Rattle.call_steps.specs.session_steps.proofs.Servers.{unknown-due}
use Rattle.core_pages.specs.volap_cell.specs.Values.{ActorValue}
use Rattle.whole_steps.proofs.{Alone.everyone-of, Calling.{due-sole, has-noted}, Paging.not-begun, Turned.turned-self}
use Rattle.whole_steps.specs.Sole.{player}
use Rattle.whole_steps.proofs.calls.note_unknown.Goals as goal

pub add-requires-clause-held : goal.add-requires-clause-held
add-requires-clause-held g c = up-none (player c.args.number c.args.actor.now c.args.seat.now) c.requires.stands.bare

pub add-requires-clause-due : goal.add-requires-clause-due
add-requires-clause-due g c =
    let f = c.args.floor.now in
    let p = player c.args.number c.args.actor.now c.args.seat.now in due-sole f p (note_places (Unknown c.args.dim)) (unknown-due f p c.args.dim c.requires.free)

pub add-requires-clause-sees : goal.add-requires-clause-sees
add-requires-clause-sees g c now turned s w about inv seen = tt

pub add-requires-clause-kept : goal.add-requires-clause-kept
add-requires-clause-kept g c q e = note-kept c.args.floor.now.hierarchy q (Unknown c.args.dim) (ap (λ (a : ActorValue). a.errand) e ∙ c.requires.free.errand)

pub returns-clause-noted : goal.returns-clause-noted
returns-clause-noted g c = map-ok c.add.result (λ has. has-noted c.args.dim c.requires.stands.sole c.requires.free c.requires.seen has) c.add.ensures.made

pub returns-clause-same : goal.returns-clause-same
returns-clause-same g c =
    let f = c.args.floor.now in
    let s = c.args.seat.now in
    map-err c.add.result
    (λ waited. not-begun f c.args.number c.args.actor.now c.add.new.actor s s c.add.new.seat (turned-self s) (everyone-of f (player c.args.number c.args.actor.now s) c.requires.stands.sole) c.requires.seen waited) c.add.ensures.same
