use Rattle.std.proofs.Common.{◌∙◌, ap}
use Rattle.call_steps.proofs.CallsDue.{called-asked, ledger-due}
use Rattle.call_steps.specs.core_steps.specs.{Notes.note_asks, Places.one_at}
use Rattle.call_steps.specs.core_steps.specs.declared.notes.NoteStep.TheVariants.{Called}
use Rattle.call_steps.specs.part_steps.proofs.Keeping.{note-kept}
use Rattle.call_steps.specs.seat_steps.proofs.{HeldLedger.tells-held, Since.map-ok, WithLedger.up-none}
use Rattle.core_pages.specs.volap_cell.specs.{Setting.ledger_cell, Values.ActorValue}
use Rattle.whole_steps.proofs.Calling.{alone-called, due-sole}
use Rattle.whole_steps.specs.Sole.{player}
use Rattle.whole_steps.proofs.calls.begin_alone.Goals as goal

pub add-requires-clause-held : goal.add-requires-clause-held
add-requires-clause-held g c = up-none (player c.args.number c.args.actor.now c.args.seat.now) c.requires.stands.bare

pub add-requires-clause-due : goal.add-requires-clause-due
add-requires-clause-due g c =
    let f = c.args.floor.now in
    let p = player c.args.number c.args.actor.now c.args.seat.now in
    due-sole f p (one_at ledger_cell) (ledger-due f p (note_asks (Called c.args.call)) (λ s w is. called-asked f p c.args.call.now c.requires.begins s w is c.requires.alone))

pub add-requires-clause-sees : goal.add-requires-clause-sees
add-requires-clause-sees g c now turned s w about inv seen = tt

pub add-requires-clause-kept : goal.add-requires-clause-kept
add-requires-clause-kept g c q e = note-kept c.args.floor.now.hierarchy q (Called c.args.call) (ap (λ (a : ActorValue). a.errand) e ∙ c.requires.begins.free.errand)

pub returns-clause-begun : goal.returns-clause-begun
returns-clause-begun g c = map-ok c.add.result (λ has. alone-called c.requires.stands.sole c.args.call.now c.requires.begins has (tells-held has.made has.at)) c.add.ensures.made
