use Rattle.std.proofs.Common.{◌∙◌, ap, subst, sym}
use Rattle.std.specs.Prelude.{is_some}
use Rattle.call_steps.proofs.{CallsDue.{called-asked, ledger-due}, CallsMade.{alone-begun, begun-at}}
use Rattle.call_steps.specs.Calls.{HasCalled}
use Rattle.session_steps.specs.core_steps.specs.Notes.{note_asks}
use Rattle.session_steps.specs.core_steps.specs.declared.notes.NoteStep.TheVariants.{Called}
use Rattle.session_steps.specs.part_steps.proofs.Keeping.{note-kept}
use Rattle.session_steps.specs.seat_steps.proofs.{HeldLedger.tells-held, Since.{nothing-told, still-unchanged}, WithLedger.up-none}
use Rattle.session_steps.specs.volap_cell.specs.Values.{ActorValue}
use Rattle.call_steps.proofs.calls.begin_alone.Goals as goal

pub make_booked-requires-clause-held : goal.make_booked-requires-clause-held
make_booked-requires-clause-held g c = up-none c.args.player.now (nothing-told c.requires.stands c.requires.begins.free.errand)

pub make_booked-requires-clause-due : goal.make_booked-requires-clause-due
make_booked-requires-clause-due g c =
    ledger-due c.args.floor.now c.args.player.now (note_asks (Called c.args.call)) (λ s w is. called-asked c.args.floor.now c.args.player.now c.args.call.now c.requires.begins s w is c.requires.alone)

pub make_booked-requires-clause-kept : goal.make_booked-requires-clause-kept
make_booked-requires-clause-kept g c q e = note-kept c.args.floor.now.hierarchy q (Called c.args.call) (ap (λ (a : ActorValue). a.errand) e ∙ c.requires.begins.free.errand)

pub there-requires : goal.there-requires
there-requires g c =
    let booked = c.in_ok-make_booked.ensures.booked in
    ap (λ (a : ActorValue). is_some a.command) (alone-begun c.requires.stands.seated (still-unchanged c.args.player.now) c.args.call.now c.requires.begins booked (tells-held booked.made booked.at)).actor

pub returns-clause-begun : goal.returns-clause-begun
returns-clause-begun g c =
    let booked = c.in_ok-make_booked.ensures.booked in
    let begun = alone-begun c.requires.stands.seated (still-unchanged c.args.player.now) c.args.call.now c.requires.begins booked (tells-held booked.made booked.at) in
    subst (λ n. HasCalled c.args.floor.now n c.args.call.now c.args.player.now c.make_booked.new.player) (sym (begun-at begun c.there.result.now c.there.ensures)) begun
