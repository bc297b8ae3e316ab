use Rattle.std.proofs.Common.{◌∙◌, ℕ, List, [], ◌∷◌, Some, ap, arith, subst, sym}
use Rattle.std.specs.Prelude.{is_some}
use Rattle.call_steps.proofs.{CallsDue.{asking-asked, both-due, registry-within}, CallsMade.{asking-begun, begun-at}}
use Rattle.call_steps.specs.Calls.{HasCalled}
use Rattle.session_steps.specs.core_steps.specs.{Notes.note_asks, Places.two_at}
use Rattle.session_steps.specs.core_steps.specs.declared.notes.NoteStep.TheVariants.{Asking}
use Rattle.session_steps.specs.part_steps.proofs.Keeping.{note-kept}
use Rattle.session_steps.specs.seat_steps.proofs.{HeldLedger.tells-held, Since.{as-before, as-err, before-unchanged, nothing-held, unchanged, unchanged-on}, WithLedger.{due-still, up-one}}
use Rattle.turn_table.specs.Numbered.{value_of}
use Rattle.session_steps.specs.volap_cell.specs.{Setting.{ledger_cell, registry_cell}, Values.ActorValue, declared.cell.Cell.Cell}
use Rattle.call_steps.proofs.calls.begin_asking.Goals as goal

pub take_first-requires-clause-cell : goal.take_first-requires-clause-cell
take_first-requires-clause-cell g c = registry-within c.args.floor.now c.args.player.now c.requires.stands.seated c.registry_place.result c.registry_place.ensures

pub make_booked-requires-clause-held : goal.make_booked-requires-clause-held
make_booked-requires-clause-held g c = up-one c.take_first.new.player registry_cell 6 (omega arith) (c.take_first.ensures.ranks ∙ (λ k. (c.registry_place.ensures k, Some 6) ∷ []))

pub make_booked-requires-clause-due : goal.make_booked-requires-clause-due
make_booked-requires-clause-due g c =
    let f = c.args.floor.now in
    let p = c.args.player.now in
    due-still f (two_at registry_cell ledger_cell) c.take_first.ensures.took
    (ap (λ (l : List (ℕ × Cell)). value_of l ledger_cell) (nothing-held c.requires.stands c.requires.begins.free.errand))
    (both-due f p (note_asks (Asking c.args.call f.with.workers)) (λ s w is. asking-asked f p c.args.call.now c.requires.begins s w is c.requires.asks))

pub make_booked-requires-clause-kept : goal.make_booked-requires-clause-kept
make_booked-requires-clause-kept g c q e =
    note-kept c.args.floor.now.hierarchy q (Asking c.args.call c.args.floor.now.with.workers) (ap (λ (a : ActorValue). a.errand) (e ∙ (unchanged c.take_first.ensures.took.same).actor) ∙ c.requires.begins.free.errand)

pub there-requires : goal.there-requires
there-requires g c =
    let booked = c.in_ok-make_booked.ensures.booked in
    ap (λ (a : ActorValue). is_some a.command) (asking-begun c.requires.stands.seated (unchanged c.take_first.ensures.took.same) c.args.call.now c.requires.begins booked (tells-held booked.made booked.at)).actor

pub returns-clause-begun : goal.returns-clause-begun
returns-clause-begun g c =
    let booked = c.in_ok-make_booked.ensures.booked in
    let begun = asking-begun c.requires.stands.seated (unchanged c.take_first.ensures.took.same) c.args.call.now c.requires.begins booked (tells-held booked.made booked.at) in
    subst (λ n. HasCalled c.args.floor.now n c.args.call.now c.args.player.now c.make_booked.new.player) (sym (begun-at begun c.there.result.now c.there.ensures)) begun

pub returns-in_err-make_booked-clause-same : goal.returns-in_err-make_booked-clause-same
returns-in_err-make_booked-clause-same g c =
    let same = c.in_err-make_booked.ensures.same in
    as-err c.from_residual.result (as-before c.args.floor.now same.stands (unchanged-on (unchanged c.take_first.ensures.took.same) (before-unchanged same)))
