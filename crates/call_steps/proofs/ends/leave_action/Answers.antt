use Rattle.std.proofs.Common.{◌∙◌, ◌^◌, ◌<◌, ap, refl, subst}
use Rattle.std.specs.Prelude.{is_some}
use Rattle.call_steps.proofs.{CallsDue.leave-due, CallsMade.{has-left, work-at}}
use Rattle.session_steps.specs.core_due.specs.WorksReady.{most_in}
use Rattle.session_steps.specs.core_steps.specs.declared.notes.NoteStep.TheVariants.{Left}
use Rattle.session_steps.specs.part_steps.proofs.Keeping.{note-kept}
use Rattle.session_steps.specs.seat_steps.proofs.{Since.{nothing-told, still-unchanged}, WithLedger.up-none}
use Rattle.session_steps.specs.volap_cell.specs.{Values.ActorValue, declared.command.Work.Work}
use Rattle.session_steps.specs.volap_turns.proofs.Turned.{when-ok}
use Rattle.call_steps.proofs.ends.leave_action.Goals as goal

pub there-requires : goal.there-requires
there-requires g c = ap is_some c.requires.leaves.command

pub make_booked-requires-clause-held : goal.make_booked-requires-clause-held
make_booked-requires-clause-held g c = up-none c.args.player.now (nothing-told c.requires.stands c.requires.leaves.no_part)

pub make_booked-requires-clause-due : goal.make_booked-requires-clause-due
make_booked-requires-clause-due g c =
    let can = c.requires.leaves in
    leave-due c.args.floor.now c.args.player.now can (subst (λ (k : Work). most_in k < 2 ^ 8) (work-at c.args.player.now c.there.result.now can.of _ c.there.ensures can.command) c.tell_bytes.ensures.actions)

pub make_booked-requires-clause-kept : goal.make_booked-requires-clause-kept
make_booked-requires-clause-kept g c q e = note-kept c.args.floor.now.hierarchy q Left (ap (λ (a : ActorValue). a.errand) e ∙ c.requires.leaves.no_part)

pub returns : goal.returns
returns g c =
    let booked = when-ok c.make_booked.result c.make_booked.ensures.booked (c.make_booked.ensures.sure refl) in
    record { left = has-left c.requires.stands.seated (still-unchanged c.args.player.now) c.requires.leaves booked }
