use Rattle.std.proofs.Common.{◌∙◌, ap, refl}
use Rattle.call_steps.specs.core_steps.specs.declared.notes.NoteStep.TheVariants.{Shown}
use Rattle.call_steps.specs.part_steps.proofs.Keeping.{note-kept}
use Rattle.call_steps.specs.seat_steps.proofs.WithLedger.{up-none}
use Rattle.core_pages.specs.volap_cell.specs.Values.{ActorValue}
use Rattle.call_steps.specs.volap_turns.proofs.Turned.{when-ok}
use Rattle.whole_steps.proofs.{Calling.{has-shown, show-due}, Known.sees-page}
use Rattle.whole_steps.specs.Sole.{player}
use Rattle.whole_steps.proofs.calls.show.Goals as goal

pub add-requires-clause-held : goal.add-requires-clause-held
add-requires-clause-held g c = up-none (player c.args.number c.args.actor.now c.args.seat.now) c.requires.stands.bare

pub add-requires-clause-due : goal.add-requires-clause-due
add-requires-clause-due g c = show-due c.args.floor.now (player c.args.number c.args.actor.now c.args.seat.now) c.args.page c.requires.stands.sole c.requires.shows

pub add-requires-clause-sees : goal.add-requires-clause-sees
add-requires-clause-sees g c = sees-page c.args.floor.now (player c.args.number c.args.actor.now c.args.seat.now) c.requires.stands.sole c.requires.shows.knows c.args.page c.requires.shows.page

pub add-requires-clause-kept : goal.add-requires-clause-kept
add-requires-clause-kept g c q e = note-kept c.args.floor.now.hierarchy q (Shown c.args.page) (ap (λ (a : ActorValue). a.errand) e ∙ c.requires.shows.due.no_part)

pub returns : goal.returns
returns g c = record { shown = has-shown c.args.page c.requires.shows.due (when-ok c.add.result c.add.ensures.made (c.add.ensures.sure refl)) }
