use Rattle.std.proofs.Common.{Option, Some, sym, subst}
use Rattle.core_steps.proofs.Quiet.{noted-ends}
use Rattle.core_steps.specs.{Notes.{note_asks, note_tells}, Places.{held, values}, declared.notes.NoteStep.NoteStep}
use Rattle.core_steps.specs.declared.notes.NoteStep.TheVariants as note
use Rattle.core_shard.specs.volap_cell.specs.{Values.actor_of, declared.cell.Cell.Cell}
use Rattle.core_steps.proofs.notes.NoteStepCellStep.run.Goals as goal

pub returns-in-Ended-clause-told : goal.returns-in-Ended-clause-told
returns-in-Ended-clause-told c =
    subst (λ (step : NoteStep). note_tells step (actor_of c.args.actor.now) (values (held c.args.first.now c.args.second.now c.args._others.now)) (values (held (Some c.note_ended.new.ledger) c.args.second.now c.args._others.now))) (sym c.in-Ended.is)
    (subst (λ (o : Option Cell). note_tells (note.Ended c.in-Ended.how) (actor_of c.args.actor.now) (values (held o c.args.second.now c.args._others.now)) (values (held (Some c.note_ended.new.ledger) c.args.second.now c.args._others.now)))
    (sym c.lent-in-Ended.ensures.value) c.note_ended.ensures.told)

pub returns-in-Left-clause-told : goal.returns-in-Left-clause-told
returns-in-Left-clause-told c =
    let x = c.lent-in-Left.result.now in
    let value = c.lent-in-Left.ensures.value in
    let can = subst (λ (step : NoteStep). note_asks step c.args.h.now (values (held (Some x) c.args.second.now c.args._others.now)) (actor_of c.args.actor.now)) c.in-Left.is
    (subst (λ (o : Option Cell). note_asks c.args.self c.args.h.now (values (held o c.args.second.now c.args._others.now)) (actor_of c.args.actor.now)) value c.requires.asked) in
    let told = noted-ends can.command can.ledger_is c.note_left.ensures.made.does in
    subst (λ (step : NoteStep). note_tells step (actor_of c.args.actor.now) (values (held c.args.first.now c.args.second.now c.args._others.now)) (values (held (Some c.note_left.new.ledger) c.args.second.now c.args._others.now))) (sym c.in-Left.is)
    (subst (λ (o : Option Cell). note_tells note.Left (actor_of c.args.actor.now) (values (held o c.args.second.now c.args._others.now)) (values (held (Some c.note_left.new.ledger) c.args.second.now c.args._others.now))) (sym value) told)
