use Rattle.std.proofs.Common.{◌∙◌, ap, refl, subst, sym}
use Rattle.core_due.specs.WorksReady.{MayMakeNote}
use Rattle.core_due.specs.core_steps.specs.{Notes.{note_asks, note_places, note_tells}, Steps.IsTold, declared.notes.NoteStep.NoteStep}
use Rattle.core_due.specs.core_steps.specs.declared.notes.NoteStep.TheVariants.{Asking, Called}
use Rattle.script_form.specs.declared.script.Command.TheVariants.{Control}
use Rattle.core_pages.specs.volap_cell.specs.ImageKinds.{asks_registry}
use Rattle.core_pages.specs.volap_cell.proofs.Outcomes.{on-ok}
use Rattle.seeded_run.proofs.{Ready.BeginsReady.{asking-asked, begun-call, called-asked, noting, noting-both}, States.core-sound}
use Rattle.seeded_run.proofs.beginnings.begin_call.Goals as goal
use Rattle.seeded_run.proofs.beginnings.begin_call.Goals.{then-asks_registry, else-asks_registry}

pub make-requires-clause-sound : goal.make-requires-clause-sound
make-requires-clause-sound c = core-sound c.args.h.now c.args.with.now c.args.state.now c.requires.core

pub make-requires-clause-may : goal.make-requires-clause-may
make-requires-clause-may c =
    let h = c.args.h.now in
    let with = c.args.with.now in
    let state = c.args.state.now in
    let n = c.args.number in
    let called = c.args.called.now in
    let asks = ap asks_registry (sym c.class.ensures) ∙ sym c.asks_registry.ensures in
    elim c.if-asks_registry.branch [
      | then-asks_registry w ↦ subst (MayMakeNote h state n) (sym w.step-is)
          (noting-both h with state c.requires.core n (Control called) c.requires.begins (note_asks (Asking c.args.called with.workers)) (asking-asked h with state c.requires.core n called c.requires.begins (asks ∙ w.if-asks_registry.true)))
      | else-asks_registry w ↦ subst (MayMakeNote h state n) (sym w.step-is)
          (noting h with state c.requires.core n (Control called) c.requires.begins (note_asks (Called c.args.called)) (called-asked h with state c.requires.core n called c.requires.begins (asks ∙ w.if-asks_registry.false)))
    ]

pub returns-clause-begun : goal.returns-clause-begun
returns-clause-begun c =
    let h = c.args.h.now in
    let with = c.args.with.now in
    let state = c.args.state.now in
    let n = c.args.number in
    let called = c.args.called.now in
    let now = c.make.new.state in
    on-ok c.make.result c.make.ensures.told (λ told. elim c.if-asks_registry.branch [
      | then-asks_registry w ↦ begun-call h with state c.requires.core n (Control called) c.requires.begins now called refl (subst (λ (step : NoteStep). IsTold state now n (note_places step) (note_tells step)) w.step-is told)
      | else-asks_registry w ↦ begun-call h with state c.requires.core n (Control called) c.requires.begins now called refl (subst (λ (step : NoteStep). IsTold state now n (note_places step) (note_tells step)) w.step-is told)
    ])
