use Rattle.std.proofs.Common.{◌∙◌, ℕ, [], ◌∷◌, sym, subst}
use Rattle.std.specs.Prelude.{OnErr, OnOk}
use Rattle.hall_hands.specs.actor_run.specs.Wholes.{AddsNothing, AreToldBy, EndsIn}
use Rattle.row_ledger.specs.declared.{event.Event.TheVariants.Ended, settings.{Call.TheVariants.Barrier, How.TheVariants.Fine}}
use Rattle.script_form.specs.declared.script.Command.TheVariants.{Control}
use Rattle.session_runs.specs.Sessions.{BeginsNothing, EachDoes}
use Rattle.threaded_run.proofs.WholeCalls.{all-nothing, barrier-done, map-err, map-ok, page-done, settle-done}
use Rattle.hall_hands.specs.whole_steps.specs.declared.tells.Paged.{Paged}
use Rattle.threaded_run.proofs.closing.close_by_call.Goals.{in-NotBegun-told, in_default-told}
use Rattle.threaded_run.proofs.closing.close_by_call.Goals as goal

pub returns-in-Bare-clause-done : goal.returns-in-Bare-clause-done
returns-in-Bare-clause-done g c =
    let f = c.args.hall.now in
    let was = c.args.passes.now in
    let now = c.barrier.new.passes in
    map-ok (EndsIn Barrier (λ of. Ended of Fine ∷ []) was now) (EachDoes f.with f.hierarchy (Control c.args.call.now ∷ []) was.seen now.seen) c.barrier.result
    (barrier-done f was now c.requires.phased c.barrier.ensures.on c.args.call.now (sym c.class.ensures ∙ c.in-Bare.is)) c.barrier.ensures.done

pub returns-in-Bare-clause-none : goal.returns-in-Bare-clause-none
returns-in-Bare-clause-none g c =
    let was = c.args.passes.now in
    let now = c.barrier.new.passes in
    map-err (AddsNothing was now) ((session : ℕ) → BeginsNothing session was.seen now.seen) c.barrier.result
    (all-nothing c.args.hall.now was now c.requires.phased c.barrier.ensures.on) c.barrier.ensures.none

pub returns-in-NotBegun-clause-none : goal.returns-in-NotBegun-clause-none
returns-in-NotBegun-clause-none g c = all-nothing c.args.hall.now c.args.passes.now c.settled.new.passes c.requires.phased c.settled.ensures.on c.in-NotBegun.ensures.settled

pub returns-in_default-settled-clause-done : goal.returns-in_default-settled-clause-done
returns-in_default-settled-clause-done g c =
    settle-done c.args.hall.now c.args.passes.now c.settled.new.passes c.requires.phased c.settled.ensures.on c.args.call.now (sym c.class.ensures ∙ c.in-Settle.is)
    c.settled.result c.in_default-settled.not-NotBegun c.settled.ensures.settled

pub returns-after-told-clause-done : goal.returns-after-told-clause-done
returns-after-told-clause-done g c =
    let f = c.args.hall.now in
    let was = c.args.passes.now in
    let now = c.told.new.passes in
    let call = c.args.call.now in
    elim c.match-told.branch [
      | in-NotBegun-told w ↦ subst (λ r. OnOk r (EachDoes f.with f.hierarchy (Control call ∷ []) was.seen now.seen)) (sym w.result-is) tt
      | in_default-told w ↦ subst (λ r. OnOk r (EachDoes f.with f.hierarchy (Control call ∷ []) was.seen now.seen)) (sym w.result-is)
          (page-done f was now c.requires.phased c.told.ensures.on call c.in-Page.field-0 (sym c.class.ensures ∙ c.in-Page.is) c.told.result w.in_default-told.not-NotBegun c.told.ensures.told)
    ]

pub returns-after-told-clause-none : goal.returns-after-told-clause-none
returns-after-told-clause-none g c =
    let f = c.args.hall.now in
    let was = c.args.passes.now in
    let now = c.told.new.passes in
    let call = c.args.call.now in
    elim c.match-told.branch [
      | in-NotBegun-told w ↦ subst (λ r. OnErr r ((session : ℕ) → BeginsNothing session was.seen now.seen)) (sym w.result-is)
          (all-nothing f was now c.requires.phased c.told.ensures.on (subst (λ (r : Paged). AreToldBy f call r was now) w.in-NotBegun-told.is c.told.ensures.told))
      | in_default-told w ↦ subst (λ r. OnErr r ((session : ℕ) → BeginsNothing session was.seen now.seen)) (sym w.result-is) tt
    ]
