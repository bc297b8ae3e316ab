use Rattle.std.proofs.Common.{◌∙◌, ap, length, List, Option, refl, subst}
use Rattle.std.specs.Prelude.{OnErr, OnOk}
use Rattle.core_pages.specs.volap_cell.specs.{declared.actor.Actor.Actor, declared.state.State.State}
use Rattle.seeded_run.specs.{Hands.AreFreeHands, Kept.{AreIdle, HasBegunAll}, Machine.streams_open, Order.is_order, Phase.{EndsBehindAny, StopsBehindAny, held, phase_from}}
use Rattle.row_ledger.specs.declared.settings.Use.{Use}
use Rattle.seeded_run.proofs.Cursors.FirstCursors.{first-moment}
use Rattle.seeded_run.proofs.phase.run_from.Goals as goal

pub run_whole-ran-requires-clause-first : goal.run_whole-ran-requires-clause-first
run_whole-ran-requires-clause-first c =
    first-moment _ c.args.state.now c.replace.ensures.value c.requires.core c.requires.may_run c.requires.closes c.requires.idle
    c.of-before.ensures c.requires.first (c.streams_open-left.ensures ∙ ap (streams_open (length c.args.phase.now)) c.deref.ensures.value) refl
    (subst (λ (actors : List (Option Actor)). AreFreeHands actors c.first_hands-hands.result) c.deref-2.ensures.value c.first_hands-hands.ensures)

pub returns-clause-idle : goal.returns-clause-idle
returns-clause-idle c =
    let r = c.run_whole-ran.new.running in
    let same = c.run_whole-ran.ensures.same in
    subst (λ (w : Use). OnOk c.run_whole-ran.result (AreIdle (held c.args.h.now w r.state))) same.with
    (subst (λ g. OnOk c.run_whole-ran.result (AreIdle (held g.now r.with r.state))) same.h c.run_whole-ran.ensures.idle)

pub returns-clause-begun : goal.returns-clause-begun
returns-clause-begun c =
    subst (λ (x : State). OnOk c.run_whole-ran.result (HasBegunAll (phase_from c.args.h.now c.args.with.now c.args.phase.now x) (held c.args.h.now c.args.with.now c.run_whole-ran.new.running.state))) c.of-before.ensures c.run_whole-ran.ensures.begun

pub returns-clause-behind : goal.returns-clause-behind
returns-clause-behind c =
    subst (λ (x : State). OnOk c.run_whole-ran.result (EndsBehindAny (is_order c.args.schedule.now) c.args.h.now c.args.with.now c.args.phase.now x c.run_whole-ran.new.running.state)) c.of-before.ensures
    (subst (λ b. OnOk c.run_whole-ran.result (EndsBehindAny b c.args.h.now c.args.with.now c.args.phase.now c.of-before.result.value c.run_whole-ran.new.running.state)) c.is_order-in_order.ensures c.run_whole-ran.ensures.behind)

pub returns-clause-into : goal.returns-clause-into
returns-clause-into c =
    subst (λ (x : State). OnErr c.run_whole-ran.result (StopsBehindAny (is_order c.args.schedule.now) c.args.h.now c.args.with.now c.args.phase.now x c.run_whole-ran.new.running.state)) c.of-before.ensures
    (subst (λ b. OnErr c.run_whole-ran.result (StopsBehindAny b c.args.h.now c.args.with.now c.args.phase.now c.of-before.result.value c.run_whole-ran.new.running.state)) c.is_order-in_order.ensures c.run_whole-ran.ensures.into)
