use Rattle.std.proofs.{Common.{◌≡◌, ◌∙◌, ◌+◌, ◌-◌, ◌≤◌, List, length, take, sym, refl, subst, arith}, lemmas.List.{length-take-le, take-take, take_all}}
use Rattle.script_form.specs.declared.script.Command.{Command}
use Rattle.script_run.specs.Streams.{NoneCloses}
use Rattle.library_runs.specs.seeded_run.specs.{Kept.IsBetween, Order.is_order, Phase.{about, held}}
use Rattle.library_runs.specs.script_roles.proofs.Roles.{can-open}
use Rattle.run_tests.proofs.MayRun.{ends-within, may-take}
use Rattle.run_tests.proofs.runs.run_all.Goals as goal
use Rattle.library_runs.specs.olap_top.proofs.PhaseSteps.{closes-of}

pub open_core-requires : goal.open_core-requires
open_core-requires c = can-open c.args.script.now.hierarchy c.args.script.now.with c.requires.settings c.dims-dims.ensures.valid

pub run_next-requires-clause-may_run : goal.run_next-requires-clause-may_run
run_next-requires-clause-may_run c = may-take c.args.script.now.hierarchy c.args.script.now.with c.args.commands.now (c.loop-done.done + c.phase_len.result) c.requires.may_run

pub run_next-requires-clause-closes : goal.run_next-requires-clause-closes
run_next-requires-clause-closes c =
    let back = c.split_at.ensures.back in
    closes-of c.args.commands.now c.loop-done.done c.phase_len.result c.phase_len.ensures.some
    (subst (λ (l : List Command). c.phase_len.result ≤ length l) back c.phase_len.ensures.within)
    (subst (λ (l : List Command). NoneCloses (take (c.phase_len.result - 1) l)) back c.phase_len.ensures.closing)

pub loop-done-init : goal.loop-done-init
loop-done-init c = record {
  within = omega arith;
  core = c.in_ok-state.ensures.core;
  order = refl;
  between = c.in_ok-state.ensures.between (is_order c.args.schedule.now);
}

pub run_next-requires-clause-within : goal.run_next-requires-clause-within
run_next-requires-clause-within c =
    let all = c.args.commands.now in
    let n = c.loop-done.done in
    let k = c.phase_len.result in
    let count : length (take (n + k) all) ≡ n + k = length-take-le (n + k) all (ends-within all c.split_at.result.1.now n k c.loop-done.invariant.within c.split_at.ensures.back c.phase_len.ensures.within) in
    omega (arith, count)

pub run_next-requires-clause-between : goal.run_next-requires-clause-between
run_next-requires-clause-between c =
    let s = c.args.script.now in
    let x = c.loop-done.state in
    let n = c.loop-done.done in
    let low : n ≤ n + c.phase_len.result = omega arith in
    subst (λ (l : List Command). IsBetween (is_order c.loop-done.schedule) (about s.hierarchy s.with x) s.with l (held s.hierarchy s.with x)) (sym (take-take n (n + c.phase_len.result) c.args.commands.now low))
    (subst (λ b. IsBetween b (about s.hierarchy s.with x) s.with (take n c.args.commands.now) (held s.hierarchy s.with x)) (sym c.loop-done.invariant.order) c.loop-done.invariant.between)

pub loop-done-preserved : goal.loop-done-preserved
loop-done-preserved c =
    let s = c.args.script.now in
    let x = c.run_next.new.state in
    let n = c.loop-done.done in
    let k = c.phase_len.result in
    record {
      within = ends-within c.args.commands.now c.split_at.result.1.now n k c.loop-done.invariant.within c.split_at.ensures.back c.phase_len.ensures.within;
      core = c.run_next.ensures.core;
      order = c.run_next.ensures.order ∙ c.loop-done.invariant.order;
      between = subst (λ b. IsBetween b (about s.hierarchy s.with x) s.with (take (n + k) c.args.commands.now) (held s.hierarchy s.with x)) c.loop-done.invariant.order c.in_ok-run_next.ensures.between;
    }

pub returns-clause-between : goal.returns-clause-between
returns-clause-between c =
    let s = c.args.script.now in
    let x = c.loop-done.state in
    let past : length c.args.commands.now ≤ c.loop-done.done = omega (arith, c.loop-done-test.false) in
    subst (λ (l : List Command). IsBetween (is_order c.args.schedule.now) (about s.hierarchy s.with x) s.with l (held s.hierarchy s.with x)) (take_all c.loop-done.done c.args.commands.now past) c.loop-done.invariant.between
