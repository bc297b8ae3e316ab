use Rattle.std.proofs.{Common.{◌≡◌, ◌∙◌, ◌+◌, ◌-◌, ◌<◌, ◌≤◌, inl, inr, List, [], ◌∷◌, ◌++◌, None, length, take, drop, sym, ap, subst, arith}, lemmas.List.{length-drop, length-take-le, take_all}}
use Rattle.volap_io.specs.Causes.{Rose}
use Rattle.script_form.specs.declared.script.Command.{Command}
use Rattle.script_run.specs.{Between.IsThrough, Phases.phases, Streams.NoneCloses}
use Rattle.olap_top.specs.{RunSoFar.{HasGone, HasStopped, IsBehind}, Standing.{StandsBehind, StandsWithin, history_of}}
use Rattle.olap_top.proofs.PhaseSteps.{all-taken, at-done, at-fault, at-halt, at-next, at-start, closes-of, first-next, first-taken, may-run, next-of, next-stands, next_phase, of-script, part-of-all, stopped-all, two-takes}
use Rattle.olap_top.proofs.top.run_phases.Goals as goal

pub loop-done-init : goal.loop-done-init
loop-done-init g c = record {
  all_is = c.commands-all.ensures;
  within = omega arith;
  at = at-start c.args.script.now (g.K.Sink.taken c.args.sink.now) (history_of c.args.run.now.engine) c.args.run.now.teller c.requires.start;
  later = omega arith;
  stands = λ wanted stands. stands;
}

pub run_phase-requires-clause-low : goal.run_phase-requires-clause-low
run_phase-requires-clause-low g c =
    let all = c.commands-all.result.now in
    let n = c.loop-done.done in
    let k = c.phase_len.result in
    let rest : k ≤ length c.split_at.result.1.now = c.phase_len.ensures.within in
    let back : length c.split_at.result.1.now ≡ length (drop n all) = ap length c.split_at.ensures.back in
    let most : n ≤ length all = c.loop-done.invariant.within in
    omega (arith, length-drop n all, length-take-le (n + k) all (omega (arith, length-drop n all)))

pub run_phase-requires-clause-closes : goal.run_phase-requires-clause-closes
run_phase-requires-clause-closes g c κs within =
    let back = c.split_at.ensures.back in
    closes-of c.commands-all.result.now c.loop-done.done c.phase_len.result c.phase_len.ensures.some
    (subst (λ (l : List Command). c.phase_len.result ≤ length l) back c.phase_len.ensures.within)
    (subst (λ (l : List Command). NoneCloses (take (c.phase_len.result - 1) l)) back c.phase_len.ensures.closing)

pub run_phase-requires-clause-may : goal.run_phase-requires-clause-may
run_phase-requires-clause-may g c κs within =
    let some = c.requires.stands in
    let at = c.loop-done.invariant.at in (
      some.0,
      at.ps,
      c.loop-done.invariant.stands some.0 some.1,
      may-run c.args.script.now c.commands-all.result.now c.loop-done.done (c.loop-done.done + c.phase_len.result) at.ps (omega arith) c.loop-done-test.true c.loop-done.invariant.all_is c.requires.fits c.requires.dims at.all,
    )

pub run_phase-requires-clause-behind : goal.run_phase-requires-clause-behind
run_phase-requires-clause-behind g c κs within =
    subst (λ (l : List Command). IsBehind c.args.script.now l (history_of c.loop-done.run.engine) c.loop-done.run.teller)
    (sym (two-takes c.args.script.now c.commands-all.result.now c.loop-done.done (c.loop-done.done + c.phase_len.result) (omega arith) c.loop-done.invariant.all_is)) c.loop-done.invariant.at.behind

pub returns-in_default-clause-no_memory : goal.returns-in_default-clause-no_memory
returns-in_default-clause-no_memory g c = λ is wanted telling.
    let s = c.args.script.now in
    let all = c.commands-all.result.now in
    let n = c.loop-done.done in
    let m = n + c.phase_len.result in
    let low : n ≤ m = omega arith in
    let was = history_of c.loop-done.run.engine in
    let now = history_of c.run_phase.new.run.engine in
    let next = next-of s all n c.phase_len.result c.loop-done.invariant.all_is
    (subst (λ (l : List Command). phases l ≡ take c.phase_len.result l ∷ phases (drop c.phase_len.result l)) c.split_at.ensures.back c.phase_len.ensures.phase) in
    at-halt s n m was now next (of-script s all n m (λ done phase. HasStopped s done phase was now) low c.loop-done.invariant.all_is c.in_default.ensures.stopped)
    wanted (g.K.Sink.taken c.args.sink.now) (g.K.Sink.taken c.loop-done.sink) _ c.loop-done.run.teller telling c.loop-done.invariant.at

pub returns-in_default-clause-later : goal.returns-in_default-clause-later
returns-in_default-clause-later g c = c.loop-done.invariant.later

pub returns-in_default-clause-right : goal.returns-in_default-clause-right
returns-in_default-clause-right g c = c.in_default.ensures.stopped.right

pub returns-in_default-clause-part : goal.returns-in_default-clause-part
returns-in_default-clause-part g c =
    let s = c.args.script.now in
    let all = c.commands-all.result.now in
    let n = c.loop-done.done in
    let m = n + c.phase_len.result in
    let low : n ≤ m = omega arith in
    let was = history_of c.loop-done.run.engine in
    let now = history_of c.run_phase.new.run.engine in
    let next = next-of s all n c.phase_len.result c.loop-done.invariant.all_is
    (subst (λ (l : List Command). phases l ≡ take c.phase_len.result l ∷ phases (drop c.phase_len.result l)) c.split_at.ensures.back c.phase_len.ensures.phase) in
    stopped-all s n m was now next (of-script s all n m (λ done phase. HasStopped s done phase was now) low c.loop-done.invariant.all_is c.in_default.ensures.stopped)

pub returns-in_default-clause-left : goal.returns-in_default-clause-left
returns-in_default-clause-left g c = λ wanted stands.
    let s = c.args.script.now in
    let all = c.commands-all.result.now in
    let n = c.loop-done.done in
    let m = n + c.phase_len.result in
    let low : n ≤ m = omega arith in
    let at = c.loop-done.invariant.at in
    let next = next-of s all n c.phase_len.result c.loop-done.invariant.all_is
    (subst (λ (l : List Command). phases l ≡ take c.phase_len.result l ∷ phases (drop c.phase_len.result l)) c.split_at.ensures.back c.phase_len.ensures.phase) in
    let may = may-run s all n m at.ps low c.loop-done-test.true c.loop-done.invariant.all_is c.requires.fits c.requires.dims at.all in
    let within = of-script s all n m (λ done phase. StandsWithin wanted s at.ps phase c.run_phase.new.run.engine) low c.loop-done.invariant.all_is (c.run_phase.ensures.within wanted at.ps (c.loop-done.invariant.stands wanted stands) may) in
    let first = first-taken s at.ps (phases (drop n s.commands)) at.first in
    let here = next-stands s n m at.ps at.first next in (
      length at.ps,
      inr (subst (λ l. StandsWithin wanted s (take (length at.ps) (phases s.commands)) l c.run_phase.new.run.engine) (sym here)
          (subst (λ l. StandsWithin wanted s l (drop n (take m s.commands)) c.run_phase.new.run.engine) first within)),
    )

pub returns-in_default-write_all-clause-write_fault : goal.returns-in_default-write_all-clause-write_fault
returns-in_default-write_all-clause-write_fault g c = λ is.
    let s = c.args.script.now in
    let all = c.commands-all.result.now in
    let n = c.loop-done.done in
    let m = n + c.phase_len.result in
    let low : n ≤ m = omega arith in
    let was = history_of c.loop-done.run.engine in
    let now = history_of c.run_phase.new.run.engine in
    let next = next-of s all n c.phase_len.result c.loop-done.invariant.all_is
    (subst (λ (l : List Command). phases l ≡ take c.phase_len.result l ∷ phases (drop c.phase_len.result l)) c.split_at.ensures.back c.phase_len.ensures.phase) in
    let later : g.K.Sink.faults c.args.sink.now ≤ g.K.Sink.faults c.loop-done.sink = c.loop-done.invariant.later in
    let rose : Rose (g.K.Sink.faults c.loop-done.sink) (g.K.Sink.faults c.write_all.new.sink) = c.in_default-write_all.ensures.cause.failed in
    let risen : Rose (g.K.Sink.faults c.args.sink.now) (g.K.Sink.faults c.write_all.new.sink) = omega arith in
    let part = rw c.deref.ensures.value at c.in_default-write_all.ensures.part in
    let fault = at-fault s n m (g.K.Sink.taken c.args.sink.now) (g.K.Sink.taken c.loop-done.sink) (g.K.Sink.taken c.write_all.new.sink) was now c.loop-done.run.teller c.run_phase.new.run.teller c.in-Ok.text.items next
    (of-script s all n m (λ done phase. HasGone s done phase was now c.loop-done.run.teller c.run_phase.new.run.teller c.in-Ok.text.items) low c.loop-done.invariant.all_is c.in-Ok.ensures.gone)
    (record { count = part.0; part = part.1; took = part.2 }) _ c.loop-done.invariant.at in
    (risen, fault.0, fault.1)

pub returns-in_default-write_all-clause-later : goal.returns-in_default-write_all-clause-later
returns-in_default-write_all-clause-later g c =
    let before : g.K.Sink.faults c.args.sink.now ≤ g.K.Sink.faults c.loop-done.sink = c.loop-done.invariant.later in
    let behind : g.K.Sink.faults c.loop-done.sink ≤ g.K.Sink.faults c.write_all.new.sink = c.in_default-write_all.ensures.cause.later in
    omega arith

pub returns-in_default-write_all-clause-right : goal.returns-in_default-write_all-clause-right
returns-in_default-write_all-clause-right g c = c.in-Ok.ensures.gone.behind.right

pub returns-in_default-write_all-clause-part : goal.returns-in_default-write_all-clause-part
returns-in_default-write_all-clause-part g c =
    let s = c.args.script.now in
    let all = c.commands-all.result.now in
    let n = c.loop-done.done in
    let m = n + c.phase_len.result in
    let low : n ≤ m = omega arith in
    let was = history_of c.loop-done.run.engine in
    let now = history_of c.run_phase.new.run.engine in
    let next = next-of s all n c.phase_len.result c.loop-done.invariant.all_is
    (subst (λ (l : List Command). phases l ≡ take c.phase_len.result l ∷ phases (drop c.phase_len.result l)) c.split_at.ensures.back c.phase_len.ensures.phase) in
    let gone = of-script s all n m (λ done phase. HasGone s done phase was now c.loop-done.run.teller c.run_phase.new.run.teller c.in-Ok.text.items) low c.loop-done.invariant.all_is c.in-Ok.ensures.gone in
    part-of-all s m now (subst (λ l. IsThrough s.with s.hierarchy l now) next.whole gone.behind.through)

pub returns-in_default-write_all-clause-left : goal.returns-in_default-write_all-clause-left
returns-in_default-write_all-clause-left g c = λ wanted stands.
    let s = c.args.script.now in
    let all = c.commands-all.result.now in
    let n = c.loop-done.done in
    let m = n + c.phase_len.result in
    let low : n ≤ m = omega arith in
    let at = c.loop-done.invariant.at in
    let was = history_of c.loop-done.run.engine in
    let now = history_of c.run_phase.new.run.engine in
    let next = next-of s all n c.phase_len.result c.loop-done.invariant.all_is
    (subst (λ (l : List Command). phases l ≡ take c.phase_len.result l ∷ phases (drop c.phase_len.result l)) c.split_at.ensures.back c.phase_len.ensures.phase) in
    let may = may-run s all n m at.ps low c.loop-done-test.true c.loop-done.invariant.all_is c.requires.fits c.requires.dims at.all in
    let behind = of-script s all n m (λ done phase. StandsBehind wanted s (at.ps ++ phase ∷ []) c.run_phase.new.run.engine) low c.loop-done.invariant.all_is (c.in-Ok.ensures.stands wanted at.ps (c.loop-done.invariant.stands wanted stands) may) in
    let first = first-taken s (at.ps ++ next_phase s n m ∷ []) (phases (drop m s.commands)) (first-next s n m at.ps at.first next) in
    (length (at.ps ++ next_phase s n m ∷ []), subst (λ l. StandsBehind wanted s l c.run_phase.new.run.engine) first behind)

pub returns-clause-later : goal.returns-clause-later
returns-clause-later g c = c.loop-done.invariant.later

pub returns-clause-done : goal.returns-clause-done
returns-clause-done g c = λ is.
    at-done c.args.script.now c.loop-done.done (g.K.Sink.taken c.args.sink.now) (g.K.Sink.taken c.loop-done.sink) _ (history_of c.loop-done.run.engine) c.loop-done.run.teller
    (subst (λ (l : List Command). length l ≤ c.loop-done.done) c.loop-done.invariant.all_is c.loop-done-test.false) c.loop-done.invariant.at

pub returns-clause-through : goal.returns-clause-through
returns-clause-through g c = λ is.
    let s = c.args.script.now in
    let past = subst (λ (l : List Command). length l ≤ c.loop-done.done) c.loop-done.invariant.all_is c.loop-done-test.false in
    subst (λ l. IsThrough s.with s.hierarchy l (history_of c.loop-done.run.engine)) (take_all c.loop-done.done s.commands past) c.loop-done.invariant.at.behind.through

pub returns-clause-right : goal.returns-clause-right
returns-clause-right g c = c.loop-done.invariant.at.behind.right

pub returns-clause-part : goal.returns-clause-part
returns-clause-part g c = part-of-all c.args.script.now c.loop-done.done (history_of c.loop-done.run.engine) c.loop-done.invariant.at.behind.through

pub returns-clause-left : goal.returns-clause-left
returns-clause-left g c = λ wanted stands.
    let s = c.args.script.now in
    let at = c.loop-done.invariant.at in
    let past = subst (λ (l : List Command). length l ≤ c.loop-done.done) c.loop-done.invariant.all_is c.loop-done-test.false in
    subst (λ l. StandsBehind wanted s l c.loop-done.run.engine) (all-taken s c.loop-done.done at.ps at.first past) (c.loop-done.invariant.stands wanted stands)

pub loop-done-preserved : goal.loop-done-preserved
loop-done-preserved g c =
    let s = c.args.script.now in
    let all = c.commands-all.result.now in
    let n = c.loop-done.done in
    let k = c.phase_len.result in
    let m = n + k in
    let low : n ≤ m = omega arith in
    let at = c.loop-done.invariant.at in
    let was = history_of c.loop-done.run.engine in
    let now = history_of c.run_phase.new.run.engine in
    let next = next-of s all n k c.loop-done.invariant.all_is
    (subst (λ (l : List Command). phases l ≡ take c.phase_len.result l ∷ phases (drop c.phase_len.result l)) c.split_at.ensures.back c.phase_len.ensures.phase) in
    let before : g.K.Sink.faults c.args.sink.now ≤ g.K.Sink.faults c.loop-done.sink = c.loop-done.invariant.later in
    let behind : g.K.Sink.faults c.loop-done.sink ≤ g.K.Sink.faults c.write_all.new.sink = c.write_all.ensures.cause.later in
    let may = may-run s all n m at.ps low c.loop-done-test.true c.loop-done.invariant.all_is c.requires.fits c.requires.dims at.all in
    record {
      all_is = c.loop-done.invariant.all_is;
      within =
          let rest : k ≤ length c.split_at.result.1.now = c.phase_len.ensures.within in
          let back : length c.split_at.result.1.now ≡ length (drop n all) = ap length c.split_at.ensures.back in
          let most : n ≤ length all = c.loop-done.invariant.within in
          omega (arith, length-drop n all);
      at = at-next s n m (g.K.Sink.taken c.args.sink.now) (g.K.Sink.taken c.loop-done.sink) (g.K.Sink.taken c.write_all.new.sink) _ was now c.loop-done.run.teller c.run_phase.new.run.teller c.in-Ok.text.items next at
          (of-script s all n m (λ done phase. HasGone s done phase was now c.loop-done.run.teller c.run_phase.new.run.teller c.in-Ok.text.items) low c.loop-done.invariant.all_is c.in-Ok.ensures.gone)
          (rw c.deref.ensures.value at c.in-Ok-write_all.ensures.all);
      later = omega arith;
      stands = λ wanted stands.
          of-script s all n m (λ done phase. StandsBehind wanted s (at.ps ++ phase ∷ []) c.run_phase.new.run.engine) low c.loop-done.invariant.all_is
          (c.in-Ok.ensures.stands wanted at.ps (c.loop-done.invariant.stands wanted stands) may);
    }
