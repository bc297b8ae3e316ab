use Rattle.std.proofs.{Common.{◌≡◌, ◌∙◌, ◌≤◌, [], sym, ap, subst, arith}, lemmas.Bool.{false≢true}}
use Rattle.std.specs.{Io.KnownBytes.Appends, Prelude.is_some}
use Rattle.answer_text.specs.Summary.{summary}
use Rattle.script_run.specs.Phases.{phases}
use Rattle.volap_io.specs.Causes.{Rose}
use Rattle.olap_top.specs.{Outcomes.{RanInto, RanTo, asked_text}, RunSoFar.{HasLeft, tells_phases}, Standing.{StandsBehind, StandsWithin, history_of}, declared.outcome.Status.Status, declared.wanted.Wanted.Wanted}
use Rattle.olap_top.proofs.{Ended.{left-kinds, part-read, ran-read}, Ends.only-done, PhaseSteps.Appends-more, Summaries.{part-behind, ran-all, wrote-none}}
use Rattle.olap_top.proofs.top.run_wanted.Goals as goal

pub write_summary-requires : goal.write_summary-requires
write_summary-requires g c =
    let s = c.args.script.now in
    let status = c.run_phases-status in
    let ended = only-done status.result status.ensures.kinds (λ other. false≢true (sym c.if-ne.false ∙ (rw other at c.ne.ensures))) (λ other. false≢true (sym c.if-ne.false ∙ (rw other at c.ne.ensures))) in
    let stands = subst (λ (t : Status). HasLeft s t (λ ps. StandsBehind c.args.wanted s ps status.new.run.engine) (λ ps phase. StandsWithin c.args.wanted s ps phase status.new.run.engine)) ended (status.ensures.left c.args.wanted c.requires.stands) in
    record { stands = (c.args.wanted, phases s.commands, stands) }

pub returns-in-Load-clause-no_memory : goal.returns-in-Load-clause-no_memory
returns-in-Load-clause-no_memory g c = λ is.
    let s = c.args.script.now in
    let status = c.run_phases-status in
    let ended = only-done status.result status.ensures.kinds (λ other. false≢true (sym c.if-ne.false ∙ (rw other at c.ne.ensures))) (λ other. false≢true (sym c.if-ne.false ∙ (rw other at c.ne.ensures))) in
    let stands = subst (λ (t : Status). HasLeft s t (λ ps. StandsBehind c.args.wanted s ps status.new.run.engine) (λ ps phase. StandsWithin c.args.wanted s ps phase status.new.run.engine)) ended (status.ensures.left c.args.wanted c.requires.stands) in
    let read = c.write_summary.ensures.kept c.args.wanted (phases s.commands) stands in
    let ran = ran-read s (history_of status.new.run.engine) (history_of c.write_summary.new.run.engine) _ (status.ensures.through ended) read in
    let before = g.K.Sink.taken c.args.sink.now in
    let none = wrote-none c.in-Load.rows c.in-Load.seed c.in-Load.threads s before (g.K.Sink.taken status.new.sink) (history_of status.new.run.engine) (is_some c.args.run.now.teller) (c.requires.tells ∙ ap tells_phases c.in-Load.is) (status.ensures.done ended).1 in
    let now = history_of c.write_summary.new.run.engine in
    subst (λ (w : Wanted). RanInto w s before (g.K.Sink.taken c.write_summary.new.sink) now) (sym c.in-Load.is)
    (ran-all c.in-Load.rows c.in-Load.seed c.in-Load.threads s before (g.K.Sink.taken c.write_summary.new.sink) now ran (subst (λ k. Appends before (g.K.Sink.taken k) []) (sym (c.write_summary.ensures.no_memory is)) none))

pub returns-in-Load-clause-write_fault : goal.returns-in-Load-clause-write_fault
returns-in-Load-clause-write_fault g c = λ is.
    let s = c.args.script.now in
    let status = c.run_phases-status in
    let ended = only-done status.result status.ensures.kinds (λ other. false≢true (sym c.if-ne.false ∙ (rw other at c.ne.ensures))) (λ other. false≢true (sym c.if-ne.false ∙ (rw other at c.ne.ensures))) in
    let stands = subst (λ (t : Status). HasLeft s t (λ ps. StandsBehind c.args.wanted s ps status.new.run.engine) (λ ps phase. StandsWithin c.args.wanted s ps phase status.new.run.engine)) ended (status.ensures.left c.args.wanted c.requires.stands) in
    let read = c.write_summary.ensures.kept c.args.wanted (phases s.commands) stands in
    let ran = ran-read s (history_of status.new.run.engine) (history_of c.write_summary.new.run.engine) _ (status.ensures.through ended) read in
    let before = g.K.Sink.taken c.args.sink.now in
    let none = wrote-none c.in-Load.rows c.in-Load.seed c.in-Load.threads s before (g.K.Sink.taken status.new.sink) (history_of status.new.run.engine) (is_some c.args.run.now.teller) (c.requires.tells ∙ ap tells_phases c.in-Load.is) (status.ensures.done ended).1 in
    let now = history_of c.write_summary.new.run.engine in
    let fault = c.write_summary.ensures.write_fault is in
    let later : g.K.Sink.faults c.args.sink.now ≤ g.K.Sink.faults status.new.sink = status.ensures.later in
    let rose : Rose (g.K.Sink.faults status.new.sink) (g.K.Sink.faults c.write_summary.new.sink) = fault.0 in
    let risen : Rose (g.K.Sink.faults c.args.sink.now) (g.K.Sink.faults c.write_summary.new.sink) = omega arith in (
      risen,
      subst (λ (w : Wanted). RanTo w s before (g.K.Sink.taken c.write_summary.new.sink) now) (sym c.in-Load.is) (record {
        ran = ran;
        took = part-behind before (g.K.Sink.taken status.new.sink) (g.K.Sink.taken c.write_summary.new.sink) (summary c.in-Load.rows c.in-Load.seed s.with s.commands now) none fault.1;
      }),
    )

pub returns-in-Load-clause-done : goal.returns-in-Load-clause-done
returns-in-Load-clause-done g c = λ is.
    let s = c.args.script.now in
    let status = c.run_phases-status in
    let ended = only-done status.result status.ensures.kinds (λ other. false≢true (sym c.if-ne.false ∙ (rw other at c.ne.ensures))) (λ other. false≢true (sym c.if-ne.false ∙ (rw other at c.ne.ensures))) in
    let stands = subst (λ (t : Status). HasLeft s t (λ ps. StandsBehind c.args.wanted s ps status.new.run.engine) (λ ps phase. StandsWithin c.args.wanted s ps phase status.new.run.engine)) ended (status.ensures.left c.args.wanted c.requires.stands) in
    let read = c.write_summary.ensures.kept c.args.wanted (phases s.commands) stands in
    let ran = ran-read s (history_of status.new.run.engine) (history_of c.write_summary.new.run.engine) _ (status.ensures.through ended) read in
    let before = g.K.Sink.taken c.args.sink.now in
    let none = wrote-none c.in-Load.rows c.in-Load.seed c.in-Load.threads s before (g.K.Sink.taken status.new.sink) (history_of status.new.run.engine) (is_some c.args.run.now.teller) (c.requires.tells ∙ ap tells_phases c.in-Load.is) (status.ensures.done ended).1 in
    let now = history_of c.write_summary.new.run.engine in (
      ran,
      subst (λ (w : Wanted). Appends before (g.K.Sink.taken c.write_summary.new.sink) (asked_text w s now)) (sym c.in-Load.is)
          (Appends-more before (g.K.Sink.taken status.new.sink) (g.K.Sink.taken c.write_summary.new.sink) [] (summary c.in-Load.rows c.in-Load.seed s.with s.commands now) none (c.write_summary.ensures.done is)),
    )

pub returns-in-Load-clause-right : goal.returns-in-Load-clause-right
returns-in-Load-clause-right g c =
    let s = c.args.script.now in
    let status = c.run_phases-status in
    let ended = only-done status.result status.ensures.kinds (λ other. false≢true (sym c.if-ne.false ∙ (rw other at c.ne.ensures))) (λ other. false≢true (sym c.if-ne.false ∙ (rw other at c.ne.ensures))) in
    let stands = subst (λ (t : Status). HasLeft s t (λ ps. StandsBehind c.args.wanted s ps status.new.run.engine) (λ ps phase. StandsWithin c.args.wanted s ps phase status.new.run.engine)) ended (status.ensures.left c.args.wanted c.requires.stands) in
    (c.write_summary.ensures.kept c.args.wanted (phases s.commands) stands).right

pub returns-in-Load-clause-part : goal.returns-in-Load-clause-part
returns-in-Load-clause-part g c =
    let s = c.args.script.now in
    let status = c.run_phases-status in
    let ended = only-done status.result status.ensures.kinds (λ other. false≢true (sym c.if-ne.false ∙ (rw other at c.ne.ensures))) (λ other. false≢true (sym c.if-ne.false ∙ (rw other at c.ne.ensures))) in
    let stands = subst (λ (t : Status). HasLeft s t (λ ps. StandsBehind c.args.wanted s ps status.new.run.engine) (λ ps phase. StandsWithin c.args.wanted s ps phase status.new.run.engine)) ended (status.ensures.left c.args.wanted c.requires.stands) in
    let read = c.write_summary.ensures.kept c.args.wanted (phases s.commands) stands in
    part-read s (history_of status.new.run.engine) (history_of c.write_summary.new.run.engine) _ (status.ensures.through ended) read

pub returns-in-Load-clause-left : goal.returns-in-Load-clause-left
returns-in-Load-clause-left g c =
    let s = c.args.script.now in
    let status = c.run_phases-status in
    let ended = only-done status.result status.ensures.kinds (λ other. false≢true (sym c.if-ne.false ∙ (rw other at c.ne.ensures))) (λ other. false≢true (sym c.if-ne.false ∙ (rw other at c.ne.ensures))) in
    let stands = subst (λ (t : Status). HasLeft s t (λ ps. StandsBehind c.args.wanted s ps status.new.run.engine) (λ ps phase. StandsWithin c.args.wanted s ps phase status.new.run.engine)) ended (status.ensures.left c.args.wanted c.requires.stands) in
    left-kinds s c.write_summary.result (λ ps. StandsBehind c.args.wanted s ps c.write_summary.new.run.engine) (λ ps phase. StandsWithin c.args.wanted s ps phase c.write_summary.new.run.engine) c.write_summary.ensures.kinds
    (c.write_summary.ensures.kept c.args.wanted (phases s.commands) stands).behind
