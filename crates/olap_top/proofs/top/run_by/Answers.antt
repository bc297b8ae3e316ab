use Rattle.std.proofs.Common.{◌≡◌, ◌∙◌, ◌⊎◌, inl, inr, sym, subst}
use Rattle.std.specs.Io.KnownBytes.{Appends}
use Rattle.olap_top.specs.{Outcomes.{HasRun, RanInto, RanTo, asked_text}, Standing.{StandsBehind, StandsWithin, history_of}, declared.outcome.Status.Status}
use Rattle.olap_top.specs.declared.outcome.Status.TheVariants as status_is
use Rattle.olap_top.proofs.{Ended.left-stands, Leaving.{IsLeftAs, leaves-run, left-as, of-history}, Telling.told-none}
use Rattle.olap_top.proofs.top.run_by.Goals as goal

pub run_wanted-status-requires-clause-start : goal.run_wanted-status-requires-clause-start
run_wanted-status-requires-clause-start g c κs within = record {
  through = c.requires.opened.through;
  right = c.requires.opened.right;
  told = told-none c.args.script.now (history_of c.args.engine) c.in-Ok.teller c.in-Ok.ensures.has;
}

pub into_state-requires : goal.into_state-requires
into_state-requires g c =
    let s = c.args.script.now in
    let engine = c.run_wanted-status.new.run.engine in
    let at = left-stands s c.run_wanted-status.result (λ ps. StandsBehind c.args.wanted s ps engine) (λ ps phase. StandsWithin c.args.wanted s ps phase engine) c.run_wanted-status.ensures.kinds c.run_wanted-status.ensures.left in
    record { may = (c.args.wanted, s, at.0, at.1, at.2) }

pub with_rest-requires : goal.with_rest-requires
with_rest-requires g c =
    let s = c.args.script.now in
    let engine = c.run_wanted-status.new.run.engine in
    let left = left-as c.args.wanted s c.run_wanted-status.result (history_of engine) c.into_state.result (λ ps. StandsBehind c.args.wanted s ps engine) (λ ps phase. StandsWithin c.args.wanted s ps phase engine)
    (c.into_state.ensures.behind c.args.wanted s) (c.into_state.ensures.within c.args.wanted s) c.run_wanted-status.ensures.kinds c.run_wanted-status.ensures.left in
    record { state = (s.hierarchy, s.with, left.left.state) }

pub returns-clause-no_memory : goal.returns-clause-no_memory
returns-clause-no_memory g c = λ is.
    let s = c.args.script.now in
    let engine = c.run_wanted-status.new.run.engine in
    let left = left-as c.args.wanted s c.run_wanted-status.result (history_of engine) c.into_state.result (λ ps. StandsBehind c.args.wanted s ps engine) (λ ps phase. StandsWithin c.args.wanted s ps phase engine)
    (c.into_state.ensures.behind c.args.wanted s) (c.into_state.ensures.within c.args.wanted s) c.run_wanted-status.ensures.kinds c.run_wanted-status.ensures.left in
    let out = c.with_rest.ensures.rest s.hierarchy s.with left.left.state in
    inr (of-history s.hierarchy s.with c.into_state.result c.with_rest.result (history_of engine) (RanInto c.args.wanted s (g.K.Sink.taken c.args.sink.now) (g.K.Sink.taken c.run_wanted-status.new.sink)) left.left.told out
    (c.run_wanted-status.ensures.no_memory (sym c.with_rest.ensures.status ∙ is)))

pub returns-clause-write_fault : goal.returns-clause-write_fault
returns-clause-write_fault g c = λ is.
    let s = c.args.script.now in
    let engine = c.run_wanted-status.new.run.engine in
    let left = left-as c.args.wanted s c.run_wanted-status.result (history_of engine) c.into_state.result (λ ps. StandsBehind c.args.wanted s ps engine) (λ ps phase. StandsWithin c.args.wanted s ps phase engine)
    (c.into_state.ensures.behind c.args.wanted s) (c.into_state.ensures.within c.args.wanted s) c.run_wanted-status.ensures.kinds c.run_wanted-status.ensures.left in
    let out = c.with_rest.ensures.rest s.hierarchy s.with left.left.state in
    let fault = c.run_wanted-status.ensures.write_fault (sym c.with_rest.ensures.status ∙ is) in
    (fault.0, of-history s.hierarchy s.with c.into_state.result c.with_rest.result (history_of engine) (RanTo c.args.wanted s (g.K.Sink.taken c.args.sink.now) (g.K.Sink.taken c.run_wanted-status.new.sink)) left.left.told out fault.1)

pub returns-clause-done : goal.returns-clause-done
returns-clause-done g c = λ is.
    let s = c.args.script.now in
    let engine = c.run_wanted-status.new.run.engine in
    let left = left-as c.args.wanted s c.run_wanted-status.result (history_of engine) c.into_state.result (λ ps. StandsBehind c.args.wanted s ps engine) (λ ps phase. StandsWithin c.args.wanted s ps phase engine)
    (c.into_state.ensures.behind c.args.wanted s) (c.into_state.ensures.within c.args.wanted s) c.run_wanted-status.ensures.kinds c.run_wanted-status.ensures.left in
    let out = c.with_rest.ensures.rest s.hierarchy s.with left.left.state in
    of-history s.hierarchy s.with c.into_state.result c.with_rest.result (history_of engine)
    (λ h. HasRun s.with s.hierarchy s.commands h × Appends (g.K.Sink.taken c.args.sink.now) (g.K.Sink.taken c.run_wanted-status.new.sink) (asked_text c.args.wanted s h)) left.left.told out
    (c.run_wanted-status.ensures.done (sym c.with_rest.ensures.status ∙ is))

pub returns-clause-run : goal.returns-clause-run
returns-clause-run g c =
    let s = c.args.script.now in
    let engine = c.run_wanted-status.new.run.engine in
    let left = left-as c.args.wanted s c.run_wanted-status.result (history_of engine) c.into_state.result (λ ps. StandsBehind c.args.wanted s ps engine) (λ ps phase. StandsWithin c.args.wanted s ps phase engine)
    (c.into_state.ensures.behind c.args.wanted s) (c.into_state.ensures.within c.args.wanted s) c.run_wanted-status.ensures.kinds c.run_wanted-status.ensures.left in
    let out = c.with_rest.ensures.rest s.hierarchy s.with left.left.state in
    inr (leaves-run c.args.wanted s c.with_rest.result (history_of engine) c.into_state.result c.requires.settings c.run_wanted-status.ensures.right c.run_wanted-status.ensures.part
    (subst (λ (t : Status). IsLeftAs c.args.wanted s t (history_of engine) c.into_state.result) (sym c.with_rest.ensures.status) left) out)
