use Rattle.std.proofs.{Common.{◌≡◌, ◌∙◌, ℕ, ◌+◌, ◌-◌, ◌<◌, true, List, [], ◌∷◌, length, Some, sym, ap, subst, arith}, lemmas.Option.slice_get-get_or}
use Rattle.script_form.specs.declared.script.Command.{Command}
use Rattle.session_runs.specs.Sessions.{BeginsNothing, DoesPhase, EachDoes, EachDoesFirst}
use Rattle.threaded_run.proofs.{OnePhase.{back-twice, empty-none, front-closes-none, front-fits, front-stops, last-done, last-none, last-stops, together-done, together-stops}, WholeCalls.{map-err, map-ok}}
use Rattle.threaded_run.specs.{Phases.StopsInPhase, Streams.{AllFit, NoneClosesAt}}
use Rattle.threaded_run.proofs.phase.do_phase.Goals.{then-many-eq0-via-else-many-eq0+then-not-closes, then-many-eq0-via-then-many-eq0}
use Rattle.threaded_run.proofs.phase.do_phase.Goals as goal

pub returns-then-many-eq0-clause-done : goal.returns-then-many-eq0-clause-done
returns-then-many-eq0-clause-done g c =
    let f = c.args.hall.now in
    let phase = c.args.phase.now in
    let past = c.args.passes.now.seen in
    let now = c.run_together.new.passes.seen in
    let none : NoneClosesAt phase = elim c.then-many-eq0.branch [
      | then-many-eq0-via-then-many-eq0 w ↦ empty-none phase w.if-many-eq0.true
      | then-many-eq0-via-else-many-eq0+then-not-closes w ↦ last-none phase w.index-phase-many.result w.index-phase-many.is (sym w.closes.ensures ∙ w.if-not-closes.true) c.requires.closes_last
    ] in
    map-ok (EachDoes f.with f.hierarchy phase past now) (DoesPhase f.with f.hierarchy phase past now) c.run_together.result (together-done f.with f.hierarchy phase past now none) c.run_together.ensures.done

pub returns-then-many-eq0-clause-stopped : goal.returns-then-many-eq0-clause-stopped
returns-then-many-eq0-clause-stopped g c =
    let f = c.args.hall.now in
    let phase = c.args.phase.now in
    let past = c.args.passes.now.seen in
    let now = c.run_together.new.passes.seen in
    let none : NoneClosesAt phase = elim c.then-many-eq0.branch [
      | then-many-eq0-via-then-many-eq0 w ↦ empty-none phase w.if-many-eq0.true
      | then-many-eq0-via-else-many-eq0+then-not-closes w ↦ last-none phase w.index-phase-many.result w.index-phase-many.is (sym w.closes.ensures ∙ w.if-not-closes.true) c.requires.closes_last
    ] in
    map-err (EachDoesFirst f.with f.hierarchy phase past now) (StopsInPhase f.with f.hierarchy phase past now) c.run_together.result (together-stops f.with f.hierarchy phase past now none) c.run_together.ensures.stopped

pub run_together-requires-2-clause-fits : goal.run_together-requires-2-clause-fits
run_together-requires-2-clause-fits g c κs within =
    let phase = c.args.phase.now in
    let long : length phase - 1 + 1 ≡ length phase = (let some = c.if-many-eq0.false in omega (arith, some)) in
    subst (λ (l : List Command). AllFit c.args.hall.now l) (sym c.split_at.ensures.front) (front-fits phase (length phase - 1) long c.args.hall.now c.requires.fits)

pub run_together-requires-2-clause-none_closes : goal.run_together-requires-2-clause-none_closes
run_together-requires-2-clause-none_closes g c κs within =
    let phase = c.args.phase.now in
    let long : length phase - 1 + 1 ≡ length phase = (let some = c.if-many-eq0.false in omega (arith, some)) in
    subst (λ (l : List Command). NoneClosesAt l) (sym c.split_at.ensures.front) (front-closes-none phase (length phase - 1) long c.requires.closes_last)

pub returns-in_default-clause-stopped : goal.returns-in_default-clause-stopped
returns-in_default-clause-stopped g c =
    let f = c.args.hall.now in
    let phase = c.args.phase.now in
    let many = length phase - 1 in
    let long : many + 1 ≡ length phase = (let some = c.if-many-eq0.false in omega (arith, some)) in
    let low : many < length phase = omega (arith, long) in
    let last = c.index-phase-many.result in
    let at = slice_get-get_or phase many last low ∙ ap (λ (x : Command). Some x) (sym c.index-phase-many.is) in
    let first = subst (λ (l : List Command). EachDoesFirst f.with f.hierarchy l c.args.passes.now.seen c.run_together-2.new.passes.seen) c.split_at.ensures.front c.in_default.ensures.stopped in
    front-stops f phase many last at long c.requires.closes_last c.args.passes.now.seen c.run_together-2.new.passes.seen first

pub returns-clause-back : goal.returns-clause-back
returns-clause-back g c = back-twice c.args.hall.now c.args.passes.now c.run_together-2.new.passes c.close_phase.new.passes c.run_together-2.ensures.back c.close_phase.ensures.back

pub returns-clause-done : goal.returns-clause-done
returns-clause-done g c =
    let f = c.args.hall.now in
    let phase = c.args.phase.now in
    let past = c.args.passes.now.seen in
    let mid = c.run_together-2.new.passes.seen in
    let now = c.close_phase.new.passes.seen in
    let many = length phase - 1 in
    let long : many + 1 ≡ length phase = (let some = c.if-many-eq0.false in omega (arith, some)) in
    let low : many < length phase = omega (arith, long) in
    let last = c.index-phase-many-2.result in
    let at = slice_get-get_or phase many last low ∙ ap (λ (x : Command). Some x) (sym c.index-phase-many-2.is) in
    let first = subst (λ (l : List Command). EachDoes f.with f.hierarchy l past mid) c.split_at.ensures.front c.in-Ok.ensures.done in
    map-ok (EachDoes f.with f.hierarchy (last ∷ []) mid now) (DoesPhase f.with f.hierarchy phase past now) c.close_phase.result
    (last-done f phase many last at long c.requires.closes_last past mid now first) c.close_phase.ensures.done

pub returns-clause-stopped : goal.returns-clause-stopped
returns-clause-stopped g c =
    let f = c.args.hall.now in
    let phase = c.args.phase.now in
    let past = c.args.passes.now.seen in
    let mid = c.run_together-2.new.passes.seen in
    let now = c.close_phase.new.passes.seen in
    let many = length phase - 1 in
    let long : many + 1 ≡ length phase = (let some = c.if-many-eq0.false in omega (arith, some)) in
    let low : many < length phase = omega (arith, long) in
    let last = c.index-phase-many-2.result in
    let at = slice_get-get_or phase many last low ∙ ap (λ (x : Command). Some x) (sym c.index-phase-many-2.is) in
    let first = subst (λ (l : List Command). EachDoes f.with f.hierarchy l past mid) c.split_at.ensures.front c.in-Ok.ensures.done in
    map-err ((session : ℕ) → BeginsNothing session mid now) (StopsInPhase f.with f.hierarchy phase past now) c.close_phase.result
    (last-stops f phase many last at long c.requires.closes_last past mid now first) c.close_phase.ensures.none
