use Rattle.threaded_run.proofs.{OnePhase.{back-twice, phase-on}, WholeCalls.{reused-back, reused-nothing}}
use Rattle.threaded_run.proofs.phase.run_phase.Goals as goal

pub returns-clause-back : goal.returns-clause-back
returns-clause-back g c =
    let f = c.args.hall.now in
    let mid = c.do_phase.new.passes in
    let back = c.do_phase.ensures.back in
    back-twice f c.args.passes.now mid c.reuse.new.passes back (reused-back f mid c.reuse.new.passes back.phased c.reuse.ensures.on)

pub returns-clause-done : goal.returns-clause-done
returns-clause-done g c =
    let f = c.args.hall.now in
    let mid = c.do_phase.new.passes in
    phase-on f c.args.passes.now.seen mid.seen c.reuse.new.passes.seen (reused-nothing f mid c.reuse.new.passes c.do_phase.ensures.back.phased c.reuse.ensures.on) c.args.phase.now c.in_ok-do_phase.ensures.done
