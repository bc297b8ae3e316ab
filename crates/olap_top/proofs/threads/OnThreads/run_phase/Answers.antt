use Rattle.olap_top.proofs.Hall.{all-fit, hall-stopped, hall-through}
use Rattle.olap_top.proofs.threads.OnThreads.run_phase.Goals as goal

pub run_phase-ran-requires-clause-fits : goal.run_phase-ran-requires-clause-fits
run_phase-ran-requires-clause-fits g c κs within =
    let may = c.requires.may in
    all-fit may.0 may.1 may.2 c.args.done c.args.commands.now c.split_at.result.1.now c.args.self.now.hall c.args.self.now.passes may.3 may.4 c.split_at.ensures.back

pub returns-clause-through : goal.returns-clause-through
returns-clause-through g c = λ wanted s ps behind may.
    hall-through c.run_phase-ran.result wanted s ps c.args.done c.args.commands.now c.split_at.result.1.now c.args.self.now.hall c.args.self.now.passes c.run_phase-ran.new.passes behind may c.split_at.ensures.back
    c.run_phase-ran.ensures.back c.right.ensures c.run_phase-ran.ensures.done c.run_phase-ran.ensures.none_gone

pub returns-clause-stopped : goal.returns-clause-stopped
returns-clause-stopped g c = λ wanted s ps behind may.
    hall-stopped c.run_phase-ran.result wanted s ps c.args.done c.args.commands.now c.split_at.result.1.now c.args.self.now.hall c.args.self.now.passes c.run_phase-ran.new.passes behind may c.split_at.ensures.back
    c.run_phase-ran.ensures.back c.right.ensures c.run_phase-ran.ensures.stopped
