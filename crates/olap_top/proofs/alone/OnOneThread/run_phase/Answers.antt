use Rattle.olap_top.proofs.OneThread.{PhaseRan, may-all, run-into, run-stopped, run-through}
use Rattle.olap_top.proofs.alone.OnOneThread.run_phase.Goals as goal

pub run_phase-requires-clause-may_run : goal.run_phase-requires-clause-may_run
run_phase-requires-clause-may_run c =
    let may = c.requires.may in
    may-all may.0 may.1 may.2 c.args.done c.args.commands.now c.split_at.result.0.now c.split_at.result.1.now c.args.self.now may.3 may.4 c.split_at.ensures.front c.split_at.ensures.back

pub returns-clause-into : goal.returns-clause-into
returns-clause-into c = λ wanted s ps behind may.
    let ran : PhaseRan c.run_phase.result c.args.self.now.hierarchy c.args.self.now.with c.split_at.result.0.now c.split_at.result.1.now c.args.self.now.state c.run_phase.new.state c.args.self.now.schedule c.run_phase.new.schedule = record {
      core = c.run_phase.ensures.core;
      about_is = c.run_phase.ensures.about;
      order = c.run_phase.ensures.order;
      turns = c.run_phase.ensures.turns;
      rested = c.run_phase.ensures.rested;
      stopped = c.run_phase.ensures.stopped;
      between = c.run_phase.ensures.between;
      into = c.run_phase.ensures.into;
    } in
    run-into c.run_phase.result wanted s ps c.args.done c.args.commands.now c.split_at.result.0.now c.split_at.result.1.now c.args.self.now c.run_phase.new.state c.run_phase.new.schedule behind may c.split_at.ensures.front c.split_at.ensures.back ran

pub returns-clause-through : goal.returns-clause-through
returns-clause-through c = λ wanted s ps behind may.
    let ran : PhaseRan c.run_phase.result c.args.self.now.hierarchy c.args.self.now.with c.split_at.result.0.now c.split_at.result.1.now c.args.self.now.state c.run_phase.new.state c.args.self.now.schedule c.run_phase.new.schedule = record {
      core = c.run_phase.ensures.core;
      about_is = c.run_phase.ensures.about;
      order = c.run_phase.ensures.order;
      turns = c.run_phase.ensures.turns;
      rested = c.run_phase.ensures.rested;
      stopped = c.run_phase.ensures.stopped;
      between = c.run_phase.ensures.between;
      into = c.run_phase.ensures.into;
    } in
    run-through c.run_phase.result wanted s ps c.args.done c.args.commands.now c.split_at.result.0.now c.split_at.result.1.now c.args.self.now c.run_phase.new.state c.run_phase.new.schedule behind may c.split_at.ensures.front c.split_at.ensures.back ran

pub returns-clause-stopped : goal.returns-clause-stopped
returns-clause-stopped c = λ wanted s ps behind may.
    let ran : PhaseRan c.run_phase.result c.args.self.now.hierarchy c.args.self.now.with c.split_at.result.0.now c.split_at.result.1.now c.args.self.now.state c.run_phase.new.state c.args.self.now.schedule c.run_phase.new.schedule = record {
      core = c.run_phase.ensures.core;
      about_is = c.run_phase.ensures.about;
      order = c.run_phase.ensures.order;
      turns = c.run_phase.ensures.turns;
      rested = c.run_phase.ensures.rested;
      stopped = c.run_phase.ensures.stopped;
      between = c.run_phase.ensures.between;
      into = c.run_phase.ensures.into;
    } in
    run-stopped c.run_phase.result wanted s ps c.args.done c.args.commands.now c.split_at.result.0.now c.split_at.result.1.now c.args.self.now c.run_phase.new.state c.run_phase.new.schedule behind may c.split_at.ensures.front c.split_at.ensures.back ran
