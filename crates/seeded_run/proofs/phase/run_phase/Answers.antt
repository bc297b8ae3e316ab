use Rattle.seeded_run.specs.{Order.is_order, Phase.{EndsBehindAny, StopsBehindAny}}
use Rattle.seeded_run.proofs.Phases.WholePhases.{may-behind, on-fault, on-one}
use Rattle.seeded_run.proofs.phase.run_phase.Goals as goal

pub run_commands-requires-clause-may_run : goal.run_commands-requires-clause-may_run
run_commands-requires-clause-may_run c = may-behind c.args.h.now c.args.with.now c.args.done.now c.args.phase.now c.requires.may_run

pub run_commands-requires-clause-idle : goal.run_commands-requires-clause-idle
run_commands-requires-clause-idle c = c.requires.between.idle

pub returns-clause-between : goal.returns-clause-between
returns-clause-between c =
    on-one c.run_commands.result (EndsBehindAny (is_order c.args.schedule.now) c.args.h.now c.args.with.now c.args.phase.now c.args.state.now c.run_commands.new.state) _
    (λ ends. ends c.args.done.now c.requires.between) c.run_commands.ensures.behind

pub returns-clause-into : goal.returns-clause-into
returns-clause-into c =
    on-fault c.run_commands.result (StopsBehindAny (is_order c.args.schedule.now) c.args.h.now c.args.with.now c.args.phase.now c.args.state.now c.run_commands.new.state) _
    (λ stops. stops c.args.done.now c.requires.between) c.run_commands.ensures.into
