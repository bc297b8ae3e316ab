use Rattle.std.proofs.Common.{refl, []}
use Rattle.seeded_run.proofs.Cursors.FirstCursors.{stopped-first}
use Rattle.seeded_run.proofs.phase.run_commands.Goals as goal

pub returns-in-Err-clause-stopped : goal.returns-in-Err-clause-stopped
returns-in-Err-clause-stopped c = (c.args.schedule.now, record { turns = []; are = refl })

pub returns-in-Err-clause-into : goal.returns-in-Err-clause-into
returns-in-Err-clause-into c = stopped-first c.args.h.now c.args.with.now c.args.phase.now c.args.state.now _
