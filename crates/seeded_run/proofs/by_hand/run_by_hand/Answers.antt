use Rattle.std.proofs.Common.{false}
use Rattle.seeded_run.proofs.{Cursors.FirstCursors.stopped-first, Phases.WholePhases.may-behind}
use Rattle.seeded_run.proofs.by_hand.run_by_hand.Goals as goal

pub make_from-requires-clause-may_run : goal.make_from-requires-clause-may_run
make_from-requires-clause-may_run c = may-behind c.args.h.now c.args.with.now c.args.done.now c.args.phase.now c.requires.may_run

pub make_from-requires-clause-idle : goal.make_from-requires-clause-idle
make_from-requires-clause-idle c = c.requires.between.idle

pub returns-in-Ok-clause-into : goal.returns-in-Ok-clause-into
returns-in-Ok-clause-into c = c.make_from.ensures.into c.args.done.now c.requires.between

pub returns-in-Err-clause-into : goal.returns-in-Err-clause-into
returns-in-Err-clause-into c = stopped-first c.args.h.now c.args.with.now c.args.phase.now c.args.state.now false c.args.done.now c.requires.between
