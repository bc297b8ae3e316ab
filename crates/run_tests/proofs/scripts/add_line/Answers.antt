use Rattle.library_runs.specs.seeded_run.specs.Phase.{MayRun}
use Rattle.run_tests.proofs.MayRun.{all-pushed}
use Rattle.run_tests.proofs.scripts.add_line.Goals as goal

pub returns : goal.returns
returns c = all-pushed (MayRun c.args.h.now c.args.with.now) c.push.result c.args.commands.now c.push.new.self c.in_ok-command.command c.push.ensures.ok c.requires (c.may_run.ensures c.if-not-may_run.false)
