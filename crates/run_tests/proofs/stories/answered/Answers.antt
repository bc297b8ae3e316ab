use Rattle.std.proofs.Common.{sym, subst}
use Rattle.library_runs.specs.seeded_run.specs.Phase.{MayAllRun}
use Rattle.run_tests.proofs.MayRun.{may-split}
use Rattle.run_tests.proofs.stories.answered.Goals as goal

pub by_hand-requires-clause-may_run : goal.by_hand-requires-clause-may_run
by_hand-requires-clause-may_run c =
    let s = c.args.script.now in
    may-split s.hierarchy s.with c.split_at.result.0.now c.split_at.result.1.now c.as_slice-commands.result.now _ c.split_at.ensures.front c.split_at.ensures.back
    (subst (MayAllRun s.hierarchy s.with) (sym c.as_slice-commands.ensures) c.requires.may_run)
