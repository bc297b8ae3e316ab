use Rattle.std.proofs.Common.{ap, subst}
use Rattle.library_runs.specs.seeded_run.specs.{Kept.IsBetween, Order.is_order, Phase.{about, held}}
use Rattle.run_tests.proofs.MayRun.{may-front}
use Rattle.run_tests.proofs.stories.by_hand.Goals as goal

pub run_all-requires-clause-may_run : goal.run_all-requires-clause-may_run
run_all-requires-clause-may_run c = may-front c.args.script.now.hierarchy c.args.script.now.with c.args.done.now c.args.phase.now c.requires.may_run

pub run_by_hand-requires-clause-closes : goal.run_by_hand-requires-clause-closes
run_by_hand-requires-clause-closes c = c.is_one_phase.ensures c.if-not-is_one_phase.false

pub run_by_hand-requires-clause-between : goal.run_by_hand-requires-clause-between
run_by_hand-requires-clause-between c =
    let s = c.args.script.now in
    let x = c.in_ok-state.state in
    subst (λ b. IsBetween b (about s.hierarchy s.with x) s.with c.args.done.now (held s.hierarchy s.with x)) (ap is_order c.seeded.ensures) c.in_ok-state.ensures.between
