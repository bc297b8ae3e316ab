use Rattle.std.proofs.Common.{List, sym, subst}
use Rattle.script_form.specs.declared.script.Command.{Command}
use Rattle.library_runs.specs.seeded_run.specs.{Kept.IsBetween, Order.is_order, Phase.{ClosesLast, about, held}}
use Rattle.run_tests.proofs.MayRun.{may-split}
use Rattle.run_tests.proofs.runs.run_next.Goals as goal

pub run_phase-requires-clause-may_run : goal.run_phase-requires-clause-may_run
run_phase-requires-clause-may_run c =
    may-split c.args.script.now.hierarchy c.args.script.now.with c.split_at.result.0.now c.split_at.result.1.now c.args.commands.now c.args.done c.split_at.ensures.front c.split_at.ensures.back c.requires.may_run

pub run_phase-requires-clause-closes : goal.run_phase-requires-clause-closes
run_phase-requires-clause-closes c = subst ClosesLast (sym c.split_at.ensures.back) c.requires.closes

pub run_phase-requires-clause-between : goal.run_phase-requires-clause-between
run_phase-requires-clause-between c =
    let s = c.args.script.now in
    let x = c.args.state.now in
    subst (λ (l : List Command). IsBetween (is_order c.args.schedule.now) (about s.hierarchy s.with x) s.with l (held s.hierarchy s.with x)) (sym c.split_at.ensures.front) c.requires.between
