use Rattle.std.proofs.Common.{◌≡◌, ◌∙◌, ◌+◌, ℕ, Bool, false, List, length, sym, ap, subst}
use Rattle.threaded_run.proofs.Passing.{all-back, each-came, none-given}
use Rattle.threaded_run.specs.{Jobs.{AreJobsReady, HasCome}, Phases.{HasGivenSome}, declared.threads.Job.Job}
use Rattle.script_roles.specs.volap_cell.specs.Setting.{actor_count}
use Rattle.threaded_run.proofs.phases.run_together.Goals as goal

pub do_all_jobs-requires-clause-ready : goal.do_all_jobs-requires-clause-ready
do_all_jobs-requires-clause-ready g c κs within =
    (c.args.passes.now.seen, subst (λ (l : List Job). AreJobsReady c.args.hall.now c.args.passes.now.seen l) (sym c.as_mut_slice-all.ensures.value) c.in-Ok.ensures.taken.some.ready)

pub give_all-stopped-requires : goal.give_all-stopped-requires
give_all-stopped-requires g c =
    let f = c.args.hall.now in
    let was = c.args.passes.now in
    let commands = c.args.commands.now in
    let first = c.as_mut_slice-all.ensures.value in
    let all = c.in-Ok.ensures.taken in
    let ready = subst (λ (l : List Job). AreJobsReady f was.seen l) (sym first) all.some.ready in
    let back = c.do_all_jobs.ensures.back was.seen ready in
    let many : length c.do_all_jobs.new.jobs ≡ length c.in-Ok.jobs.items = c.do_all_jobs.auto.jobs ∙ ap length first in
    let begun = subst (λ (n : ℕ). HasGivenSome f commands n 0 false was c.take_all.new.passes) (sym many) (none-given f commands was c.in-Ok.jobs.items c.take_all.new.passes all) in
    record { taken = (commands, was, begun, back) }

pub returns-then-stopped-clause-back : goal.returns-then-stopped-clause-back
returns-then-stopped-clause-back g c =
    let f = c.args.hall.now in
    let was = c.args.passes.now in
    let commands = c.args.commands.now in
    let first = c.as_mut_slice-all.ensures.value in
    let all = c.in-Ok.ensures.taken in
    let ready = subst (λ (l : List Job). AreJobsReady f was.seen l) (sym first) all.some.ready in
    let back = c.do_all_jobs.ensures.back was.seen ready in
    let many : length c.do_all_jobs.new.jobs ≡ length c.in-Ok.jobs.items = c.do_all_jobs.auto.jobs ∙ ap length first in
    let begun = subst (λ (n : ℕ). HasGivenSome f commands n 0 false was c.take_all.new.passes) (sym many) (none-given f commands was c.in-Ok.jobs.items c.take_all.new.passes all) in
    let count : length c.do_all_jobs.new.jobs + 1 ≡ actor_count was.setting = ap (λ (n : ℕ). n + 1) many ∙ all.count in
    let now = c.give_all-stopped.new.passes in
    let some = c.give_all-stopped.ensures.given commands was begun back in
    all-back f commands was c.requires.phased (length c.do_all_jobs.new.jobs) count c.give_all-stopped.result now some

pub returns-else-stopped-clause-back : goal.returns-else-stopped-clause-back
returns-else-stopped-clause-back g c =
    let f = c.args.hall.now in
    let was = c.args.passes.now in
    let commands = c.args.commands.now in
    let first = c.as_mut_slice-all.ensures.value in
    let all = c.in-Ok.ensures.taken in
    let ready = subst (λ (l : List Job). AreJobsReady f was.seen l) (sym first) all.some.ready in
    let back = c.do_all_jobs.ensures.back was.seen ready in
    let many : length c.do_all_jobs.new.jobs ≡ length c.in-Ok.jobs.items = c.do_all_jobs.auto.jobs ∙ ap length first in
    let begun = subst (λ (n : ℕ). HasGivenSome f commands n 0 false was c.take_all.new.passes) (sym many) (none-given f commands was c.in-Ok.jobs.items c.take_all.new.passes all) in
    let count : length c.do_all_jobs.new.jobs + 1 ≡ actor_count was.setting = ap (λ (n : ℕ). n + 1) many ∙ all.count in
    let now = c.give_all-stopped.new.passes in
    let some = c.give_all-stopped.ensures.given commands was begun back in
    all-back f commands was c.requires.phased (length c.do_all_jobs.new.jobs) count c.give_all-stopped.result now some

pub returns-then-stopped-clause-stopped : goal.returns-then-stopped-clause-stopped
returns-then-stopped-clause-stopped g c =
    let f = c.args.hall.now in
    let was = c.args.passes.now in
    let commands = c.args.commands.now in
    let first = c.as_mut_slice-all.ensures.value in
    let all = c.in-Ok.ensures.taken in
    let ready = subst (λ (l : List Job). AreJobsReady f was.seen l) (sym first) all.some.ready in
    let back = c.do_all_jobs.ensures.back was.seen ready in
    let many : length c.do_all_jobs.new.jobs ≡ length c.in-Ok.jobs.items = c.do_all_jobs.auto.jobs ∙ ap length first in
    let begun = subst (λ (n : ℕ). HasGivenSome f commands n 0 false was c.take_all.new.passes) (sym many) (none-given f commands was c.in-Ok.jobs.items c.take_all.new.passes all) in
    let count : length c.do_all_jobs.new.jobs + 1 ≡ actor_count was.setting = ap (λ (n : ℕ). n + 1) many ∙ all.count in
    let now = c.give_all-stopped.new.passes in
    let some = c.give_all-stopped.ensures.given commands was begun back in
    λ session. subst (λ (s : Bool). HasCome s f session commands was.seen now.seen) c.if-stopped.true
    (each-came f commands was c.requires.phased (length c.do_all_jobs.new.jobs) count c.give_all-stopped.result now some c.requires.fits session)

pub returns-else-stopped-clause-done : goal.returns-else-stopped-clause-done
returns-else-stopped-clause-done g c =
    let f = c.args.hall.now in
    let was = c.args.passes.now in
    let commands = c.args.commands.now in
    let first = c.as_mut_slice-all.ensures.value in
    let all = c.in-Ok.ensures.taken in
    let ready = subst (λ (l : List Job). AreJobsReady f was.seen l) (sym first) all.some.ready in
    let back = c.do_all_jobs.ensures.back was.seen ready in
    let many : length c.do_all_jobs.new.jobs ≡ length c.in-Ok.jobs.items = c.do_all_jobs.auto.jobs ∙ ap length first in
    let begun = subst (λ (n : ℕ). HasGivenSome f commands n 0 false was c.take_all.new.passes) (sym many) (none-given f commands was c.in-Ok.jobs.items c.take_all.new.passes all) in
    let count : length c.do_all_jobs.new.jobs + 1 ≡ actor_count was.setting = ap (λ (n : ℕ). n + 1) many ∙ all.count in
    let now = c.give_all-stopped.new.passes in
    let some = c.give_all-stopped.ensures.given commands was begun back in
    λ session. subst (λ (s : Bool). HasCome s f session commands was.seen now.seen) c.if-stopped.false
    (each-came f commands was c.requires.phased (length c.do_all_jobs.new.jobs) count c.give_all-stopped.result now some c.requires.fits session)
