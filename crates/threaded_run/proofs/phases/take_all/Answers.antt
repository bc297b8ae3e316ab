use Rattle.std.proofs.Common.{◌∙◌, ◌+◌, ◌<◌, ◌≤◌, ℕ, List, length, sym, ap, subst, arith, length-append}
use Rattle.hall_hands.specs.actor_run.specs.Passes.{HasTaken, IsOut}
use Rattle.threaded_run.proofs.Passing.{none-taken, not-out, numbered-pass, one-taken}
use Rattle.threaded_run.specs.{Phases.HasTakenSome, declared.threads.Job.Job}
use Rattle.script_roles.specs.volap_cell.specs.Setting.{actor_count}
use Rattle.threaded_run.proofs.phases.take_all.Goals as goal

pub loop-number-init : goal.loop-number-init
loop-number-init g c =
    let empty = c.in_ok-jobs.ensures.empty in
    record {
      some = subst (λ (l : List Job). HasTakenSome c.args.hall.now l c.args.passes.now c.args.passes.now) (sym empty) (none-taken c.args.hall.now c.args.passes.now c.requires.phased);
      count = ap length empty;
      room = c.in_ok-jobs.ensures.room;
    }

pub take-requires : goal.take-requires
take-requires g c = record { own = c.loop-number.invariant.some.own }

pub unreachable-requires : goal.unreachable-requires
unreachable-requires g c =
    let k = c.loop-number.invariant in
    let low : length c.loop-number.jobs.items + 1 < actor_count c.args.passes.now.setting = (let test = c.loop-number-test.true in let count = k.count in let many = c.roles-roles.ensures.count in omega (arith, test, count, many)) in
    absurd (not-out c.args.hall.now c.args.passes.now c.requires.phased c.loop-number.jobs.items c.loop-number.passes k.some low
    (subst (λ (n : ℕ). IsOut n c.loop-number.passes) (sym k.count) c.in_default.ensures.none))

pub job_of-requires-clause-numbered : goal.job_of-requires-clause-numbered
job_of-requires-clause-numbered g c =
    let k = c.loop-number.invariant in
    numbered-pass c.args.hall.now c.args.passes.now c.requires.phased c.loop-number.jobs.items c.loop-number.passes k.some c.in-Some.pass c.take.new.self c.take.ensures.own
    (subst (λ (n : ℕ). HasTaken n c.loop-number.passes c.take.new.self c.in-Some.pass) (sym k.count) c.in-Some.ensures.some)

pub loop-number-preserved : goal.loop-number-preserved
loop-number-preserved g c =
    let k = c.loop-number.invariant in
    let has = subst (λ (n : ℕ). HasTaken n c.loop-number.passes c.take.new.self c.in-Some.pass) (sym k.count) c.in-Some.ensures.some in
    let some = one-taken c.args.hall.now c.args.passes.now c.requires.phased c.loop-number.jobs.items c.loop-number.passes k.some c.in-Some.pass c.take.new.self c.take.ensures.own has c.job_of.result c.job_of.ensures.ready in
    record {
      some = subst (λ (l : List Job). HasTakenSome c.args.hall.now l c.args.passes.now c.take.new.self) (sym c.push_reserved.ensures.items) some;
      count = ap length c.push_reserved.ensures.items ∙ length-append c.loop-number.jobs.items _ ∙ ap (λ (n : ℕ). n + 1) k.count;
      room = subst (λ (n : ℕ). c.roles-roles.result ≤ n) (sym c.push_reserved.ensures.capacity) k.room;
    }
