use denote.Param.Send.{sendable}
use Rattle.std.proofs.Common.{◌≡◌, List, length, sym, subst, arith}
use Rattle.threaded_run.proofs.Halves.{back-of, both, front-of}
use Rattle.threaded_run.proofs.Sent.{job_send}
use Rattle.threaded_run.specs.Jobs.{AreJobsBackFrom, AreJobsReadyFrom, IsJobBack, IsJobReady}
use Rattle.threaded_run.specs.declared.threads.Job.{Job}
use Rattle.threaded_run.proofs.threads.do_all_jobs.Goals as goal

pub last_beside-requires-send-T : goal.last_beside-requires-send-T
last_beside-requires-send-T g c κs within = search (sendable, job_send)

pub last_beside-requires-clause-others : goal.last_beside-requires-clause-others
last_beside-requires-clause-others g c κs within p is =
    let cut = c.split_at_mut-others in
    let past = c.requires.ready.0 in
    let others : AreJobsReadyFrom 0 c.args.hall.now past cut.result.0.now =
    front-of (λ i. IsJobReady c.args.hall.now i past) c.args.jobs.now cut.result.0.now cut.result.1.now cut.ensures.value c.requires.ready.1 in (
      ((past, subst (λ (xs : List Job). AreJobsReadyFrom 0 c.args.hall.now past xs) (sym is) others), c.requires.fits, c.requires.none_closes),
      (search (sendable, c.type_bounds.sync-R) depth 20, search (sendable, c.type_bounds.sync-M) depth 20),
    )

pub last_beside-requires-clause-hands : goal.last_beside-requires-clause-hands
last_beside-requires-clause-hands g c κs within p is =
    let cut = c.split_at_mut-others in
    let n = c.min-before.result in
    let past = c.requires.ready.0 in
    let hands : AreJobsReadyFrom n c.args.hall.now past cut.result.1.now =
    back-of (λ i. IsJobReady c.args.hall.now i past) c.args.jobs.now cut.result.0.now cut.result.1.now n cut.ensures.value cut.ensures.front_len c.requires.ready.1 in (
      ((past, subst (λ (xs : List Job). AreJobsReadyFrom n c.args.hall.now past xs) (sym is) hands), c.requires.fits, c.requires.none_closes),
      (search (sendable, c.type_bounds.sync-R) depth 20, search (sendable, c.type_bounds.sync-M) depth 20),
    )

pub returns : goal.returns
returns g c =
    let f = c.args.hall.now in
    let commands = c.args.commands.now in
    let cut = c.split_at_mut-others in
    let n = c.min-before.result in
    let long : length c.last_beside.new.others ≡ n = omega (arith, c.last_beside.auto.others, cut.ensures.front_len) in
    let one = c.last_beside.ensures.others in
    let two = c.last_beside.ensures.hands in
    record {
      back = λ past ready. (
          let front : AreJobsReadyFrom 0 f past cut.result.0.now = front-of (λ i. IsJobReady f i past) c.args.jobs.now cut.result.0.now cut.result.1.now cut.ensures.value ready in
          let behind : AreJobsReadyFrom n f past cut.result.1.now =
          back-of (λ i. IsJobReady f i past) c.args.jobs.now cut.result.0.now cut.result.1.now n cut.ensures.value cut.ensures.front_len ready in
          let others : AreJobsBackFrom 0 f commands past c.last_beside.new.others =
          subst (λ (xs : List Job). AreJobsBackFrom 0 f commands past xs) one.left (one.call past (subst (λ (xs : List Job). AreJobsReadyFrom 0 f past xs) (sym one.argument_is) front)) in
          let hands : AreJobsBackFrom n f commands past c.last_beside.new.hands =
          subst (λ (xs : List Job). AreJobsBackFrom n f commands past xs) two.left (two.call past (subst (λ (xs : List Job). AreJobsReadyFrom n f past xs) (sym two.argument_is) behind)) in
          both (λ i. IsJobBack f i commands past) c.last_beside.new.others c.last_beside.new.hands n long others hands
          );
    }
