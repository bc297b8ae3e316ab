use denote.Param.Send.{sendable}
use Rattle.std.proofs.Common.{◌∙◌, ◌<◌, ◌+◌, Some, ap, sym, subst, length, arith}
use Rattle.std.proofs.lemmas.Option.{get_or_from_slice_get, slice_get-get_or, slice_get_within}
use Rattle.threaded_run.proofs.Sent.{job_send}
use Rattle.threaded_run.specs.Jobs.{IsJobBack}
use Rattle.threaded_run.specs.declared.threads.Job.{Job}
use Rattle.threaded_run.proofs.threads.do_each.Goals as goal

pub for_each_mut-requires-send-T : goal.for_each_mut-requires-send-T
for_each_mut-requires-send-T g c κs within = search (sendable, job_send)

pub for_each_mut-requires-clause-accepts : goal.for_each_mut-requires-clause-accepts
for_each_mut-requires-clause-accepts g c κs within i p low is = (
  ((c.requires.ready.0, c.requires.ready.1 i p.now (slice_get-get_or c.args.jobs.now i p.now low ∙ ap (λ (j : Job). Some j) (sym is))), c.requires.fits, c.requires.none_closes),
  (search (sendable, c.type_bounds.sync-R) depth 20, search (sendable, c.type_bounds.sync-M) depth 20),
)

pub returns : goal.returns
returns g c = record {
  back = λ past ready i j at. (
      let f = c.args.hall.now in
      let low = slice_get_within c.for_each_mut.new.s i j at in
      let long = c.for_each_mut.auto.s in
      let inside : i < length c.args.jobs.now = omega (arith, low, long) in
      let did = (c.for_each_mut.ensures i j inside).1 in
      let was = ready i did.argument.now (slice_get-get_or c.args.jobs.now i j inside ∙ ap (λ (x : Job). Some x) (sym did.argument_is)) in
      subst (λ (x : Job). IsJobBack f (c.args.first + i) c.args.commands.now past x) (did.left ∙ get_or_from_slice_get c.for_each_mut.new.s i j j at) (did.call past was)
      );
}
