use Rattle.std.proofs.Common.{Box, Global, option_map, refl, sym, ap, subst, IsSome}
use Rattle.core_tree.specs.volap_cell.specs.{Cells.{cell_of, gate_shard}, Values.{actor_of, job_of}, declared.job.Job.Job}
use Rattle.core_admin.specs.FreezeDue.{BeginsCollecting}
use Rattle.core_admin.proofs.Collecting.Drains.{drained-makes, is-gate}
use Rattle.core_admin.proofs.freezes.drained.Goals as goal

pub gate_seen-gate-requires : goal.gate_seen-gate-requires
gate_seen-gate-requires c =
    let (x, is) = is-gate c.args.h.now c.args.gate_at (cell_of c.args.gate.now) (actor_of c.args.actor.now) c.requires.here c.requires.due in
    subst IsSome (sym (ap gate_shard is)) refl

pub returns : goal.returns
returns c = record {
  made =
      drained-makes c.collect_laws.ensures.begins c.args.h.now c.args.gate_at (cell_of c.args.gate.now) c.gate_seen-gate.result.now (actor_of c.args.actor.now) _ (job_of c.lent-job.result.now.value) (job_of c.begin_collecting.new.job)
      c.requires.due c.gate_seen-gate.ensures (ap (option_map (λ (j : Box Job Global). job_of j.value)) c.lent-job.ensures.value)
      (subst (λ (x : Job). BeginsCollecting c.gate_seen-gate.result.now (job_of x) (job_of c.begin_collecting.new.job)) c.deref_mut.ensures.value c.begin_collecting.ensures)
      refl;
}
