use Rattle.std.proofs.Common.{Box, Global, Some, ◌∙◌, option_map, refl, sym, ap}
use Rattle.core_tree.specs.volap_cell.specs.{Cells.{cell_of}, Values.{actor_of, job_of}, declared.job.Job.Job}
use Rattle.core_tree.specs.volap_cell.proofs.Outcomes.{on-ok}
use Rattle.core_admin.proofs.Collecting.CollectsHere.{has-more, row-makes}
use Rattle.core_admin.proofs.collects.collect_row.Goals as goal

pub take_row-requires : goal.take_row-requires
take_row-requires c = record {
  more = has-more c.args.h.now c.args.gate_at (cell_of c.args.gate.now) (actor_of c.args.actor.now) c.gate_seen-gate.result.now (job_of c.deref_mut.result.now) c.requires.here c.requires.due
      c.gate_seen-gate.ensures
      (ap (option_map (λ (j : Box Job Global). job_of j.value)) c.lent-job.ensures.value ∙ ap (λ (j : Job). Some (job_of j)) (sym c.deref_mut.ensures.value));
}

pub returns-clause-made : goal.returns-clause-made
returns-clause-made c =
    on-ok c.take_row.result c.take_row.ensures.made (λ did.
    row-makes c.collect_laws.ensures.block c.collect_laws.ensures.reads c.args.h.now c.args.gate_at (cell_of c.args.gate.now) c.gate_seen-gate.result.now (actor_of c.args.actor.now) _ (job_of c.deref_mut.result.now) (job_of c.take_row.new.job) c.requires.due
    c.gate_seen-gate.ensures
    (ap (option_map (λ (j : Box Job Global). job_of j.value)) c.lent-job.ensures.value ∙ ap (λ (j : Job). Some (job_of j)) (sym c.deref_mut.ensures.value))
    did refl)
