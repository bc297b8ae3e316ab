use Rattle.std.proofs.Common.{Box, Global, Some, ◌∙◌, option_map, refl, sym, ap}
use Rattle.core_tree.specs.volap_cell.specs.{Cells.cell_of, Values.{actor_of, job_of}, declared.job.Job.Job}
use Rattle.core_tree.specs.volap_cell.proofs.Outcomes.{on-ok}
use Rattle.core_admin.proofs.Building.BuildsHere.{build-makes, may-build}
use Rattle.core_admin.proofs.trees.build_trees.Goals as goal

pub build_for-requires : goal.build_for-requires
build_for-requires c = record {
  due = may-build c.parts_fit.ensures c.collect_laws.ensures.ends c.args.h.now c.args.gate_at (cell_of c.args.gate.now) (actor_of c.args.actor.now) c.requires.here c.requires.due (job_of c.deref_mut.result.now)
      (ap (option_map (λ (j : Box Job Global). job_of j.value)) c.lent-job.ensures.value ∙ ap (λ (j : Job). Some (job_of j)) (sym c.deref_mut.ensures.value));
}

pub returns-clause-made : goal.returns-clause-made
returns-clause-made c =
    on-ok c.build_for.result c.build_for.ensures.made (λ did.
    build-makes c.parts_fit.ensures c.collect_laws.ensures.ends c.args.h.now c.args.gate_at (cell_of c.args.gate.now) (actor_of c.args.actor.now) c.requires.here c.requires.due c.collect_laws.ensures.block c.collect_laws.ensures.reads
    c.args.actor.now.purse c.build_for.new.purse (job_of c.deref_mut.result.now) (job_of c.build_for.new.job) _
    (ap (option_map (λ (j : Box Job Global). job_of j.value)) c.lent-job.ensures.value ∙ ap (λ (j : Job). Some (job_of j)) (sym c.deref_mut.ensures.value))
    refl did refl)
