use Rattle.std.proofs.Common.{Some, ap, option_map, sym, ◌∙◌}
use Rattle.core_tree.specs.volap_cell.specs.{Cells.cell_of, Values.{actor_of, job_of}, declared.job.Job.Job}
use Rattle.core_admin.proofs.Building.BuildsBlock.{build-makes, is-unbuilt}
use Rattle.core_admin.proofs.builds.build_block.Goals as goal

pub build_next-requires : goal.build_next-requires
build_next-requires c = is-unbuilt c.args.at (actor_of c.args.actor.now) c.deref_mut.result.now c.requires.due
    (ap (option_map (λ j. job_of j.value)) c.lent-job.ensures.value ∙ ap (λ (j : Job). Some (job_of j)) (sym c.deref_mut.ensures.value))

pub returns : goal.returns
returns c = record {
  made = build-makes c.frame_law.ensures c.collect_laws.ensures.other c.args.h.now c.args.at (cell_of c.args.cell.now) (cell_of c.build_next.new.cell) (actor_of c.args.actor.now)
      c.deref_mut.result.now c.build_next.new.job c.requires.due
      (ap (option_map (λ j. job_of j.value)) c.lent-job.ensures.value ∙ ap (λ (j : Job). Some (job_of j)) (sym c.deref_mut.ensures.value)) c.build_next.ensures;
}
