use Rattle.std.proofs.Common.{Box, Global, Some, ◌∙◌, option_map, refl, sym, ap}
use Rattle.core_tree.specs.volap_cell.specs.{Cells.{cell_of}, Values.{actor_of, job_of}, declared.job.Job.Job}
use Rattle.core_tree.specs.volap_cell.proofs.{Outcomes.on-ok}
use Rattle.core_admin.proofs.Collecting.CollectsHere.{block-makes, has-noted, is-block}
use Rattle.core_admin.proofs.collects.collect_block.Goals as goal

pub block_seen-block-requires : goal.block_seen-block-requires
block_seen-block-requires c =
    is-block c.collect_laws.ensures.block c.args.h.now c.args.at (cell_of c.args.cell.now) (actor_of c.args.actor.now) c.requires.here c.requires.due

pub read_block-requires : goal.read_block-requires
read_block-requires c = record {
  noted = has-noted c.args.at (actor_of c.args.actor.now) (job_of c.deref_mut.result.now) c.requires.due
      (ap (option_map (λ (j : Box Job Global). job_of j.value)) c.lent-job.ensures.value ∙ ap (λ (j : Job). Some (job_of j)) (sym c.deref_mut.ensures.value));
}

pub returns-clause-made : goal.returns-clause-made
returns-clause-made c =
    on-ok c.read_block.result c.read_block.ensures.made (λ did.
    block-makes c.collect_laws.ensures.block c.collect_laws.ensures.reads c.args.h.now c.args.at (cell_of c.args.cell.now) c.block_seen-block.result.now (actor_of c.args.actor.now) _ (job_of c.deref_mut.result.now) (job_of c.read_block.new.job) c.requires.due
    c.block_seen-block.ensures
    (ap (option_map (λ (j : Box Job Global). job_of j.value)) c.lent-job.ensures.value ∙ ap (λ (j : Job). Some (job_of j)) (sym c.deref_mut.ensures.value))
    did refl)
