use Rattle.std.proofs.Common.{Box, Global, ◌∙◌, option_map, refl, sym, ap, subst, IsSome, Some}
use Rattle.core_tree.specs.volap_cell.specs.{Cells.{cell_of, gate_shard}, Lending.{with_stock, with_gate}, Values.{actor_of, job_of}, declared.job.Job.Job}
use Rattle.core_tree.specs.volap_cell.proofs.{Outcomes.{on-ok, on-err}}
use Rattle.core_admin.proofs.Collecting.FreezesHere.{freeze-gate, freeze-makes, is-freezable}
use Rattle.core_admin.proofs.freezes.freeze.Goals as goal

pub gate_in-gate-requires : goal.gate_in-gate-requires
gate_in-gate-requires c =
    let (x, is) = freeze-gate c.tree_laws.ensures.gate c.args.h.now c.args.map_at (cell_of c.args.map.now) c.args.gate_at (cell_of c.args.gate.now) c.args.stock_at (cell_of c.args.stock.now) (actor_of c.args.actor.now) c.requires.here c.requires.due in
    subst IsSome (sym (ap gate_shard is)) refl

pub freeze_for-requires : goal.freeze_for-requires
freeze_for-requires c = record {
  gate = is-freezable c.tree_laws.ensures.gate c.args.h.now c.args.map_at (cell_of c.args.map.now) c.args.gate_at (cell_of c.args.gate.now) c.args.stock_at (cell_of c.args.stock.now) (actor_of c.args.actor.now) c.requires.here c.requires.due
      c.gate_in-gate.result.now (ap cell_of c.gate_in-gate.ensures.value);
}

pub returns-clause-made : goal.returns-clause-made
returns-clause-made c =
    on-ok c.freeze_for.result c.freeze_for.ensures.made (λ did.
    freeze-makes c.tree_laws.ensures.gate c.args.h.now c.args.map_at (cell_of c.args.map.now) c.args.gate_at (cell_of c.args.gate.now) c.args.stock_at (cell_of c.args.stock.now) (actor_of c.args.actor.now) c.requires.here c.requires.due
    c.gate_in-gate.result.now c.freeze_for.new.gate c.stock_in-stock.result.now c.freeze_for.new.stock c.args.actor.now.purse c.freeze_for.new.purse (job_of c.deref_mut.result.now) (job_of c.freeze_for.new.job) _
    (ap cell_of c.gate_in-gate.ensures.value)
    (ap cell_of c.stock_in-stock.ensures.value)
    refl
    (ap (option_map (λ (j : Box Job Global). job_of j.value)) c.lent-job.ensures.value ∙ ap (λ (j : Job). Some (job_of j)) (sym c.deref_mut.ensures.value))
    refl did)

pub returns-clause-refused : goal.returns-clause-refused
returns-clause-refused c =
    on-err c.freeze_for.result c.freeze_for.ensures.refused (λ k.
    let job = ap Some (k.3 ∙ ap job_of c.deref_mut.ensures.value) ∙ sym (ap (option_map (λ (j : Box Job Global). job_of j.value)) c.lent-job.ensures.value) in
    (refl, ap (with_gate c.args.gate.now) k.0 ∙ sym c.gate_in-gate.ensures.value, ap (with_stock c.args.stock.now) k.1 ∙ sym c.stock_in-stock.ensures.value, (λ i. record (actor_of c.args.actor.now) { purse = k.2 i; job = job i })))
