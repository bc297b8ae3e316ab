use Rattle.std.proofs.Common.{Box, Global, IsSome, Some, [], ap, option_map, refl, subst, sym, ◌∙◌, ◌∷◌}
use Rattle.core_tree.specs.volap_cell.specs.{Cells.{cell_of, gate_shard}, Lending.{owner_of, with_map}, Values.{ActorValue, actor_of, job_of}, World.held, declared.job.Job.Job}
use Rattle.core_tree.specs.volap_cell.proofs.{Outcomes.as-err}
use Rattle.core_admin.specs.FinishDue.{FinishesFor, MayFinish}
use Rattle.core_admin.proofs.{Building.BuiltUp.gate-there, GoneRoom.with-room, Moving.FinishReady.may-finish, Moving.MoveMade.{may-make-way, move-makes}}
use Rattle.core_admin.proofs.finishes.finish_move.Goals as goal

pub gate_in-gate-requires : goal.gate_in-gate-requires
gate_in-gate-requires c =
    let (x, is) = gate-there c.args.h.now (held c.args.from_at (cell_of c.args.from.now) ∷ held c.args.to_at (cell_of c.args.to.now) ∷ []) (held c.args.new_at (cell_of c.args.new.now) ∷ []) c.args.gate_at c.args.registry_at c.args.stock_at c.args.ledger_at (cell_of c.args.gate.now) (cell_of c.args.registry.now) (cell_of c.args.stock.now) (cell_of c.args.ledger.now) (actor_of c.args.actor.now) c.requires.here c.requires.due.moved.up in
    subst IsSome (sym (ap gate_shard is)) refl

pub make_way-requires : goal.make_way-requires
make_way-requires c = record {
  due = may-make-way c.args.h.now c.args.from_at (cell_of c.args.from.now) c.args.to_at (cell_of c.args.to.now) c.args.gate_at c.args.new_at c.args.registry_at c.args.stock_at c.args.ledger_at (cell_of c.args.gate.now) (cell_of c.args.new.now) (cell_of c.args.registry.now) (cell_of c.args.stock.now) (cell_of c.args.ledger.now) (actor_of c.args.actor.now) c.requires.here c.requires.due
      (owner_of c.args.from.now) c.map_in-from.result.now (ap cell_of c.map_in-from.ensures.value)
      c.gate_in-gate.result.now (ap cell_of c.gate_in-gate.ensures.value)
      (job_of c.deref.result.now) (ap (option_map (λ (j : Box Job Global). job_of j.value)) c.there-job.ensures ∙ ap (λ (j : Job). Some (job_of j)) (sym c.deref.ensures));
}

pub finish_for-requires : goal.finish_for-requires
finish_for-requires c = record {
  due = subst (λ (a : ActorValue). MayFinish c.gate_in-gate.result.now c.registry_in-registry.result.now c.stock_in-stock.result.now c.ledger_in-ledger.result.now a) (with-room c.args.actor.now c.reserve.new.self c.reserve.ensures.cells)
      (may-finish c.args.h.now (held c.args.from_at (cell_of c.args.from.now) ∷ held c.args.to_at (cell_of c.args.to.now) ∷ []) c.args.gate_at c.args.new_at c.args.registry_at c.args.stock_at c.args.ledger_at (cell_of c.args.gate.now) (cell_of c.args.new.now) (cell_of c.args.registry.now) (cell_of c.args.stock.now) (cell_of c.args.ledger.now) (actor_of c.args.actor.now) c.requires.here c.requires.due.moved
      c.gate_in-gate.result.now (ap cell_of c.gate_in-gate.ensures.value)
      c.registry_in-registry.result.now (ap cell_of c.registry_in-registry.ensures.value)
      c.stock_in-stock.result.now (ap cell_of c.stock_in-stock.ensures.value)
      c.ledger_in-ledger.result.now (ap cell_of c.ledger_in-ledger.ensures.value));
  room = c.in_ok-reserve.ensures.ok;
}

pub returns-clause-made : goal.returns-clause-made
returns-clause-made c =
    let job = ap (option_map (λ (j : Box Job Global). job_of j.value)) c.there-job.ensures ∙ ap (λ (j : Job). Some (job_of j)) (sym c.deref.ensures) in
    move-makes c.frame_law.ensures c.collect_laws.ensures.ends c.args.h.now c.args.from_at (cell_of c.args.from.now) c.args.to_at (cell_of c.args.to.now) c.args.gate_at c.args.new_at c.args.registry_at c.args.stock_at c.args.ledger_at (cell_of c.args.gate.now) (cell_of c.args.new.now) (cell_of c.args.registry.now) (cell_of c.args.stock.now) (cell_of c.args.ledger.now) (actor_of c.args.actor.now) c.requires.here c.requires.due
    (owner_of c.args.from.now) (owner_of c.args.to.now) c.map_in-from.result.now c.make_way.new.from c.map_in-to.result.now c.make_way.new.to
    (ap cell_of c.map_in-from.ensures.value) (ap cell_of c.map_in-to.ensures.value)
    c.gate_in-gate.result.now c.finish_for.new.gate c.in_ok-made.made.value (ap cell_of c.gate_in-gate.ensures.value) (cell_of c.put_gate.new.cell) c.put_gate.ensures
    c.registry_in-registry.result.now c.finish_for.new.registry (ap cell_of c.registry_in-registry.ensures.value)
    c.stock_in-stock.result.now c.finish_for.new.stock (ap cell_of c.stock_in-stock.ensures.value)
    c.ledger_in-ledger.result.now c.finish_for.new.ledger (ap cell_of c.ledger_in-ledger.ensures.value)
    (job_of c.deref.result.now) job (actor_of c.finish_for.new.actor)
    c.in_ok-made.ensures.made
    (subst (λ (a : ActorValue). FinishesFor c.args.h.now c.args.gate_at c.gate_in-gate.result.now c.finish_for.new.gate c.registry_in-registry.result.now c.finish_for.new.registry c.stock_in-stock.result.now c.finish_for.new.stock c.ledger_in-ledger.result.now c.finish_for.new.ledger a (actor_of c.finish_for.new.actor))
    (sym (with-room c.args.actor.now c.reserve.new.self c.reserve.ensures.cells)) c.finish_for.ensures)

pub returns-in_err-made-clause-refused : goal.returns-in_err-made-clause-refused
returns-in_err-made-clause-refused c =
    let k = c.in_err-made.ensures.refused in
    as-err c.from_residual-in_err-made.result (ap (with_map c.args.from.now) k.0 ∙ sym c.map_in-from.ensures.value, ap (with_map c.args.to.now) k.1 ∙ sym c.map_in-to.ensures.value, sym c.gate_in-gate.ensures.value, refl, sym c.registry_in-registry.ensures.value, sym c.stock_in-stock.ensures.value, sym c.ledger_in-ledger.ensures.value, sym (with-room c.args.actor.now c.reserve.new.self c.reserve.ensures.cells))

pub returns-in_err-reserve-clause-refused : goal.returns-in_err-reserve-clause-refused
returns-in_err-reserve-clause-refused c = as-err c.from_residual.result (refl, refl, refl, refl, refl, refl, refl, sym (with-room c.args.actor.now c.reserve.new.self c.reserve.ensures.cells))
