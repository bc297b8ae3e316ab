use Rattle.std.proofs.Common.{Box, Global, IsSome, Some, [], ap, option_map, refl, subst, sym, ℕ, ◌+◌, ◌<◌, ◌^◌, ◌≡◌, ◌∙◌, ◌∷◌}
use Rattle.cell_stock.specs.Stock.{StockValue}
use Rattle.core_tree.specs.volap_cell.specs.{Cells.{StockCell, cell_of, gate_shard}, Lending.{owner_of, with_stock, with_registry, with_map}, Values.{ActorValue, actor_of, job_of}, World.held, declared.job.Job.Job}
use Rattle.core_tree.specs.volap_cell.proofs.{Outcomes.as-err}
use Rattle.core_admin.specs.SplitDue.{DividesShard, FinishesDivided, MayDivideShard, MayFinishSplit}
use Rattle.core_admin.proofs.{Building.BuiltUp.gate-there, GoneRoom.with-room, Splitting.SplitMade.split-makes, Splitting.SplitReady.{ids-few, may-divide, may-finish-split}}
use Rattle.core_admin.proofs.splits.finish_split.Goals as goal

pub gate_in-gate-requires : goal.gate_in-gate-requires
gate_in-gate-requires c =
    let (x, is) = gate-there c.args.h.now (held c.args.table_at (cell_of c.args.table.now) ∷ []) (held c.args.left_at (cell_of c.args.left.now) ∷ held c.args.right_at (cell_of c.args.right.now) ∷ []) c.args.gate_at c.args.registry_at c.args.stock_at c.args.ledger_at (cell_of c.args.gate.now) (cell_of c.args.registry.now) (cell_of c.args.stock.now) (cell_of c.args.ledger.now) (actor_of c.args.actor.now) c.requires.here c.requires.due.up in
    subst IsSome (sym (ap gate_shard is)) refl

-- with an equal stock
same-ids : (first : ℕ) (stock now : StockValue) → now ≡ stock → (first ≡ stock.ids) × (first + 2 < 2 ^ 32) → (first ≡ now.ids) × (now.ids + 2 < 2 ^ 32)
same-ids first stock now is ids =
    let first_is : first ≡ now.ids = ids.0 ∙ ap (λ (k : StockValue). k.ids) (sym is) in
    (first_is, subst (λ (k : ℕ). k + 2 < 2 ^ 32) first_is ids.1)

pub next_ids-requires : goal.next_ids-requires
next_ids-requires c = record {
  few = ids-few c.args.h.now c.args.table_at (cell_of c.args.table.now) c.args.gate_at c.args.left_at c.args.right_at c.args.registry_at c.args.stock_at c.args.ledger_at (cell_of c.args.gate.now) (cell_of c.args.left.now) (cell_of c.args.right.now) (cell_of c.args.registry.now) (cell_of c.args.stock.now) (cell_of c.args.ledger.now) (actor_of c.args.actor.now) c.requires.here c.requires.due
      c.gate_in-gate.result.now (ap cell_of c.gate_in-gate.ensures.value)
      c.stock_in-stock.result.now (ap cell_of c.stock_in-stock.ensures.value);
}

pub divide-requires : goal.divide-requires
divide-requires c =
    let ids = same-ids c.in_ok-first.first c.stock_in-stock.result.now c.stock_in-stock.result.now refl c.in_ok-first.ensures.ok in record {
      due = subst (λ (k : ℕ). MayDivideShard c.args.h.now c.map_in-table.result.now c.gate_in-gate.result.now c.registry_in-registry.result.now k (job_of c.deref.result.now)) (sym ids.0)
          (may-divide c.args.h.now c.args.table_at (cell_of c.args.table.now) c.args.gate_at c.args.left_at c.args.right_at c.args.registry_at c.args.stock_at c.args.ledger_at (cell_of c.args.gate.now) (cell_of c.args.left.now) (cell_of c.args.right.now) (cell_of c.args.registry.now) (cell_of c.args.stock.now) (cell_of c.args.ledger.now) (actor_of c.args.actor.now) c.requires.here c.requires.due
          c.gate_in-gate.result.now (ap cell_of c.gate_in-gate.ensures.value)
          c.stock_in-stock.result.now (ap cell_of c.stock_in-stock.ensures.value)
          ids.1 c.collect_laws.ensures.ends c.tree_laws.ensures.gate
          (owner_of c.args.table.now) c.map_in-table.result.now (ap cell_of c.map_in-table.ensures.value)
          c.registry_in-registry.result.now (ap cell_of c.registry_in-registry.ensures.value)
          (job_of c.deref.result.now) (ap (option_map (λ (j : Box Job Global). job_of j.value)) c.there-job.ensures ∙ ap (λ (j : Job). Some (job_of j)) (sym c.deref.ensures)));
    }

pub finish_divided-requires : goal.finish_divided-requires
finish_divided-requires c =
    let same : c.next_ids.new.stock ≡ c.stock_in-stock.result.now = c.in_ok-first.ensures.unchanged in
    let ids = same-ids c.in_ok-first.first c.stock_in-stock.result.now c.next_ids.new.stock same c.in_ok-first.ensures.ok in record {
      due = subst (λ (a : ActorValue). MayFinishSplit c.gate_in-gate.result.now c.next_ids.new.stock c.ledger_in-ledger.result.now a) (with-room c.args.actor.now c.reserve.new.self c.reserve.ensures.cells)
          (may-finish-split c.args.h.now c.args.table_at (cell_of c.args.table.now) c.args.gate_at c.args.left_at c.args.right_at c.args.registry_at c.args.stock_at c.args.ledger_at (cell_of c.args.gate.now) (cell_of c.args.left.now) (cell_of c.args.right.now) (cell_of c.args.registry.now) (cell_of c.args.stock.now) (cell_of c.args.ledger.now) (actor_of c.args.actor.now) c.requires.here c.requires.due
          c.gate_in-gate.result.now (ap cell_of c.gate_in-gate.ensures.value)
          c.next_ids.new.stock (ap cell_of c.stock_in-stock.ensures.value ∙ ap StockCell (sym same))
          ids.1
          c.ledger_in-ledger.result.now (ap cell_of c.ledger_in-ledger.ensures.value));
      room = c.in_ok-reserve.ensures.ok;
    }

pub returns-clause-made : goal.returns-clause-made
returns-clause-made c =
    let same : c.next_ids.new.stock ≡ c.stock_in-stock.result.now = c.in_ok-first.ensures.unchanged in
    let ids = same-ids c.in_ok-first.first c.stock_in-stock.result.now c.next_ids.new.stock same c.in_ok-first.ensures.ok in
    let way = subst (λ (k : ℕ). DividesShard c.args.h.now c.args.left_at c.args.right_at c.map_in-table.result.now c.divide.new.table c.gate_in-gate.result.now c.registry_in-registry.result.now c.divide.new.registry k (job_of c.deref.result.now) c.in_ok-one.one.value c.in_ok-one.two.value) ids.0
    c.in_ok-one.ensures.made in
    split-makes c.frame_law.ensures c.collect_laws.ensures.ends c.tree_laws.ensures.gate c.args.h.now c.args.table_at (cell_of c.args.table.now) c.args.gate_at c.args.left_at c.args.right_at c.args.registry_at c.args.stock_at c.args.ledger_at (cell_of c.args.gate.now) (cell_of c.args.left.now) (cell_of c.args.right.now) (cell_of c.args.registry.now) (cell_of c.args.stock.now) (cell_of c.args.ledger.now) (actor_of c.args.actor.now) c.requires.here c.requires.due
    (owner_of c.args.table.now) c.map_in-table.result.now c.divide.new.table (ap cell_of c.map_in-table.ensures.value)
    c.gate_in-gate.result.now c.finish_divided.new.gate c.in_ok-one.one.value c.in_ok-one.two.value (ap cell_of c.gate_in-gate.ensures.value)
    (cell_of c.put_gate.new.cell) c.put_gate.ensures (cell_of c.put_gate-2.new.cell) c.put_gate-2.ensures
    c.registry_in-registry.result.now c.divide.new.registry (ap cell_of c.registry_in-registry.ensures.value)
    c.next_ids.new.stock c.finish_divided.new.stock (ap cell_of c.stock_in-stock.ensures.value ∙ ap StockCell (sym same))
    c.ledger_in-ledger.result.now c.finish_divided.new.ledger (ap cell_of c.ledger_in-ledger.ensures.value)
    (job_of c.deref.result.now) (ap (option_map (λ (j : Box Job Global). job_of j.value)) c.there-job.ensures ∙ ap (λ (j : Job). Some (job_of j)) (sym c.deref.ensures)) (actor_of c.finish_divided.new.actor) way
    (subst (λ (a : ActorValue). FinishesDivided c.args.h.now c.args.gate_at c.gate_in-gate.result.now c.finish_divided.new.gate c.next_ids.new.stock c.finish_divided.new.stock c.ledger_in-ledger.result.now c.finish_divided.new.ledger a (actor_of c.finish_divided.new.actor))
    (sym (with-room c.args.actor.now c.reserve.new.self c.reserve.ensures.cells)) c.finish_divided.ensures)
    ids.1

pub returns-in_err-first-clause-refused : goal.returns-in_err-first-clause-refused
returns-in_err-first-clause-refused c =
    as-err c.from_residual-in_err-first.result (sym c.map_in-table.ensures.value, sym c.gate_in-gate.ensures.value, refl, refl, sym c.registry_in-registry.ensures.value, ap (with_stock c.args.stock.now) c.in_err-first.ensures.unchanged ∙ sym c.stock_in-stock.ensures.value, sym c.ledger_in-ledger.ensures.value, sym (with-room c.args.actor.now c.reserve.new.self c.reserve.ensures.cells))

pub returns-in_err-one-clause-refused : goal.returns-in_err-one-clause-refused
returns-in_err-one-clause-refused c =
    let k = c.in_err-one.ensures.refused in
    as-err c.from_residual-in_err-one.result (ap (with_map c.args.table.now) k.0 ∙ sym c.map_in-table.ensures.value, sym c.gate_in-gate.ensures.value, refl, refl, ap (with_registry c.args.registry.now) k.1 ∙ sym c.registry_in-registry.ensures.value, ap (with_stock c.args.stock.now) c.in_ok-first.ensures.unchanged ∙ sym c.stock_in-stock.ensures.value, sym c.ledger_in-ledger.ensures.value, sym (with-room c.args.actor.now c.reserve.new.self c.reserve.ensures.cells))

pub returns-in_err-reserve-clause-refused : goal.returns-in_err-reserve-clause-refused
returns-in_err-reserve-clause-refused c = as-err c.from_residual.result (refl, refl, refl, refl, refl, refl, refl, sym (with-room c.args.actor.now c.reserve.new.self c.reserve.ensures.cells))
