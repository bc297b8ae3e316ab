-- The call that uses a gate's own cell again: what it asks of the stock, and what it did.
use Rattle.std.proofs.Common.{◌≡◌, ℕ, ◌+◌, List, [], ◌∷◌, ◌++◌, Option, Some, IsSome, refl, sym, ap, ◌∙◌, subst}
use Rattle.cell_stock.specs.Stock.{IsOut, StockValue}
use Rattle.dim_hierarchy.specs.Dimension.{Dimension}
use Rattle.core_tree.specs.shard_store.specs.{declared.gate.Gate.Gate, declared.gate.Phase.Phase, declared.gate.Phase.TheVariants.Gone}
use Rattle.core_tree.specs.tree_shape.specs.Laws.{OtherLaw}
use Rattle.core_tree.specs.volap_cell.specs.{AdminKinds.ReusesGate, Cells.{CellValue, FreeCell, GateCell, StockCell, gate_shard, gone_in, phase_of, pins_in}, Ghost.{AGate, Ghost, NotOfStock, is_unused}, Reusing.without_gate, Setting.Setting, Steps.{IsHere, Makes}, Values.ActorValue, World.{World, change, held}}
use Rattle.core_admin.specs.ReuseDue.{CanReuseGate}
use Rattle.core_admin.proofs.{Reusing.FreesGate.reuse-gate-keeps, Reusing.ReusesHere.{gate-in, is-out}}
use Rattle.core_tree.specs.volap_cell.specs.declared.kind.Kind.TheVariants as kind

module _ (other : OtherLaw) (h : List Dimension) (gate_at stock_at : ℕ) (gate stock : CellValue) (a : ActorValue) (here : IsHere h (held gate_at gate ∷ held stock_at stock ∷ []) a) (due : CanReuseGate gate stock a) where
  abbrev s : Setting
  s = a.setting

  abbrev w : World
  w = here.world

  abbrev g : Ghost
  g = here.inv.ghost_of

  is-gate : (z : Gate) × (gate ≡ GateCell z)
  is-gate = gate-in gate Gone due.can.gone

  owner : g.owner gate_at ≡ AGate
  owner = here.inv.holds.stocking.gate gate_at (subst IsSome (sym (ap gate_shard (here.agrees.cells.0 ∙ is-gate.1))) refl)

  pub gate-out : (value : StockValue) → stock ≡ StockCell value → IsOut value gate_at
  gate-out value is = is-out s w g here.inv.holds gate_at stock_at value (here.agrees.cells.1.0 ∙ is)
      (λ e. let no : AGate ≡ NotOfStock = sym owner ∙ e in cc) (ap is_unused owner)

  pub reuse-gate-makes : (value : StockValue) (gate2 stock2 : CellValue) → stock ≡ StockCell value → gate2 ≡ FreeCell → stock2 ≡ StockCell (record value { free = value.free ++ gate_at ∷ [] })
      → (b : ActorValue) → b ≡ record a { gone_gates = without_gate gate_at a.gone_gates } → Makes h kind.Reuse (change gate_at gate gate2 ∷ change stock_at stock stock2 ∷ []) a b
  reuse-gate-makes value gate2 stock2 stock_is free stock_is2 b actor_is =
      let phase : ◌≡◌ {A = Option Phase} (Some is-gate.0.phase) (Some Gone) = ap phase_of (sym is-gate.1) ∙ due.can.gone in
      let does : ReusesGate (change gate_at gate gate2) (change stock_at stock stock2) a b = record {
        gate = is-gate.0;
        may = record { role = due.can.role; no_command = due.can.no_command; is_gone = cc; unpinned = ap pins_in (sym is-gate.1) ∙ due.can.unpinned };
        empty = ap gone_in (sym is-gate.1) ∙ due.empty;
        was = is-gate.1;
        freed = free;
        frees = record { stock = value; was = stock_is; is = stock_is2 };
        actor_is = actor_is;
      } in
      record { does = does; keeps = reuse-gate-keeps other h (change gate_at gate gate2) (change stock_at stock stock2) a b does }
