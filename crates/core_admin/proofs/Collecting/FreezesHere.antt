-- What the call that freezes a shard asks for, and what it did.
use Rattle.std.proofs.Common.{◌≡◌, ℕ, ◌+◌, List, [], ◌∷◌, true, length, Option, Some, refl, sym, ap, ◌∙◌, subst, inl, inr, arith}
use Rattle.cell_stock.specs.Stock.{PurseValue, StockValue}
use Rattle.dim_hierarchy.specs.Dimension.{Dimension}
use Rattle.describing_set.specs.{Sets.IsDescSetOf, declared.plane.Plane.Plane}
use Rattle.mapping_table.specs.declared.place.Where.TheVariants as where_is
use Rattle.row_ledger.specs.{Workers.is_on, declared.settings.Decline.Decline, declared.settings.Decline.TheVariants.{NoCell, OnePlace}}
use Rattle.core_tree.specs.shard_store.specs.{declared.gate.Gate.Gate, declared.gate.Phase.Phase, declared.queue.Queue.Queue}
use Rattle.core_tree.specs.tree_shape.specs.Laws.{GateLaw}
use Rattle.core_tree.specs.volap_cell.specs.{AdminKinds.{Declines, DoesFreeze, Freezes, cells_needed, rows_at}, Cells.{CellValue, GateCell, StockCell, gate_shard, phase_of, queue_in, way_in, way_to_tree}, Setting.Setting, Steps.{IsHere, Makes}, TreeKinds.Leads, Values.{ActorValue, JobValue}, View.{View, view}, Working.frozen_in, World.{Change, change, held}, declared.kind.Kind.TheVariants.Freeze}
use Rattle.core_tree.specs.volap_cell.proofs.Views.Shown.{held-leads}
use Rattle.core_admin.specs.FreezeDue.{CanFreeze, DeclinesJob, FreezesFor, FreezesGate, IsFreezable}
use Rattle.core_admin.proofs.{Collecting.FreezesShard.freeze-keeps, Collecting.FrozenGates.{gate-of, shard-gate}, Collecting.ShardRows.{rows-count, rows-few, tree-set}}

-- What the invariant gives of the cells that are held.

module _ (gates : GateLaw) (h : List Dimension) (map_at : ℕ) (table : CellValue) (gate_at : ℕ) (cell : CellValue) (stock_at : ℕ) (stock : CellValue) (a : ActorValue) (k : IsHere h (held map_at table ∷ held gate_at cell ∷ held stock_at stock ∷ []) a) (due : CanFreeze map_at table gate_at stock a) where
  abbrev s : Setting
  s = a.setting

  abbrev v : View
  v = view s k.world

  is-job : (k.world.actors k.number).job ≡ Some due.job
  is-job = ap (λ (z : ActorValue). z.job) k.agrees.actor_is ∙ due.has.is_job

  front : is_on s.workers v.history due.job.shard due.job.worker ≡ true
  front = k.inv.holds.working.front k.number due.job is-job

  leads : k.inv.ghost_of.gate due.job.shard ≡ gate_at
  leads = (k.inv.holds.lineage.leads due.job.worker due.job.shard gate_at (held-leads s k.world k.inv.holds.numbering.tag (held map_at table) k.agrees.cells.0 due.job.worker due.job.shard _ due.leads).1).1

  -- its purse is empty
  pub freeze-empty : a.purse ≡ []
  freeze-empty = ap (λ (z : ActorValue). z.purse) (sym k.agrees.actor_is) ∙ k.inv.holds.working.unspent k.number due.job is-job (ap frozen_in due.has.stage_is)

  -- the second cell is a gate, which may be frozen
  pub freeze-gate : (x : Gate) × (cell ≡ GateCell x)
  freeze-gate =
      let its = gate-of s v k.inv.ghost_of k.inv.holds k.number due.job is-job in
      shard-gate cell due.job.shard (ap gate_shard (sym k.agrees.cells.1.0) ∙ ap v.gates (sym leads) ∙ its.gate_is)

  pub is-freezable : (x : Gate) → cell ≡ GateCell x → IsFreezable h x
  is-freezable x is =
      let g = k.inv.ghost_of in
      let its = gate-of s v g k.inv.holds k.number due.job is-job in
      let there : k.world.cells (g.gate due.job.shard) ≡ GateCell x = ap k.world.cells leads ∙ k.agrees.cells.1.0 ∙ is in
      let count = rows-count gates s k.world g k.inv.holds due.job.shard due.job.worker front in
      let few = rows-few gates s k.world g k.inv.holds due.job.shard due.job.worker front in
      let all = k.inv.holds.owing.few in
      let queue : v.queues (g.gate due.job.shard) ≡ x.queue = ap queue_in there in
      let tree : v.trees (g.gate due.job.shard) ≡ way_to_tree x = ap way_in there in
      let here : (v.trees (g.gate due.job.shard)).agg.count + length (v.queues (g.gate due.job.shard)).rows ≡ rows_at x = (λ j. (tree j).agg.count + length (queue j).rows) in
      subst (λ (z : List Dimension). IsFreezable z x) k.about (record {
        set = subst (λ (z : Gate). IsDescSetOf s.hierarchy z.set) tree (tree-set gates s k.world g k.inv.holds due.job.shard due.job.worker front);
        queue = subst (λ (z : Queue). IsDescSetOf s.hierarchy z.set) queue (k.inv.holds.queueing.queue (g.gate due.job.shard) its.whole.0).valid;
        few = omega (arith, count, few, all, here);
        stands = λ e. its.stands (ap phase_of there ∙ ap (λ (p : Phase). Some p) e);
      })

  -- What it did.

  module _ (gate gate_now : Gate) (stock_was stock_now : StockValue) (purse purse_now : PurseValue) (job job_now : JobValue) (b : ActorValue) (is : cell ≡ GateCell gate) (is_stock : stock ≡ StockCell stock_was) (is_purse : purse.spares ≡ a.purse) (is_job : a.job ≡ Some job)
      (actor_is : b ≡ record a { purse = purse_now.spares; job = Some job_now }) where
    abbrev g : Change
    g = change gate_at cell (GateCell gate_now)

    abbrev c : Change
    c = change stock_at stock (StockCell stock_now)

    same-job : due.job ≡ job
    same-job = (let both : Some due.job ≡ Some job = sym due.has.is_job ∙ is_job in cc)

    declines : (why : Decline) → DeclinesJob why gate gate_now stock_was stock_now purse purse_now job job_now → Declines job why gate stock_was g c a b
    declines why d = (
      record { was = is; is = ap GateCell d.0 },
      record { was = is_stock; is = ap StockCell d.1 },
      actor_is ∙ (λ j. record a { purse = (ap (λ (p : PurseValue). p.spares) d.2 ∙ is_purse) j; job = Some (d.3 j) }),
    )

    frees : (plane : Option Plane) → FreezesGate gate_at plane gate gate_now stock_was stock_now purse purse_now job job_now → Freezes job plane gate stock_was g c a b
    frees plane d = record {
      stock_now = stock_now;
      purse = d.takes.roomy;
      purse_now = purse_now;
      purse_was = d.takes.same ∙ is_purse;
      purse_is = ap (λ (z : ActorValue). z.purse) (sym actor_is);
      takes = d.takes.takes;
      stamps = d.takes.stamps;
      turns = record { was = is_stock; is = refl };
      frozen = record { was = is; is = ap GateCell d.frozen };
      actor_is = actor_is ∙ (λ j. record a { purse = (ap (λ (z : ActorValue). z.purse) (sym actor_is)) j; job = Some (d.is j) });
    }

    pub freeze-makes : FreezesFor h gate_at gate gate_now stock_was stock_now purse purse_now job job_now → Makes h Freeze (change map_at table table ∷ change gate_at cell (GateCell gate_now) ∷ change stock_at stock (StockCell stock_now) ∷ []) a b
    freeze-makes did =
        let does : DoesFreeze h (change map_at table table) g c a b = record {
          job = job;
          has = record { is_job = is_job; stage_is = ap (λ (j : JobValue). j.stage) (sym same-job) ∙ due.has.stage_is };
          empty = freeze-empty;
          leads = subst (λ (j : JobValue). Leads (held map_at table) j.worker j.shard (where_is.Gate gate_at)) same-job due.leads;
          gate = gate;
          stock = stock_was;
          standing = (is-freezable gate is).stands;
          set = did.set;
          set_of = did.set_of;
          does = elim did.does [
            | inl none ↦ inl (none.0, declines OnePlace none.1)
            | inr some ↦ inr (
              some.0,
              some.1,
              elim some.2 [
                | inl few ↦ inl (few.0, declines (NoCell (cells_needed job.to (rows_at gate)) (length stock_was.free)) few.1)
                | inr enough ↦ inr (enough.0, frees some.0 enough.1)
              ],
            )
          ];
        } in
        record { does = does; keeps = freeze-keeps gates h (change map_at table table) g c a b does }
