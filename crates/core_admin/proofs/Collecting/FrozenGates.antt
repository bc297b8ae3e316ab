-- The gate of the shard of a job: it stands, its tree is whole, and its queue has no more rows than there are events.
use Rattle.std.proofs.{Common.{◌≡◌, ◌≢◌, ℕ, ◌+◌, ◌-◌, ◌^◌, ◌<◌, ◌≤◌, Bool, true, cond, List, [], ◌∷◌, length, Some, IsSome, refl, sym, ap, subst, inl, arith, ◌∙◌}, lemmas.List.length-map}
use Rattle.cell_stock.specs.declared.purse.Spare.{Spare}
use Rattle.dc_node.specs.declared.entry.Entry.{Entry}
use Rattle.dim_hierarchy.specs.declared.row.Row.{Row}
use Rattle.row_ledger.specs.{Shards.is_live, Workers.is_on}
use Rattle.core_tree.specs.shard_store.specs.{declared.gate.Gate.Gate, declared.gate.Phase.Phase}
use Rattle.core_tree.specs.shard_store.specs.declared.gate.Phase.TheVariants as phase
use Rattle.list_words.specs.Counts.{Each, same, times}
use Rattle.list_words.proofs.{Times.same-le, Truth.{on_bool, eqb-self}}
use Rattle.core_tree.specs.tree_shape.specs.{Shape.{Shape, TreeCells, Node, Table, nodes, gate_node, node_of, numbers}, Steps.{AreSpares, IsSpare}, Trees.IsTree}
use Rattle.core_tree.specs.volap_cell.specs.{Cells.{CellValue, FreeCell, LedgerCell, StockCell, RegistryCell, ImageCell, DeskCell, MapCell, GateCell, BlockCell, gate_shard, phase_of}, Ghost.Ghost, Growing.table_of, Invariant.InvWith, Setting.Setting, Stocking.{IsWhole, cells_at}, Values.JobValue, View.View, Working.{IsFrozenFor, frozen_in}, declared.job.Frozen.Frozen}
use Rattle.core_tree.specs.volap_cell.proofs.{Counting.length-few, OneEvent.Older.insert-within}

-- a cell with a phase is a gate
pub phase-gate : (c : CellValue) (p : Phase) → phase_of c ≡ Some p → (x : Gate) × (c ≡ GateCell x)
phase-gate (GateCell x) p is = (x, refl)
phase-gate FreeCell p is = absurd (cc)
phase-gate (LedgerCell l) p is = absurd (cc)
phase-gate (StockCell s) p is = absurd (cc)
phase-gate (RegistryCell r) p is = absurd (cc)
phase-gate (ImageCell s i) p is = absurd (cc)
phase-gate (DeskCell s d) p is = absurd (cc)
phase-gate (MapCell w m) p is = absurd (cc)
phase-gate (BlockCell b) p is = absurd (cc)

-- and so is one of a shard
pub shard-gate : (c : CellValue) (x : ℕ) → gate_shard c ≡ Some x → (y : Gate) × (c ≡ GateCell y)
shard-gate (GateCell y) x is = (y, refl)
shard-gate FreeCell x is = absurd (cc)
shard-gate (LedgerCell l) x is = absurd (cc)
shard-gate (StockCell s) x is = absurd (cc)
shard-gate (RegistryCell r) x is = absurd (cc)
shard-gate (ImageCell s i) x is = absurd (cc)
shard-gate (DeskCell s d) x is = absurd (cc)
shard-gate (MapCell w m) x is = absurd (cc)
shard-gate (BlockCell b) x is = absurd (cc)

-- the shard of a job stands, where its map leads
pub record IsGateOf (s : Setting) (v : View) (g : Ghost) (x worker c : ℕ) : Type 0 where
  pub leads : g.gate x ≡ c
  pub gate_is : v.gates c ≡ Some x
  pub stands : v.phases c ≢ Some phase.Gone
  pub live : is_live s.workers v.history x ≡ true
  pub whole : IsWhole v.gates v.phases v.pins c
  pub tree : IsTree (table_of s v.row) (cells_at v.blocks v.trees c) (g.shape c)

-- a row in its tree has passed a gate
pub stands-placed : (s : Setting) (v : View) (g : Ghost) → InvWith s v g → (x worker c : ℕ) → IsGateOf s v g x worker c → (r : ℕ) → (g.shape c).placed r ≡ true → g.placed r ≡ true
stands-placed s v g i x worker c its r pl =
    let one = i.placing.one x r its.live in
    let here : (g.shape (g.gate x)).placed r ≡ true = ap (λ (y : ℕ). (g.shape y).placed r) its.leads ∙ pl in
    let count : ◌≡◌ {A = ℕ} (cond ((g.shape (g.gate x)).placed r) 1 0) 1 = ap (λ (b : Bool). cond b 1 0) here in
    on_bool (g.placed r) (λ q. q)
    (λ q. let z : ◌≡◌ {A = ℕ} (cond (g.placed r) (same (g.home r) x) 0) 0 = ap (λ (b : Bool). cond b (same (g.home r) x) 0) q in absurd (omega (arith, one, z, count)))

-- the gate of a shard that stands
pub gate-on : (s : Setting) (v : View) (g : Ghost) → InvWith s v g → (x worker : ℕ) → is_on s.workers v.history x worker ≡ true → IsGateOf s v g x worker (g.gate x)
gate-on s v g i x worker on =
    let (leads, is, stands) = i.lineage.gate_of x worker on in
    let whole : IsWhole v.gates v.phases v.pins (g.gate x) = (subst IsSome (sym is) refl, inl stands) in
    record { leads = refl; gate_is = is; stands = stands; live = (i.lineage.live (g.gate x) x is stands).0; whole = whole; tree = i.growing.tree (g.gate x) whole }

-- a row that has passed a gate has a number below that of the events
pub began-within : (s : Setting) (v : View) (g : Ghost) → InvWith s v g → (r : ℕ) → g.placed r ≡ true → r < length v.history
began-within s v g i r pl = (let (ins, is) = i.placing.begun r pl in insert-within v.history r ins is)

module _ (s : Setting) (v : View) (g : Ghost) (i : InvWith s v g) (n : ℕ) (job : JobValue) (is_job : v.jobs n ≡ Some job) where
  abbrev at : ℕ
  at = g.gate job.shard

  pub gate-of : IsGateOf s v g job.shard job.worker at
  gate-of = gate-on s v g i job.shard job.worker (i.working.front n job is_job)

  -- a row of its queue has passed a gate, and stands there once

  queued-once : (r : ℕ) → times r (numbers (v.queues at).rows) ≤ 1
  queued-once r =
      let one = i.placing.one job.shard r gate-of.live in
      let most = same-le (g.home r) job.shard in
      on_bool (g.placed r)
      (λ q. let z : cond (g.placed r) (same (g.home r) job.shard) 0 ≡ same (g.home r) job.shard = ap (λ (b : Bool). cond b (same (g.home r) job.shard) 0) q in omega (arith, one, most, z))
      (λ q. let z : ◌≡◌ {A = ℕ} (cond (g.placed r) (same (g.home r) job.shard) 0) 0 = ap (λ (b : Bool). cond b (same (g.home r) job.shard) 0) q in omega (arith, one, z))

  pub queued-placed : (r : ℕ) → 1 ≤ times r (numbers (v.queues at).rows) → g.placed r ≡ true
  queued-placed r some =
      let one = i.placing.one job.shard r gate-of.live in
      on_bool (g.placed r) (λ q. q)
      (λ q. let z : ◌≡◌ {A = ℕ} (cond (g.placed r) (same (g.home r) job.shard) 0) 0 = ap (λ (b : Bool). cond b (same (g.home r) job.shard) 0) q in absurd (omega (arith, one, z, some)))

  pub placed-within : (r : ℕ) → g.placed r ≡ true → r < length v.history
  placed-within = began-within s v g i

  pub queue-few : length (v.queues at).rows ≤ length v.history
  queue-few =
      let most = length-few (numbers (v.queues at).rows) (length v.history) queued-once (λ r some. placed-within r (queued-placed r some)) in
      let long = length-map (v.queues at).rows (λ (r : Row). r.no) in
      omega (arith, most, long)

  -- the job is on from when the shard was frozen
  module _ (f : Frozen) (on : frozen_in job.stage ≡ Some f) where
    abbrev its : IsFrozenFor s v.trees v.phases g.gate (v.purses n) job f
    its = i.working.frozen n job f is_job on

    pub frozen-gate : IsGateOf s v g job.shard job.worker f.gate
    frozen-gate = subst (IsGateOf s v g job.shard job.worker) (sym its.gate_is) gate-of

    pub upto-few : its.upto < 2 ^ 31
    upto-few =
        let within = i.queueing.upto f.gate its.upto its.phase_is in
        let few = queue-few in
        let all = i.owing.few in
        let here : length (v.queues f.gate).rows ≡ length (v.queues at).rows = ap (λ (c : ℕ). length (v.queues c).rows) its.gate_is in
        omega (arith, within, few, all, here)

-- Stamps.

pub spares-each : (g : Shape) (look : ℕ → Node) (ss : List Spare) → AreSpares g look ss → Each (IsSpare g look) ss
spares-each g look [] a = tt
spares-each g look (x ∷ ss) a = (a.0, spares-each g look ss a.2)

-- a stamp that no entry of a tree expects is not the one that the gate leads to
pub root-unexpected : (table : Table) (cells : TreeCells) (g : Shape) → IsTree table cells g → (stamp : ℕ) → ((b l : ℕ) → g.inside b ≡ true → g.level b ≡ l + 1 → Each (λ (e : Entry). e.stamp ≢ stamp) (nodes cells b).entries) → cells.gate.stamp ≢ stamp
root-unexpected table cells g t stamp none =
    let c = cells.gate_cell in
    let some = t.some in
    let level = t.level in
    let node : nodes cells c ≡ gate_node cells.gate = ap (λ (b : Bool). cond b (gate_node cells.gate) (node_of (cells.block c))) (eqb-self c) in
    (subst (λ (x : Node). Each (λ (e : Entry). e.stamp ≢ stamp) x.entries) node (none c (cells.gate.height - 1) t.top (omega (arith, some, level)))).0
