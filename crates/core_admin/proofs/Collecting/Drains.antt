-- No insert is in the tree of a frozen shard any more, and its root is noted.
use Rattle.std.proofs.Common.{◌≡◌, ◌≢◌, ℕ, ◌+◌, ◌-◌, ◌*◌, ◌^◌, ◌<◌, List, [], ◌∷◌, length, Some, None, refl, sym, ap, ◌∙◌, subst, arith}
use Rattle.cell_stock.specs.declared.purse.Spare.{Spare}
use Rattle.dim_hierarchy.specs.Dimension.{Dimension}
use Rattle.core_tree.specs.shard_store.specs.declared.gate.Gate.{Gate}
use Rattle.core_tree.specs.tree_shape.specs.{Collecting.{root_item, IsCollecting}, Laws.CollectBeginLaw, Queries.NoneWaits, Shape.nodes, Steps.IsSpare}
use Rattle.list_words.proofs.Each.{each-map}
use Rattle.core_tree.specs.volap_cell.specs.{AdminKinds.{DoesDrained, cells_needed, spent_in}, Cells.{CellValue, GateCell, active_in, phase_of, way_in, way_to_tree}, Falls.{frozen_upto, plenty, stage_left}, Ghost.Ghost, Growing.table_of, Invariant.InvWith, Setting.{Setting, cell_count}, Steps.{IsHere, IsKept, Keeps, Makes}, Stocking.{all_spares, cells_at}, Values.{ActorValue, CollectingValue, JobValue, StageValue, Builds, Collects, IsDeclined, IsFrozen}, View.{View, view}, Working.{IsCollected, IsFrozenFor, frozen_in}, World.{Agrees, Change, World, after, change, held}, declared.job.Frozen.Frozen, declared.kind.Kind.TheVariants.Drained}
use Rattle.core_tree.specs.volap_cell.proofs.Views.Admin.{view-drained}
use Rattle.core_admin.specs.FreezeDue.{BeginsCollecting, CanDrain}
use Rattle.core_admin.proofs.{Collecting.FrozenGates.{IsGateOf, frozen-gate, phase-gate, root-unexpected, spares-each, upto-few}, Jobs.Stages.{IsNewStage, Stages, stage-goes_on, stage-history, stage-holds}, Jobs.Staging.IsAtWork}

-- a job that collects is at no other stage

pub still-frozen : (k : CollectingValue) (f : Frozen) → frozen_in (Collects k) ≡ Some f → k.frozen ≡ f
still-frozen k f is = cc

pub same-collecting : (k j : CollectingValue) → Collects k ≡ Collects j → k ≡ j
same-collecting k j is = cc

module _ (begins : CollectBeginLaw) (s : Setting) (w : World) (n : ℕ) (g : Ghost) (i : InvWith s (view s w) g) (c : Change) (b : ActorValue) (ag : Agrees w (c ∷ []) n (w.actors n)) (d : DoesDrained c (w.actors n) b) where
  abbrev v : View
  v = view s w

  abbrev collecting : CollectingValue
  collecting = record { frozen = d.frozen; items = root_item d.gate ∷ []; read = []; queued = 0; rows = [] }

  stages : Stages s w n (c ∷ []) d.job (Collects collecting) b
  stages = record { is_job = d.has.is_job; actor_is = d.actor_is; same = view-drained s w n c (w.actors n) b ag d }

  abbrev on : frozen_in d.job.stage ≡ Some d.frozen
  on = ap frozen_in d.has.stage_is

  abbrev its : IsFrozenFor s v.trees v.phases g.gate (v.purses n) d.job d.frozen
  its = i.working.frozen n d.job d.frozen d.has.is_job on

  gate-of : IsGateOf s v g d.job.shard d.job.worker d.frozen.gate
  gate-of = frozen-gate s v g i n d.job d.has.is_job d.frozen on

  cell : w.cells d.frozen.gate ≡ GateCell d.gate
  cell = ap w.cells d.here ∙ ag.cells.0 ∙ d.same.was

  tree-is : v.trees d.frozen.gate ≡ way_to_tree d.gate
  tree-is = ap way_in cell

  collected : IsCollected v.history v.blocks v.trees v.queues v.phases v.active g.shape collecting
  collected = record {
    drained = ap active_in cell ∙ d.drained;
    at_blocks = [];
    named = tt;
    rows = refl;
    collecting = subst (λ (x : Gate). IsCollecting (cells_at v.blocks v.trees d.frozen.gate) (g.shape d.frozen.gate) (root_item x ∷ []) [] []) tree-is
        (begins (table_of s v.row) (cells_at v.blocks v.trees d.frozen.gate) (g.shape d.frozen.gate) gate-of.tree);
    upto = λ m is. omega arith;
    blocks_first = λ some. absurd (omega (arith, some));
  }

  at-work : IsAtWork s v.history v.blocks v.made v.trees v.phases v.active v.queues (v.purses n) (v.commands n) g.gate g.shape g.placed (record d.job { stage = Collects collecting })
  at-work = record {
    unspent = λ none. let no : Some d.frozen ≡ None = none in absurd (cc);
    declined = λ x why is stage. let no : Collects collecting ≡ IsDeclined why = stage in absurd (cc);
    frozen = λ f is. let same = still-frozen collecting f is in subst (IsFrozenFor s v.trees v.phases g.gate (v.purses n) (record d.job { stage = Collects collecting })) same (record {
      gate_is = its.gate_is;
      upto = its.upto;
      phase_is = its.phase_is;
      rows = its.rows;
      cells = subst (λ (st : StageValue). length (v.purses n) + length (spent_in st) ≡ cells_needed d.job.to d.frozen.rows) d.has.stage_is its.cells;
      split = its.split;
      move = its.move;
      plane = its.plane;
    });
    collected = λ k is. subst (IsCollected v.history v.blocks v.trees v.queues v.phases v.active g.shape) (same-collecting collecting k is) collected;
    building = λ x is. let no : Collects collecting ≡ Builds x = is in absurd (cc);
  }

  -- the root's stamp is no spare's, and was given out
  unexpected : (stamp : ℕ) → (v.trees d.frozen.gate).stamp ≢ stamp → NoneWaits stamp (root_item d.gate ∷ [])
  unexpected stamp ne = ((λ e. ne (ap (λ (x : Gate). x.stamp) tree-is ∙ e)), tt)

  kept : IsKept s Drained n w (after w (c ∷ []) n b) g
  kept =
      let to : IsNewStage s v g n d.job (Collects collecting) = record {
        at = at-work;
        spent = sym (ap (λ (st : StageValue). spent_in st) d.has.stage_is);
        waits = λ a. each-map (IsSpare (g.shape d.frozen.gate) (nodes (cells_at v.blocks v.trees d.frozen.gate))) (λ (x : Spare). NoneWaits x.stamp (root_item d.gate ∷ [])) (all_spares v.purses v.jobs a)
            (λ x spare. unexpected x.stamp (root-unexpected (table_of s v.row) (cells_at v.blocks v.trees d.frozen.gate) (g.shape d.frozen.gate) gate-of.tree x.stamp spare.unexpected))
            (spares-each (g.shape d.frozen.gate) (nodes (cells_at v.blocks v.trees d.frozen.gate)) (all_spares v.purses v.jobs a) (i.stamping.spare a d.frozen.gate gate-of.whole));
        fresh = λ stamp le. unexpected stamp (root-unexpected (table_of s v.row) (cells_at v.blocks v.trees d.frozen.gate) (g.shape d.frozen.gate) gate-of.tree stamp (i.stamping.fresh d.frozen.gate stamp gate-of.whole le));
        less = (
            let few : its.upto < 2 ^ 31 = upto-few s v g i n d.job d.has.is_job d.frozen on in
            let upto : frozen_upto (v.phases d.frozen.gate) ≡ its.upto = ap frozen_upto its.phase_is in
            let was : stage_left s v d.job.stage ≡ 5 * plenty s = ap (stage_left s v) d.has.stage_is in
            let now : stage_left s v (Collects collecting) ≡ 3 * plenty s + 1 + (cell_count s - 0) + (its.upto - 0) = ap (λ (m : ℕ). 3 * plenty s + 1 + (cell_count s - 0) + (m - 0)) upto in
            omega (arith, few, now, was));
      } in
      record {
        step = record { changes = c ∷ []; actor = b; agrees = ag; does = d; sight = tt; now_is = refl };
        ghost_now = g;
        holds = stage-holds s w n g i (c ∷ []) d.job (Collects collecting) b stages to;
        newer = [];
        grows = stage-history s w n g i (c ∷ []) d.job (Collects collecting) b stages to;
        goes_on = stage-goes_on s w n g i (c ∷ []) d.job (Collects collecting) b stages to;
      }

pub drained-keeps : CollectBeginLaw → (h : List Dimension) (c : Change) (a b : ActorValue) (d : DoesDrained c a b) → Keeps h Drained (c ∷ []) a b d
drained-keeps begins h c a b d s w n g about i ag sight =
    kept begins s w n g i c b (record { cells = ag.cells; actor_is = refl; free = λ x ne. ag.free x ne }) (subst (λ (z : ActorValue). DoesDrained c z b) (sym ag.actor_is) d)

-- The call.

-- the cell is the gate
pub is-gate : (h : List Dimension) (at : ℕ) (cell : CellValue) (a : ActorValue) → IsHere h (held at cell ∷ []) a → CanDrain at cell a → (x : Gate) × (cell ≡ GateCell x)
is-gate h at cell a k due =
    let i = k.inv.holds in
    let is_job = ap (λ (z : ActorValue). z.job) k.agrees.actor_is ∙ due.has.is_job in
    let its = i.working.frozen k.number due.job due.frozen is_job (ap frozen_in due.has.stage_is) in
    let there : k.world.cells due.frozen.gate ≡ cell = ap k.world.cells due.here ∙ k.agrees.cells.0 in
    phase-gate cell _ (ap phase_of (sym there) ∙ its.phase_is)

-- what it did
pub drained-makes : CollectBeginLaw → (h : List Dimension) (at : ℕ) (cell : CellValue) (gate : Gate) (a b : ActorValue) (job now : JobValue) → CanDrain at cell a → cell ≡ GateCell gate → a.job ≡ Some job → BeginsCollecting gate job now → b ≡ record a { job = Some now }
    → Makes h Drained (change at cell cell ∷ []) a b
drained-makes begins h at cell gate a b job now due is is_job did actor_is =
    let same : due.job ≡ job = (let k : Some due.job ≡ Some job = sym due.has.is_job ∙ is_job in cc) in
    let frozen : due.frozen ≡ did.frozen = (let k : IsFrozen due.frozen ≡ IsFrozen did.frozen = sym due.has.stage_is ∙ ap (λ (j : JobValue). j.stage) same ∙ did.was in cc) in
    let does : DoesDrained (change at cell cell) a b = record {
      job = job;
      frozen = did.frozen;
      has = record { is_job = is_job; stage_is = did.was };
      here = ap (λ (f : Frozen). f.gate) (sym frozen) ∙ due.here;
      gate = gate;
      same = record { was = is; is = is };
      drained = ap active_in (sym is) ∙ due.drained;
      actor_is = actor_is ∙ (λ k. record a { job = Some (did.is k) });
    } in
    record { does = does; keeps = drained-keeps begins h (change at cell cell) a b does }
