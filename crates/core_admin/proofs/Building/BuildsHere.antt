-- What the call asks for that makes the new trees, and what it did.
use Rattle.std.proofs.{Common.{◌≡◌, ℕ, ◌+◌, ◌^◌, ◌<◌, ◌≤◌, Bool, not, cond, List, [], ◌∷◌, All, length, map, take, Option, Some, None, IsSome, refl, sym, ap, ◌∙◌, subst, inr, arith}, lemmas.List.{length-append, length-map, length-take-le}, lemmas.List.Elements.{All-append, All-take}, lemmas.List.Filters.length-filter_both}
use Rattle.cell_stock.specs.Stock.{PurseValue}
use Rattle.dim_hierarchy.specs.{Dimension.Dimension, Rows.IsRowOf, declared.row.Row.Row}
use Rattle.dc_node.specs.declared.todo.Item.{Item}
use Rattle.describing_set.specs.{Plane.goes_left, declared.plane.Plane.Plane}
use Rattle.measure_agg.specs.Aggregate.{Aggregate}
use Rattle.shard_plan.specs.Building.{cells_for, split_need}
use Rattle.core_tree.specs.shard_store.specs.declared.gate.Phase.TheVariants as phase
use Rattle.core_tree.specs.tree_shape.specs.{Collecting.{AfterCollecting, IsCollecting}, Laws.{CollectEndLaw, ReadLaw, ReadableLaw}, Shape.numbers}
use Rattle.list_words.proofs.{Each.{each-map, all-each}, Truth.on_bool}
use Rattle.core_tree.specs.volap_cell.specs.{AdminKinds.{CollectsAll, HasJob, cells_needed, left_of, right_of, spent_in}, Cells.{CellValue, phase_of}, Growing.table_of, Steps.{IsHere, Makes}, Stocking.cells_at, Values.{ActorValue, CollectingValue, JobValue, StageValue, Collects}, View.{View, view}, Working.{HasBegun, IsCollected, IsFrozenFor}, World.{change, held}, declared.kind.Kind.TheVariants.Collect}
use Rattle.core_tree.specs.volap_cell.proofs.Counting.{length-few}
use Rattle.core_admin.specs.BuildDue.{BuildsTrees, CanBuild, CanBuildTrees, MayBuild}
use Rattle.core_admin.proofs.{Collecting.CollectsHere.{collect-keeps, one-job}, Collecting.Drains.same-collecting, Collecting.FrozenGates.{IsGateOf, phase-gate, placed-within, queue-few, stands-placed}, Collecting.SoFar.{gate-of, its, so-far}}

-- two trees and two gates are no more than a split needs
abbrev pub PartsFit : Type 0
PartsFit = (a b : ℕ) → cells_for a + cells_for b + 2 ≤ split_need (a + b)

-- enough cells for one tree, and for two

no-some : (plane : Option Plane) → IsSome plane → plane ≡ None → ⊥
no-some None some none = cc
no-some (Some p) some none = cc

one-fits : (to : Option ℕ) (plane : Option Plane) (n spares : ℕ) → spares ≡ cells_needed to n → (to ≡ None → IsSome plane) → plane ≡ None → cells_for n ≤ spares
one-fits None plane n spares is split none = absurd (no-some plane (split refl) none)
one-fits (Some worker) plane n spares is split none = omega (arith, is)

two-fit : PartsFit → (to : Option ℕ) (plane : Option Plane) (a b n spares : ℕ) → a + b ≡ n → spares ≡ cells_needed to n → ((worker : ℕ) → to ≡ Some worker → plane ≡ None) → (p : Plane) → plane ≡ Some p → cells_for a + cells_for b ≤ spares
two-fit fits None plane a b n spares sum is move p cut = (let k = fits a b in let all : split_need (a + b) ≡ split_need n = ap split_need sum in omega (arith, k, all, is))
two-fit fits (Some worker) plane a b n spares sum is move p cut = (let never : None ≡ Some p = sym (move worker refl) ∙ cut in absurd (cc))

module _ (fits : PartsFit) (ends : CollectEndLaw) (h : List Dimension) (at : ℕ) (cell : CellValue) (a : ActorValue) (k : IsHere h (held at cell ∷ []) a) (due : CanBuildTrees at cell a) where
  abbrev v : View
  v = view a.setting k.world

  abbrev has : HasJob (k.world.actors k.number) due.job (Collects due.collecting)
  has = record { is_job = ap (λ (z : ActorValue). z.job) k.agrees.actor_is ∙ due.has.is_job; stage_is = due.has.stage_is }

  abbrev so : IsCollected v.history v.blocks v.trees v.queues v.phases v.active k.inv.ghost_of.shape due.collecting
  so = so-far a.setting k.world k.number k.inv.ghost_of k.inv.holds due.job due.collecting has

  abbrev frozen : IsFrozenFor a.setting v.trees v.phases k.inv.ghost_of.gate (v.purses k.number) due.job due.collecting.frozen
  frozen = its a.setting k.world k.number k.inv.ghost_of k.inv.holds due.job due.collecting has

  gate-is : IsGateOf a.setting v k.inv.ghost_of due.job.shard due.job.worker due.collecting.frozen.gate
  gate-is = gate-of a.setting k.world k.number k.inv.ghost_of k.inv.holds due.job due.collecting has

  abbrev gate : ℕ
  gate = due.collecting.frozen.gate

  abbrev queue : List Row
  queue = (v.queues gate).rows

  ended : AfterCollecting (table_of a.setting v.row) (cells_at v.blocks v.trees gate) (k.inv.ghost_of.shape gate) due.collecting.read (numbers so.at_blocks)
  ended = ends (table_of a.setting v.row) (cells_at v.blocks v.trees gate) (k.inv.ghost_of.shape gate) due.collecting.read (numbers so.at_blocks) gate-is.tree
      (subst (λ (xs : List Item). IsCollecting (cells_at v.blocks v.trees gate) (k.inv.ghost_of.shape gate) xs due.collecting.read (numbers so.at_blocks)) due.all_read so.collecting)

  phase-is : v.phases gate ≡ Some (phase.Frozen due.collecting.queued)
  phase-is = ap v.phases due.here ∙ ap phase_of k.agrees.cells.0 ∙ due.frozen

  within : due.collecting.queued ≤ length queue
  within = k.inv.holds.queueing.upto gate due.collecting.queued phase-is

  -- as many rows are collected as were counted when the shard was frozen
  count : length due.collecting.rows ≡ due.collecting.frozen.rows
  count =
      let upto : frozen.upto ≡ due.collecting.queued = (let both : Some (phase.Frozen frozen.upto) ≡ Some (phase.Frozen due.collecting.queued) = sym frozen.phase_is ∙ phase-is in cc) in
      let parts = ap (λ (xs : List Row). length xs) so.rows ∙ length-append so.at_blocks (take due.collecting.queued queue) in
      let first = length-take-le due.collecting.queued queue within in
      let told : (v.trees gate).agg.count ≡ length (map v.row (numbers so.at_blocks)) = ap (λ (x : Aggregate). x.count) ended.summary.agg in
      let long = length-map (numbers so.at_blocks) v.row in
      let longer = length-map so.at_blocks (λ (r : Row). r.no) in
      let rows = frozen.rows in
      omega (arith, upto, parts, first, told, long, longer, rows)

  valid : All (IsRowOf a.setting.hierarchy) due.collecting.rows
  valid = subst (All (IsRowOf a.setting.hierarchy)) (sym so.rows) (All-append (IsRowOf a.setting.hierarchy) so.at_blocks (take due.collecting.queued queue)
      (all-each (IsRowOf a.setting.hierarchy) so.at_blocks (each-map (HasBegun v.history) (IsRowOf a.setting.hierarchy) so.at_blocks
      (λ r b. subst (IsRowOf a.setting.hierarchy) b.2 (k.inv.holds.telling.rows r.no b.0 b.1).0) so.named))
      (All-take (IsRowOf a.setting.hierarchy) due.collecting.queued queue (k.inv.holds.queueing.queue gate gate-is.whole.0).summary.valid))

  spares : length a.purse ≡ cells_needed due.job.to (length due.collecting.rows)
  spares =
      let cells = frozen.cells in
      let none : length (spent_in due.job.stage) ≡ 0 = ap (λ (st : StageValue). length (spent_in st)) due.has.stage_is in
      let mine : length (v.purses k.number) ≡ length a.purse = ap (λ (z : ActorValue). length z.purse) k.agrees.actor_is in
      let need : cells_needed due.job.to due.collecting.frozen.rows ≡ cells_needed due.job.to (length due.collecting.rows) = ap (cells_needed due.job.to) (sym count) in
      omega (arith, cells, none, mine, need)

  few : length due.collecting.rows < 2 ^ 32
  few =
      let at_most = queue-few a.setting v k.inv.ghost_of k.inv.holds k.number due.job has.is_job in
      let here : length (v.queues gate).rows ≡ length (v.queues (k.inv.ghost_of.gate due.job.shard)).rows = ap (λ (c : ℕ). length (v.queues c).rows) frozen.gate_is in
      let parts = ap (λ (xs : List Row). length xs) so.rows ∙ length-append so.at_blocks (take due.collecting.queued queue) in
      let first = length-take-le due.collecting.queued queue within in
      let all = k.inv.holds.owing.few in
      let placed = collected-few in
      let w = within in
      omega (arith, at_most, here, parts, first, all, placed, w)
    where
      collected-few : length so.at_blocks ≤ length v.history
      collected-few =
          let most = length-few (numbers so.at_blocks) (length v.history)
          (λ r. let one = ended.rows r in on_bool ((k.inv.ghost_of.shape gate).placed r)
          (λ q. let z : ◌≡◌ {A = ℕ} (cond ((k.inv.ghost_of.shape gate).placed r) 1 0) 1 = ap (λ (b : Bool). cond b 1 0) q in omega (arith, one, z))
          (λ q. let z : ◌≡◌ {A = ℕ} (cond ((k.inv.ghost_of.shape gate).placed r) 1 0) 0 = ap (λ (b : Bool). cond b 1 0) q in omega (arith, one, z)))
          (λ r some. let one = ended.rows r in on_bool ((k.inv.ghost_of.shape gate).placed r)
          (λ q. placed-within a.setting v k.inv.ghost_of k.inv.holds k.number due.job has.is_job r (stands-placed a.setting v k.inv.ghost_of k.inv.holds due.job.shard due.job.worker gate gate-is r q))
          (λ q. let z : ◌≡◌ {A = ℕ} (cond ((k.inv.ghost_of.shape gate).placed r) 1 0) 0 = ap (λ (b : Bool). cond b 1 0) q in absurd (omega (arith, one, z, some)))) in
          let long = length-map so.at_blocks (λ (r : Row). r.no) in
          omega (arith, most, long)

  can-build : CanBuild h a.purse due.collecting
  can-build = subst (λ (z : List Dimension). CanBuild z a.purse due.collecting) k.about (record {
    rows = valid;
    few = few;
    plane = frozen.plane;
    one = one-fits due.job.to due.collecting.frozen.plane (length due.collecting.rows) (length a.purse) spares frozen.split;
    two = λ p cut. two-fit fits due.job.to due.collecting.frozen.plane (length (left_of a.setting.hierarchy p due.collecting.rows)) (length (right_of a.setting.hierarchy p due.collecting.rows)) (length due.collecting.rows) (length a.purse)
        (length-filter_both (λ (r : Row). goes_left a.setting.hierarchy p r.at) (λ (r : Row). not (goes_left a.setting.hierarchy p r.at)) (λ r. refl) due.collecting.rows)
        spares frozen.move p cut;
  })

  pub may-build : (job : JobValue) → a.job ≡ Some job → MayBuild h a.purse job
  may-build job is = record { collecting = due.collecting; stage_is = ap (λ (j : JobValue). j.stage) (one-job a.job is due.has.is_job) ∙ due.has.stage_is; can = can-build }

  pub build-makes : ReadableLaw → ReadLaw → (purse purse_now : PurseValue) (job now : JobValue) (b : ActorValue) → a.job ≡ Some job → purse.spares ≡ a.purse → BuildsTrees h purse purse_now job now → b ≡ record a { purse = purse_now.spares; job = Some now }
      → Makes h Collect (change at cell cell ∷ []) a b
  build-makes readable reads purse purse_now job now b is_job purse_is did actor_is =
      let (x, is) = phase-gate cell (phase.Frozen due.collecting.queued) due.frozen in
      let same : due.collecting ≡ did.collecting = same-collecting due.collecting did.collecting (sym due.has.stage_is ∙ ap (λ (j : JobValue). j.stage) (one-job a.job due.has.is_job is_job) ∙ did.was) in
      let phases : x.phase ≡ phase.Frozen due.collecting.queued = (let both : Some x.phase ≡ Some (phase.Frozen due.collecting.queued) = ap phase_of (sym is) ∙ due.frozen in cc) in
      let does : CollectsAll h (change at cell cell) a b = record {
        job = job;
        collecting = did.collecting;
        has = record { is_job = is_job; stage_is = did.was };
        all_read = ap (λ (c : CollectingValue). c.items) (sym same) ∙ due.all_read;
        here = ap (λ (c : CollectingValue). c.frozen.gate) (sym same) ∙ due.here;
        gate = x;
        same = record { was = is; is = is };
        frozen = phases ∙ ap (λ (c : CollectingValue). phase.Frozen c.queued) same;
        purse = purse;
        purse_now = purse_now;
        purse_was = purse_is;
        purse_is = ap (λ (z : ActorValue). z.purse) (sym actor_is);
        building = did.building;
        frozen_is = did.made.frozen_is;
        read_is = did.made.read_is;
        built = did.made.built;
        actor_is = actor_is ∙ (λ j. record a { purse = (ap (λ (z : ActorValue). z.purse) (sym actor_is)) j; job = Some (did.is j) });
      } in
      record { does = inr (inr does); keeps = collect-keeps readable reads h (change at cell cell) a b (inr (inr does)) }
