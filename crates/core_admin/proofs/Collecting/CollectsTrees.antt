-- With all rows collected the new trees are made of them, with cells of the purse.
use Rattle.std.proofs.{Common.{◌≡◌, ◌≢◌, ℕ, ◌+◌, ◌*◌, ◌<◌, ◌≤◌, Bool, true, cond, List, [], ◌∷◌, ◌++◌, length, take, Some, None, refl, sym, ap, ◌∙◌, subst, ◌⊎◌, inl, inr, arith, append-nil}, lemmas.List.length-map}
use Rattle.cell_stock.specs.{Stock.{cells_of, stamps_of}, declared.purse.Spare.Spare}
use Rattle.dim_hierarchy.specs.declared.row.Row.{Row}
use Rattle.dc_node.specs.declared.todo.Item.{Item}
use Rattle.core_tree.specs.link_descent.specs.declared.entered.Fresh.{Fresh}
use Rattle.core_tree.specs.shard_build.specs.Building.{spare_of}
use Rattle.core_tree.specs.shard_store.specs.declared.gate.Phase.TheVariants as phase
use Rattle.core_tree.specs.tree_shape.specs.{Collecting.IsCollecting, Shape.{nodes, numbers}}
use Rattle.list_words.specs.Counts.{Among, times}
use Rattle.list_words.proofs.{Each.{each-map, among-left, each-append}, Truth.on_bool}
use Rattle.core_tree.specs.volap_cell.specs.{AdminKinds.{CollectsAll, IsBuiltOf, spent_in}, Cells.phase_of, Errands.RowWay, Falls.{Falls, gone_left, job_left, left, plenty, stage_left}, Ghost.{AGate, Ghost, InJob, InPurse, InTree, NotOfStock, Owner, Unused, is_in_purse}, Invariant.InvWith, Kinds.Does, Setting.{Setting, cell_count}, Steps.IsKept, Stocking.{all_spares, cells_at, items_in, spent_of}, Turning.Turning, Values.{ActorValue, BuildingValue, StageValue, Builds, Collects, IsDeclined}, View.{View, view}, Working.{IsBuilding, IsCollected, IsFrozenFor, frozen_in}, World.{Agrees, Change, World, after}, declared.job.Frozen.Frozen, declared.kind.Kind.TheVariants.Collect}
use Rattle.core_tree.specs.volap_cell.proofs.{Counting.length-few, Persons.has-job, Views.Admin.{by_job_purse, view-collect_all}, Views.Fields.{IsNewAt, actor-new}, Views.Frames.{actor-at, actor-off}, Views.Seen.renewed}
use Rattle.core_admin.proofs.{Building.Spends.{Spends, built-spends, cells-spent, length-spent, stamps-once, stamps-spent}, Collecting.Freezings.wayless, Collecting.FrozenGates.IsGateOf, Collecting.SoFar.{gate-of, its, so-far}, Jobs.Controls.control-falls, Jobs.Staging.{IsAtWork, others-jobless, staged-balancing, staged-numbering, staged-telling, staged-working}, Purses.{Reshares, reshared, reshared-stamping, reshared-stocking}}

same-building : (k j : BuildingValue) → Builds k ≡ Builds j → k ≡ j
same-building k j is = cc

its-frozen : (k : BuildingValue) (f : Frozen) → frozen_in (Builds k) ≡ Some f → k.frozen ≡ f
its-frozen k f is = cc

module _ (s : Setting) (w : World) (n : ℕ) (g : Ghost) (i : InvWith s (view s w) g) (c : Change) (b : ActorValue) (ag : Agrees w (c ∷ []) n (w.actors n)) (d : CollectsAll s.hierarchy c (w.actors n) b) where
  abbrev v : View
  v = view s w

  abbrev w2 : World
  w2 = after w (c ∷ []) n b

  abbrev u : View
  u = view s w2

  same : u ≡ renewed by_job_purse u v
  same = view-collect_all s w n s.hierarchy c (w.actors n) b ag d

  abbrev was : IsCollected v.history v.blocks v.trees v.queues v.phases v.active g.shape d.collecting
  was = so-far s w n g i d.job d.collecting d.has

  abbrev frozen-was : IsFrozenFor s v.trees v.phases g.gate (v.purses n) d.job d.collecting.frozen
  frozen-was = its s w n g i d.job d.collecting d.has

  at : IsGateOf s v g d.job.shard d.job.worker d.collecting.frozen.gate
  at = gate-of s w n g i d.job d.collecting d.has

  new-job : b.job ≡ Some (record d.job { stage = Builds d.building })
  new-job = ap (λ (a : ActorValue). a.job) d.actor_is

  new : IsNewAt u.jobs v.jobs n (Some d.job) (Some (record d.job { stage = Builds d.building }))
  new =
      let k = actor-new (λ (a : ActorValue). a.job) w.actors n b in
      record { was_there = d.has.is_job; is_there = k.is_there ∙ new-job; elsewhere = k.elsewhere }

  mine : u.purses n ≡ b.purse
  mine = ap (λ (a : ActorValue). a.purse) (actor-at w.actors n b)

  off : (a : ℕ) → a ≢ n → u.purses a ≡ v.purses a
  off a ne = ap (λ (a : ActorValue). a.purse) (actor-off w.actors n b a ne)

  -- The spares.

  spends : Spends (v.purses n) b.purse d.building.spent
  spends = subst (λ (xs : List Spare). Spends xs b.purse d.building.spent) d.purse_was (subst (λ (xs : List Spare). Spends d.purse.spares xs d.building.spent) d.purse_is (built-spends s.hierarchy d.collecting.frozen.plane d.collecting.rows d.purse d.purse_now d.building d.built))

  spent-none : spent_of (Some d.job) ≡ []
  spent-none = ap (λ (st : StageValue). spent_in st) d.has.stage_is

  abbrev IsGiven : Spare → Type 0
  IsGiven x = ((v.stock.stamps ≤ x.stamp) × (x.stamp < v.stock.stamps)) ⊎ Among x (v.purses n ++ spent_of (Some d.job))

  reshares : Reshares v.stock v.stock (v.purses n) (spent_of (Some d.job)) b.purse d.building.spent
  reshares = record {
    counts = λ y. let k = cells-spent (v.purses n) b.purse d.building.spent spends y in let none : times y (cells_of (spent_of (Some d.job))) ≡ 0 = ap (λ (xs : List Spare). times y (cells_of xs)) spent-none in omega (arith, k, none);
    later = omega arith;
    few = i.stocking.valid.stamps;
    ids = refl;
    all = refl;
    given = each-append IsGiven b.purse d.building.spent
        (each-map (λ (x : Spare). Among x (v.purses n)) IsGiven b.purse (λ x m. inr (among-left (v.purses n) (spent_of (Some d.job)) x m)) spends.left)
        (each-map (λ (x : Spare). Among x (v.purses n)) IsGiven d.building.spent (λ x m. inr (among-left (v.purses n) (spent_of (Some d.job)) x m)) spends.gone);
    once = λ y.
        let k = stamps-spent (v.purses n) b.purse d.building.spent spends y in
        let all : all_spares v.purses v.jobs n ≡ v.purses n = ap (λ (xs : List Spare). v.purses n ++ xs) (ap spent_of d.has.is_job ∙ spent-none) ∙ append-nil (v.purses n) in
        let one = stamps-once (g.shape d.collecting.frozen.gate) (nodes (cells_at v.blocks v.trees d.collecting.frozen.gate)) (all_spares v.purses v.jobs n) (i.stamping.spare n d.collecting.frozen.gate at.whole) y in
        let here : times y (stamps_of (all_spares v.purses v.jobs n)) ≡ times y (stamps_of (v.purses n)) = ap (λ (xs : List Spare). times y (stamps_of xs)) all in
        omega (arith, k, one, here);
  }

  abbrev g2 : Ghost
  g2 = record g { owner = reshared b.purse d.building.spent n g.owner }

  -- The parts.

  no-way : (x : RowWay) → v.ways n ≡ Some x → ⊥
  no-way = wayless (w.actors n).errand (λ t is. i.numbering.parts n t is (i.numbering.working n d.job d.has.is_job))

  turning-now : Turning s v.ways u.purses v.boxes v.phases v.active g.gate g.shape g.home
  turning-now =
      let k = i.turning in record {
        one = k.one;
        carrying = k.carrying;
        in_leaf = k.in_leaf;
        carried = k.carried;
        enough = λ a y z x is placed.
            let ne : a ≢ n = (λ e. no-way x (ap v.ways (sym e) ∙ is)) in
            rw (off a ne) (k.enough a y z x is placed);
        boxed = λ a x is filled.
            let ne : a ≢ n = (λ e. no-way x (ap v.ways (sym e) ∙ is)) in
            rw (off a ne) (k.boxed a x is filled);
        counts = k.counts;
      }

  phase-is : v.phases d.collecting.frozen.gate ≡ Some (phase.Frozen d.collecting.queued)
  phase-is = ap phase_of (ap w.cells d.here ∙ ag.cells.0 ∙ d.same.was) ∙ ap Some d.frozen

  abbrev building-gate : d.building.frozen ≡ d.collecting.frozen
  building-gate = d.frozen_is

  trees-are : IsBuiltOf s.hierarchy d.collecting.frozen.plane (was.at_blocks ++ take d.collecting.queued (v.queues d.collecting.frozen.gate).rows) d.purse d.purse_now (record d.building { unbuilt = d.building.unbuilt ++ [] })
  trees-are = subst (λ (xs : List Fresh). IsBuiltOf s.hierarchy d.collecting.frozen.plane (was.at_blocks ++ take d.collecting.queued (v.queues d.collecting.frozen.gate).rows) d.purse d.purse_now (record d.building { unbuilt = xs }))
      (sym (append-nil d.building.unbuilt)) (subst (λ (rows : List Row). IsBuiltOf s.hierarchy d.collecting.frozen.plane rows d.purse d.purse_now d.building) was.rows d.built)

  building-now : IsBuilding s v.history v.blocks v.made v.trees v.queues v.phases v.active g.shape b.purse d.building
  building-now = record {
    drained = subst (λ (f : Frozen). v.active f.gate ≡ 0) (sym building-gate) was.drained;
    upto = d.collecting.queued;
    phase_is = subst (λ (f : Frozen). v.phases f.gate ≡ Some (phase.Frozen d.collecting.queued)) (sym building-gate) phase-is;
    at_blocks = was.at_blocks;
    named = was.named;
    read = subst (λ (f : Frozen). IsCollecting (cells_at v.blocks v.trees f.gate) (g.shape f.gate) [] d.building.read (numbers was.at_blocks)) (sym building-gate)
        (subst (λ (xs : List ℕ). IsCollecting (cells_at v.blocks v.trees d.collecting.frozen.gate) (g.shape d.collecting.frozen.gate) [] xs (numbers was.at_blocks)) (sym d.read_is)
        (subst (λ (xs : List Item). IsCollecting (cells_at v.blocks v.trees d.collecting.frozen.gate) (g.shape d.collecting.frozen.gate) xs d.collecting.read (numbers was.at_blocks)) d.all_read was.collecting));
    built = [];
    purse_was = d.purse;
    purse_now = d.purse_now;
    purse_is = d.purse_is;
    trees_are = subst (λ (f : Frozen). IsBuiltOf s.hierarchy f.plane (was.at_blocks ++ take d.collecting.queued (v.queues f.gate).rows) d.purse d.purse_now (record d.building { unbuilt = d.building.unbuilt ++ [] })) (sym building-gate) trees-are;
    in_cells = tt;
  }

  frozen-now : IsFrozenFor s v.trees v.phases g.gate b.purse (record d.job { stage = Builds d.building }) d.collecting.frozen
  frozen-now = record {
    gate_is = frozen-was.gate_is;
    upto = frozen-was.upto;
    phase_is = frozen-was.phase_is;
    rows = frozen-was.rows;
    cells = (
        let all = length-spent (v.purses n) b.purse d.building.spent spends in
        let none : length (spent_in d.job.stage) ≡ 0 = ap (λ (xs : List Spare). length xs) spent-none in
        let old = frozen-was.cells in omega (arith, all, none, old));
    split = frozen-was.split;
    move = frozen-was.move;
    plane = frozen-was.plane;
  }

  at-work : IsAtWork s v.history v.blocks v.made v.trees v.phases v.active v.queues (u.purses n) (v.commands n) g.gate g.shape g.placed (record d.job { stage = Builds d.building })
  at-work = record {
    unspent = λ none. let never : Some d.building.frozen ≡ None = none in absurd (cc);
    declined = λ x why is stage. let never : Builds d.building ≡ IsDeclined why = stage in absurd (cc);
    frozen = λ f is. subst (IsFrozenFor s v.trees v.phases g.gate (u.purses n) (record d.job { stage = Builds d.building })) (sym building-gate ∙ its-frozen d.building f is)
        (subst (λ (xs : List Spare). IsFrozenFor s v.trees v.phases g.gate xs (record d.job { stage = Builds d.building }) d.collecting.frozen) (sym mine) frozen-now);
    collected = λ k is. let never : Builds d.building ≡ Collects k = is in absurd (cc);
    building = λ x is. subst (IsBuilding s v.history v.blocks v.made v.trees v.queues v.phases v.active g.shape (u.purses n)) (same-building d.building x is)
        (subst (λ (xs : List Spare). IsBuilding s v.history v.blocks v.made v.trees v.queues v.phases v.active g.shape xs d.building) (sym mine) building-now);
  }

  holds-renewed : InvWith s (renewed by_job_purse u v) g2
  holds-renewed = record {
    numbering = staged-numbering s v i.numbering n d.job (Builds d.building) u.jobs new u.purses off;
    telling = staged-telling s v i.numbering n d.job (Builds d.building) u.jobs new v.history g.placed i.telling;
    owing = i.owing;
    turning = turning-now;
    stocking = reshared-stocking s w g i n d.job (Builds d.building) u.jobs new v.stock b.purse reshares u.purses mine off v.phases (λ y e. e) (λ y e. e);
    stamping = reshared-stamping s w g i n d.job (Builds d.building) u.jobs new v.stock b.purse reshares u.purses mine off v.phases (λ y e. e) (λ y e. e) (sym (ap (λ (st : StageValue). items_in st) d.has.stage_is ∙ d.all_read));
    lineage = i.lineage;
    leading = i.leading;
    growing = i.growing;
    queueing = i.queueing;
    resting = i.resting;
    placing = i.placing;
    inserting = i.inserting;
    imaging = i.imaging;
    covering = i.covering;
    desking = i.desking;
    pinning = i.pinning;
    querying = i.querying;
    working = staged-working s v i.numbering n d.job (Builds d.building) u.jobs new v.history v.blocks v.made v.trees v.phases v.phases v.active v.queues v.purses u.purses g.gate g.shape g.placed i.working at-work;
    balancing = staged-balancing s v i.numbering n d.job (Builds d.building) u.jobs new v.history g.placed g.home i.balancing;
    reusing = i.reusing;
  }

  -- What is left.

  -- a purse has no more spares than there are cells
  purse-few : length (v.purses n) ≤ cell_count s
  purse-few =
      let own = i.stocking.purse n in
      let most = length-few (cells_of (v.purses n)) (cell_count s)
      (λ y. let k = own y in on_bool (is_in_purse n (g.owner y))
      (λ q. let z : ◌≡◌ {A = ℕ} (cond (is_in_purse n (g.owner y)) 1 0) 1 = ap (λ (b : Bool). cond b 1 0) q in omega (arith, k, z))
      (λ q. let z : ◌≡◌ {A = ℕ} (cond (is_in_purse n (g.owner y)) 1 0) 0 = ap (λ (b : Bool). cond b 1 0) q in omega (arith, k, z)))
      (λ y some. let k = own y in on_bool (is_in_purse n (g.owner y))
      (λ q. in-cells y (g.owner y) refl q)
      (λ q. let z : ◌≡◌ {A = ℕ} (cond (is_in_purse n (g.owner y)) 1 0) 0 = ap (λ (b : Bool). cond b 1 0) q in absurd (omega (arith, k, z, some)))) in
      let long = length-map (v.purses n) (λ (x : Spare). x.cell) in
      omega (arith, most, long)
    where
      in-cells : (y : ℕ) (o : Owner) → g.owner y ≡ o → is_in_purse n o ≡ true → y < cell_count s
      in-cells y (InPurse a) is q = (i.stocking.within y (λ z. let never : InPurse a ≡ NotOfStock = sym is ∙ z in cc)).1
      in-cells y NotOfStock is q = absurd (cc)
      in-cells y Unused is q = absurd (cc)
      in-cells y AGate is q = absurd (cc)
      in-cells y (InTree x) is q = absurd (cc)
      in-cells y (InJob a) is q = absurd (cc)

  unbuilt-few : length d.building.unbuilt ≤ cell_count s
  unbuilt-few =
      let all = length-spent (v.purses n) b.purse d.building.spent spends in
      let few = purse-few in
      let its_spent : length d.building.spent ≡ length d.building.unbuilt = ap (λ (xs : List Spare). length xs) d.built.spent ∙ length-map d.building.unbuilt spare_of in
      omega (arith, all, few, its_spent)

  falls : Falls (left s w g) (left s w2 g2)
  falls =
      let phases : u.phases ≡ v.phases = ap (λ (x : View). x.phases) same in
      let gone : u.gone ≡ v.gone = ap (λ (x : View). x.gone) same in
      let was_left : job_left s v (w.actors n).job ≡ stage_left s v (Collects d.collecting) = ap (job_left s v) d.has.is_job ∙ ap (stage_left s v) d.has.stage_is in
      let now_left : job_left s u b.job ≡ 2 * plenty s + 1 + length d.building.unbuilt = ap (job_left s u) new-job in
      let few = unbuilt-few in
      control-falls s w w2 g g2 n b (record {
        few = has-job s v i.numbering n d.job d.has.is_job;
        at = actor-at w.actors n b;
        off = λ a ne. actor-off w.actors n b a ne;
        jobless = others-jobless s v i.numbering n d.job d.has.is_job;
        command = ap (λ (a : ActorValue). a.command) d.actor_is;
        less = omega (arith, was_left, now_left, few);
        cells = λ y. λ k. gone_left (phases k y) (gone k y);
      })

  pub all-kept : Does s.hierarchy Collect (c ∷ []) (w.actors n) b → IsKept s Collect n w w2 g
  all-kept does = record {
    step = record { changes = c ∷ []; actor = b; agrees = ag; does = does; sight = tt; now_is = refl };
    ghost_now = g2;
    holds = subst (λ (x : View). InvWith s x g2) (sym same) holds-renewed;
    newer = [];
    grows = ap (λ (x : View). x.history) same;
    goes_on = inl falls;
  }
