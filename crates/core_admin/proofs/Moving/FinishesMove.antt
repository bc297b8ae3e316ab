-- A move comes to its end: that keeps the invariant, and less is left.
use Rattle.std.proofs.{Common.{◌≡◌, ◌≢◌, ℕ, zero, suc, ◌+◌, ◌-◌, ◌<◌, ◌≤◌, ◌^◌, Bool, true, cond, eqb, List, [], ◌∷◌, ◌++◌, map, Option, Some, slice_get, slice_set, refl, sym, ap, ◌∙◌, subst, inl, inr, arith, eq-eqb, drop, None, Contains}, lemmas.Bool.{eqb-true, eqb-false, ne_eqb}}
use Rattle.std.specs.{FinMap.FinMap, List.AllZip, Ordering.nat_cmp}
use Rattle.cell_stock.specs.{Stock.{StockValue, cells_of}, declared.purse.Spare.Spare}
use Rattle.dc_node.specs.declared.entry.Entry.{Entry}
use Rattle.core_tree.specs.link_descent.specs.declared.entered.Fresh.{Fresh}
use Rattle.mapping_table.specs.declared.place.Where.{Where}
use Rattle.row_ledger.specs.{Laws.AscendFrom, LedgerValue.LedgerValue, Listings.places_of, Past.{before, work}, Right.IsRightAction, Shards.is_live, Work.{Did, Settles, shard_of}, Workers.is_on, declared.event.Event.Event, declared.event.Event.TheVariants.Moved}
use Rattle.core_tree.specs.tree_shape.specs.{Collecting.AfterCollecting, Forest.{filled_cells, AreInCells, AreRowsOf}, Laws.{CollectEndLaw, OtherLaw}, Shape.{Shape, nodes, numbers}, Trees.IsTree}
use Rattle.list_words.proofs.{Each.{each-right, each-among, each-both, all-each, among-right, each-here}, Times.times-append, Truth.{on_bool, eqb-self}}
use Rattle.list_words.specs.Counts.{Among, Each, same, times}
use Rattle.core_tree.specs.volap_cell.proofs.{Cells.Blanks.{spare-owner, spent-owner}, Cells.Spares.{move-blank, among-cells}, Views.Admin.view-finish_move, Views.Frames.{actor-at, actor-off}, Views.Touches.IsBlank}
use Rattle.dim_hierarchy.specs.{Rows.IsRowOf, declared.row.Row.Row}
use Rattle.describing_set.specs.declared.listing.Spot.{Spot}
use Rattle.row_ledger.proofs.{Ascent.frontier-ascends, Growth.KeepsRight-moved}
use Rattle.server_image.specs.{Registry.RegistryValue, Spots.place_of}
use Rattle.shard_plan.specs.declared.action.Action.{Action}
use Rattle.shard_plan.specs.declared.action.Action.TheVariants as action
use Rattle.core_tree.specs.shard_store.specs.{Gate.IsQueueOf, declared.gate.Gate.Gate, declared.gate.Phase.TheVariants.Frozen}
use Rattle.core_tree.specs.volap_cell.specs.{AdminKinds.{DoesFinishMove, Finishes, spent_by, tree_of}, Cells.{CellValue, GateCell, LedgerCell, MapCell, RegistryCell, StockCell, active_in, block_in, gate_shard, gone_in, has_block, phase_of, pins_in, queue_in, way_in, way_to_tree}, Falls.left, Ghost.{AGate, Ghost, InJob, Owner, is_in_job, InPurse}, Growing.table_of, Invariant.InvWith, Setting.{Setting, site_in}, Steps.IsKept, Stocking.{cells_at, items_of_job, spent_of}, Values.{ActorValue, JobValue, IsCalled}, View.{View, view}, Working.{action_of, action_to, IsBuilding}, World.{Agrees, Change, World, after}}
use Rattle.core_tree.specs.volap_cell.specs.declared.kind.Kind.TheVariants as kind
use Rattle.core_image.proofs.Commands.Jobs.{items-new, spent-new}
use Rattle.core_admin.proofs.{Building.BuildsBlock.among-spent, Building.NewTree.{fresh-at, cells-spent, contains-among, IsNewTree, leads-to, new-tree}, EndedCells.blank-counts, Endings.{Ending, IsFinished, closes, finished, job-asked, right-action}, Jobs.FinishedJob.{live as live-here, all-rows as job-rows, front as job-front, frozen, is-gate as job-gate, is-job-cell, late as job-late, late-is as job-late-is, late-named as job-late-named, once, phase-here as job-phase, read as job-read, rows as rows_built, rows-named, rows-valid, spent-is, was as job-was}, Moving.BalanceDone.IsDoneBy, Moving.MovedKnown.{IsSameBox, comes, moved-boxes, moved-lines}, Moving.MovedShards.{moved_place, rehosted}, Moving.MovesLineage.{Moving, live-same, moved-leads}, Moving.MovesShard.{gc-now, ledger-now, kept, moved-tables, registry-now, stock-now, x-now, at-x}, PlansAhead.moved-ahead, Postponing.Returned.{cells-append, one}, Retiring.Gates.{Retiring, given_to}, SharedRows.{SharesRows, shared_ghost}}
use Rattle.core_tree.specs.shard_build.specs.{Building.spare_of, Built.IsBuilt, declared.builder.Built.Built}

-- the registry's boxes stay
same-boxes : (to k : ℕ) (spots : List Spot) (spot : Spot) → slice_get spots k ≡ Some spot → AllZip IsSameBox spots (slice_set spots k (record spot { worker = to }))
same-boxes to k [] spot is = tt
same-boxes to zero (z ∷ zs) spot is = (let both : ◌≡◌ {A = Option Spot} (Some z) (Some spot) = is in let same : z ≡ spot = cc in ((sym (ap (λ (y : Spot). y.shard) same), sym (ap (λ (y : Spot). y.set) same)), all-same zs))
  where
    all-same : (zs : List Spot) → AllZip IsSameBox zs zs
    all-same [] = tt
    all-same (z ∷ zs) = ((refl, refl), all-same zs)
same-boxes to (suc k) (z ∷ zs) spot is = ((refl, refl), same-boxes to k zs spot is)

module _ (maps : List Change) (x gc reg c led : Change) (b : ActorValue) (s : Setting) (w : World) (n : ℕ) (g : Ghost) (i : InvWith s (view s w) g) (ag : Agrees w (maps ++ x ∷ gc ∷ reg ∷ c ∷ led ∷ []) n (w.actors n)) (d : DoesFinishMove s.hierarchy maps x gc reg c led (w.actors n) b) where
  abbrev v : View
  v = view s w

  abbrev h : List Event
  h = v.history

  abbrev w2 : World
  w2 = after w (maps ++ x ∷ gc ∷ reg ∷ c ∷ led ∷ []) n b

  abbrev u : View
  u = view s w2

  abbrev shard : ℕ
  shard = d.job.shard

  -- the cell of the old gate
  abbrev old : ℕ
  old = d.building.frozen.gate

  here : w.cells old ≡ GateCell d.gate
  here = ap w.cells d.here ∙ at-x maps x gc reg c led b s w n g i ag d

  abbrev was : IsBuilding s v.history v.blocks v.made v.trees v.queues v.phases v.active g.shape (v.purses n) d.building
  was = job-was s w g i n d.job d.building d.has.is_job d.has.stage_is d.in_cells d.gate here d.upto d.frozen

  front : is_on s.workers v.history d.job.shard d.job.worker ≡ true
  front = job-front s w g i n d.job d.building d.has.is_job d.has.stage_is d.in_cells d.gate here d.upto d.frozen

  is-gate : v.gates old ≡ Some d.job.shard
  is-gate = job-gate s w g i n d.job d.building d.has.is_job d.has.stage_is d.in_cells d.gate here d.upto d.frozen

  phase-here : v.phases old ≡ Some (Frozen was.upto)
  phase-here = job-phase s w g i n d.job d.building d.has.is_job d.has.stage_is d.in_cells d.gate here d.upto d.frozen

  abbrev rows : List Row
  rows = rows_built s w g i n d.job d.building d.has.is_job d.has.stage_is d.in_cells d.gate here d.upto d.frozen

  abbrev late : List Row
  late = job-late s w g i n d.job d.building d.has.is_job d.has.stage_is d.in_cells d.gate here d.upto d.frozen

  late-is : drop d.upto d.gate.queue.rows ≡ late
  late-is = job-late-is s w g i n d.job d.building d.has.is_job d.has.stage_is d.in_cells d.gate here d.upto d.frozen

  -- What was built: one tree, as a move has no plane.

  built : (tree : Built) × IsBuilt s.hierarchy rows was.purse_was was.purse_now tree × (d.building.left ≡ tree_of tree) × (was.built ≡ tree.blocks.items)
  built =
      let all : d.building.unbuilt ++ was.built ≡ was.built = ap (λ (fs : List Fresh). fs ++ was.built) d.in_cells in
      elim was.trees_are.built [
        | inl t ↦ (t.1.0, t.1.1, t.1.2, sym all ∙ t.1.4)
        | inr t ↦ (let no : None ≡ Some t.0 = sym ((frozen s w g i n d.job d.building d.has.is_job d.has.stage_is d.in_cells d.gate here d.upto d.frozen).move d.to d.to_is) ∙ t.1 in cc)
      ]

  abbrev tree : Built
  tree = built.0

  spent-here : spent_of (v.jobs n) ≡ spent_by was.built
  spent-here = spent-is s w g i n d.job d.building d.has.is_job d.has.stage_is d.in_cells d.gate here d.upto d.frozen

  owner-gc : g.owner gc.number ≡ InPurse n
  owner-gc =
      let mine : Among d.spare (w.actors n).purse = subst (Among d.spare) (sym d.spares) (among-right d.rest (d.spare ∷ []) d.spare (inl refl)) in
      ap g.owner d.cell ∙ spare-owner s w g i n d.spare.cell (among-cells d.spare (w.actors n).purse mine)

  -- the cells of the new blocks are the job's
  job-cell : (y : ℕ) → times y (filled_cells tree.blocks.items) ≡ cond (is_in_job n (g.owner y)) 1 0
  job-cell y = ap (times y) (sym (ap cells_of spent-here ∙ cells-spent was.built ∙ ap filled_cells built.3)) ∙ i.stocking.job n y

  owner-filled : (y : ℕ) → 1 ≤ times y (filled_cells tree.blocks.items) → g.owner y ≡ InJob n
  owner-filled y some = (let k = job-cell y in is-job-cell n (g.owner y) (omega (arith, some, k)))

  not-gc : (y : ℕ) → g.owner y ≡ InJob n → y ≢ gc.number
  not-gc y own e = (let no : InJob n ≡ InPurse n = sym own ∙ ap g.owner e ∙ owner-gc in cc)

  block-kept : (y : ℕ) → y ≢ gc.number → u.blocks y ≡ v.blocks y
  block-kept y ne = kept maps x gc reg c led b s w n g i ag d block_in (λ k t t2. refl) (λ r r2. refl) (λ k k2. refl) (λ l l2. refl) y (λ e. refl) ne

  stand : AreInCells u.blocks tree.blocks.items
  stand = subst (AreInCells u.blocks) built.3 (each-both (λ (f : Fresh). g.owner f.cell ≡ InJob n) (λ (f : Fresh). (v.blocks f.cell ≡ f.block) × (v.made f.cell ≡ true)) (λ (f : Fresh). u.blocks f.cell ≡ f.block) was.built
      (λ f own in_cell. block-kept f.cell (not-gc f.cell own) ∙ in_cell.0)
      (each-here (λ (f : Fresh). g.owner f.cell ≡ InJob n) was.built (λ f m.
      let spare : Spare = record { cell = f.cell; stamp = f.block.stamp } in
      spent-owner s w g i n f.cell (among-cells spare (spent_of (v.jobs n)) (subst (Among spare) (sym spent-here) (among-spent f was.built m)))))
      was.in_cells)

  spent-among : (z : Spare) → Contains (map spare_of tree.blocks.items) z → Among z (spent_of (v.jobs n))
  spent-among z has = subst (Among z) (sym (spent-here ∙ ap spent_by built.3)) (contains-among z tree.blocks.items has)

  -- The new tree and the new queue.

  module _ (ends : CollectEndLaw) where
    read : AfterCollecting (table_of s v.row) (cells_at v.blocks v.trees old) (g.shape old) d.building.read (numbers was.at_blocks)
    read = job-read s w g i n d.job d.building d.has.is_job d.has.stage_is d.in_cells d.gate here d.upto d.frozen ends

    -- all rows, in the new tree and the new queue
    all-rows : (r : ℕ) → times r (numbers rows) + times r (numbers late) ≡ cond (g.placed r) (same (g.home r) d.job.shard) 0
    all-rows = job-rows s w g i n d.job d.building d.has.is_job d.has.stage_is d.in_cells d.gate here d.upto d.frozen ends

    late-named : Each (λ (r : Row). v.row r.no ≡ r) late
    late-named = job-late-named s w g i n d.job d.building d.has.is_job d.has.stage_is d.in_cells d.gate here d.upto d.frozen ends

    are-rows : AreRowsOf (table_of s v.row) rows
    are-rows = record {
      named = all-each (λ (r : Row). v.row r.no ≡ r) rows (rows-named s w g i n d.job d.building d.has.is_job d.has.stage_is d.in_cells d.gate here d.upto d.frozen ends);
      valid = all-each (IsRowOf s.hierarchy) rows (rows-valid s w g i n d.job d.building d.has.is_job d.has.stage_is d.in_cells d.gate here d.upto d.frozen ends);
      once = once s w g i n d.job d.building d.has.is_job d.has.stage_is d.in_cells d.gate here d.upto d.frozen ends;
    }

    -- The new tree in its cells.

    law : IsNewTree s v n u.blocks u.trees gc.number (filled_cells tree.blocks.items) (numbers rows)
    law =
        let leads = leads-to s.hierarchy d.job.shard d.building.left tree (drop d.upto d.gate.queue.rows) d.new_gate (u.trees gc.number) (ap way_in (gc-now maps x gc reg c led b s w n g i ag d)) d.new_is built.2 in
        new-tree s v g n u.blocks u.trees gc.number tree rows was.purse_was was.purse_now built.1 owner-gc (λ z. let k = job-cell z in omega (arith, k)) spent-among stand leads.0 leads.1 are-rows

    -- a cell of the new tree is the gate's, or one of the blocks'
    filled-inside : (y : ℕ) → law.shape.inside y ≡ true → y ≢ gc.number → 1 ≤ times y (filled_cells tree.blocks.items)
    filled-inside = law.filled_in

    inside-filled : (y : ℕ) → g.owner y ≡ InJob n → law.shape.inside y ≡ true
    inside-filled y own =
        let k = job-cell y in
        let mine : ◌≡◌ {A = ℕ} (cond (is_in_job n (g.owner y)) 1 0) 1 = ap (λ (o : Owner). cond (is_in_job n o) 1 0) own ∙ ap (λ (z : Bool). cond z 1 0) (eqb-self n) in
        law.in_filled y (omega (arith, k, mine))

    -- each entry has the stamp of a spare that was spent
    leads : (y : ℕ) → law.shape.inside y ≡ true → Each (λ (e : Entry). (z : Spare) × Among z (spent_of (v.jobs n)) × (e.stamp ≡ z.stamp)) (nodes (cells_at u.blocks u.trees gc.number) y).entries
    leads = law.leads

    abbrev y : ℕ
    y = gc.number

    abbrev e : Event
    e = Moved d.of shard d.to

    abbrev its-shape : Shape
    its-shape = law.shape

    abbrev owner2 : ℕ → Owner
    owner2 z = cond (eqb z y) AGate (given_to n y (g.owner z))

    abbrev gate2 : ℕ → ℕ
    gate2 z = cond (eqb z shard) y (g.gate z)

    abbrev shape2 : ℕ → Shape
    shape2 z = cond (eqb z y) its-shape (g.shape z)

    abbrev g2 : Ghost
    g2 = shared_ghost g owner2 gate2 shape2 g.home

    gate-now : w2.cells y ≡ GateCell d.new_gate
    gate-now = gc-now maps x gc reg c led b s w n g i ag d

    old-now : w2.cells old ≡ GateCell d.gate_now
    old-now = ap w2.cells d.here ∙ x-now maps x gc reg c led b s w n g i ag d

    stays : {A : Type 0} (f : CellValue → A) → ((worker : ℕ) (t t2 : FinMap nat_cmp Where) → f (MapCell worker t) ≡ f (MapCell worker t2)) → ((r r2 : RegistryValue) → f (RegistryCell r) ≡ f (RegistryCell r2)) → ((k k2 : StockValue) → f (StockCell k) ≡ f (StockCell k2))
        → ((l l2 : LedgerValue) → f (LedgerCell l) ≡ f (LedgerCell l2)) → (z : ℕ) → (z ≡ x.number → f (GateCell d.gate_now) ≡ f (GateCell d.gate)) → z ≢ gc.number → f (w2.cells z) ≡ f (w.cells z)
    stays = kept maps x gc reg c led b s w n g i ag d

    blank : IsBlank gc.before
    blank = move-blank s w g i n s.hierarchy maps x gc reg c led (w.actors n) b ag d

    at-gc : w.cells y ≡ gc.before
    at-gc = (each-right (λ (k : Change). w.cells k.number ≡ k.before) maps (x ∷ gc ∷ reg ∷ c ∷ led ∷ []) ag.cells).1.0

    ids-same : u.stock.ids ≡ v.stock.ids
    ids-same = ap (λ (k : StockValue). k.ids) (stock-now maps x gc reg c led b s w n g i ag d).1 ∙ d.gives.ids ∙ sym (ap (λ (k : StockValue). k.ids) (stock-now maps x gc reg c led b s w n g i ag d).0)

    counts-now : (z : ℕ) → times z u.stock.free + one (eqb z y) ≡ times z v.stock.free + times z (cells_of (v.purses n))
    counts-now z =
        let now : times z u.stock.free ≡ times z d.stock.free + times z (cells_of d.purse.spares) = ap (λ (k : StockValue). times z k.free) (stock-now maps x gc reg c led b s w n g i ag d).1 ∙ ap (times z) d.gives.cells ∙ times-append z d.stock.free (cells_of d.purse.spares) in
        let was_free : times z v.stock.free ≡ times z d.stock.free = ap (λ (k : StockValue). times z k.free) (stock-now maps x gc reg c led b s w n g i ag d).0 in
        let rest : times z (cells_of d.purse.spares) ≡ times z (cells_of d.rest) = ap (λ (k : List Spare). times z (cells_of k)) d.purse_was in
        let all : times z (cells_of (v.purses n)) ≡ times z (cells_of d.rest) + times z (cells_of (d.spare ∷ [])) = ap (λ (k : List Spare). times z (cells_of k)) d.spares ∙ cells-append z d.rest (d.spare ∷ []) in
        let mine : one (eqb z y) ≡ same z d.spare.cell = ap (λ (k : ℕ). one (eqb z k)) d.cell in
        omega (arith, now, was_free, rest, all, mine)

    -- the cells of the new blocks have blocks
    made-filled : (z : ℕ) → g.owner z ≡ InJob n → v.made z ≡ true
    made-filled z own =
        let k = was in
        let t = built in
        let some : 1 ≤ times z (filled_cells k.built) = (let l = job-cell z in
        let mine : ◌≡◌ {A = ℕ} (cond (is_in_job n (g.owner z)) 1 0) 1 = ap (λ (p : Owner). cond (is_in_job n p) 1 0) own ∙ ap (λ (p : Bool). cond p 1 0) (eqb-self n) in
        let same_cells : times z (filled_cells k.built) ≡ times z (filled_cells t.0.blocks.items) = ap (λ (p : List Fresh). times z (filled_cells p)) t.3 in
        omega (arith, l, mine, same_cells)) in
        let f = fresh-at z k.built some in
        ap v.made (sym f.2) ∙ (each-among (λ (p : Fresh). (v.blocks p.cell ≡ p.block) × (v.made p.cell ≡ true)) f.0 k.built k.in_cells f.1).1

    -- What becomes of the actor.

    closed : (b.purse ≡ []) × ((j : JobValue) → b.job ≡ Some j → j.stage ≡ IsCalled)
    closed = closes x.number d.of d.work d.job e led (w.actors n) b (job-asked s w n g i d.of d.work d.command d.job d.has.is_job) d.finishes

    actor-now : w2.actors n ≡ b
    actor-now = actor-at w.actors n b

    its-job : u.jobs n ≡ b.job
    its-job = ap (λ (a : ActorValue). a.job) actor-now

    abbrev retiring : Retiring s v u g g2 n
    retiring = record {
      new = λ z. eqb z y;
      shard_of = λ z. shard;
      built = λ z. y;
      x = old;
      shard = shard;
      upto = was.upto;
      is_gate = is-gate;
      frozen = phase-here;
      drained = was.drained;
      phase_x = ap phase_of old-now ∙ ap (λ (k : Gate). Some k.phase) d.retires.now;
      queue_x = ap (λ (k : CellValue). (queue_in k).rows) old-now ∙ d.retires.empty;
      valid_x = subst (IsQueueOf s.hierarchy) (sym (ap queue_in old-now)) d.retires.valid;
      read_x = λ z. ap (times z) (ap gone_in old-now ∙ ap (λ (k : Gate). k.gone) d.retires.now) ∙ read.blocks z;
      purse_cell = λ z q. ap g.owner (eqb-true z y q) ∙ owner-gc;
      gate_new = λ z q. ap u.gates (eqb-true z y q) ∙ ap gate_shard gate-now ∙ ap Some d.new_is.shard_is;
      phase_new = λ z q. ap u.phases (eqb-true z y q) ∙ ap phase_of gate-now ∙ ap Some d.new_is.phase_is;
      active_new = λ z q. ap u.active (eqb-true z y q) ∙ ap active_in gate-now ∙ d.new_is.active;
      pins_new = λ z q. ap u.pins (eqb-true z y q) ∙ ap pins_in gate-now ∙ d.new_is.pins;
      gone_new = λ z q. ap u.gone (eqb-true z y q) ∙ ap gone_in gate-now ∙ d.new_is.gone;
      unmade = λ z q. ap u.made (eqb-true z y q) ∙ ap has_block gate-now;
      valid_new = λ z q. subst (IsQueueOf s.hierarchy) (sym (ap u.queues (eqb-true z y q) ∙ ap queue_in gate-now)) d.new_is.valid;
      named_new = λ z q. subst (λ (rows : List Row). Each (λ (r : Row). v.row r.no ≡ r) rows)
          (sym (ap (λ (k : ℕ). (u.queues k).rows) (eqb-true z y q) ∙ ap (λ (k : CellValue). (queue_in k).rows) gate-now ∙ d.new_is.queue ∙ late-is)) (late-named);
      blank = λ z q.
          let k = blank-counts gc.before blank.tag blank.no_gate in
          (ap v.active (eqb-true z y q) ∙ ap active_in at-gc ∙ k.0, ap v.pins (eqb-true z y q) ∙ ap pins_in at-gc ∙ k.1);
      tree_new = λ z q. subst (λ (k : ℕ). IsTree (table_of s v.row) (cells_at u.blocks u.trees k) (shape2 k)) (sym (eqb-true z y q)) (rw (eqb-self y) law.tree);
      settled = λ z r q. rw q (law.settled r);
      inside_new = λ z r q inside ne.
          let there : its-shape.inside r ≡ true = subst (λ (k : Bool). (cond k its-shape (g.shape z)).inside r ≡ true) q inside in
          let off : r ≢ y = (λ k. ne (k ∙ sym (eqb-true z y q))) in
          let own = owner-filled r (filled-inside r there off) in
          (own, sym (eqb-true z y q), stays has_block (λ k t t2. refl) (λ r r2. refl) (λ k k2. refl) (λ l l2. refl) r (λ k. refl) off ∙ made-filled r own);
      leads = λ z r l q inside level.
          subst (λ (k : ℕ). Each (λ (f : Entry). (p : Spare) × Among p (spent_of (v.jobs n)) × (f.stamp ≡ p.stamp)) (nodes (cells_at u.blocks u.trees k) r).entries) (sym (eqb-true z y q))
          (leads r (subst (λ (k : Bool). (cond k its-shape (g.shape z)).inside r ≡ true) q inside));
      built_new = λ z own. (eqb-self y, rw (eqb-self y) (inside-filled z own));
      gates_off = λ z q. stays gate_shard (λ k t t2. refl) (λ r r2. refl) (λ k k2. refl) (λ l l2. refl) z (λ k. ap (λ (p : Gate). Some p.shard) d.retires.now) (eqb-false z y q);
      phases_off = λ z q ne. stays phase_of (λ k t t2. refl) (λ r r2. refl) (λ k k2. refl) (λ l l2. refl) z (λ k. absurd (ne (k ∙ sym d.here))) (eqb-false z y q);
      queues_off = λ z q ne. stays queue_in (λ k t t2. refl) (λ r r2. refl) (λ k k2. refl) (λ l l2. refl) z (λ k. absurd (ne (k ∙ sym d.here))) (eqb-false z y q);
      gone_off = λ z q ne. stays gone_in (λ k t t2. refl) (λ r r2. refl) (λ k k2. refl) (λ l l2. refl) z (λ k. absurd (ne (k ∙ sym d.here))) (eqb-false z y q);
      trees_off = λ z q. stays way_in (λ k t t2. refl) (λ r r2. refl) (λ k k2. refl) (λ l l2. refl) z (λ k. ap way_to_tree d.retires.now) (eqb-false z y q);
      active_off = λ z q. stays active_in (λ k t t2. refl) (λ r r2. refl) (λ k k2. refl) (λ l l2. refl) z (λ k. ap (λ (p : Gate). p.active) d.retires.now) (eqb-false z y q);
      pins_off = λ z q. stays pins_in (λ k t t2. refl) (λ r r2. refl) (λ k k2. refl) (λ l l2. refl) z (λ k. ap (λ (p : Gate). p.pins) d.retires.now) (eqb-false z y q);
      blocks_off = λ z q. stays block_in (λ k t t2. refl) (λ r r2. refl) (λ k k2. refl) (λ l l2. refl) z (λ k. refl) (eqb-false z y q);
      made_off = λ z q. stays has_block (λ k t t2. refl) (λ r r2. refl) (λ k k2. refl) (λ l l2. refl) z (λ k. refl) (eqb-false z y q);
      shape_off = λ z q. rw q refl;
      owner = λ z. refl;
      counts = counts-now;
      stamps = ap (λ (k : StockValue). k.stamps) (stock-now maps x gc reg c led b s w n g i ag d).1 ∙ d.gives.stamps ∙ sym (ap (λ (k : StockValue). k.stamps) (stock-now maps x gc reg c led b s w n g i ag d).0);
      ids_few = subst (λ (k : ℕ). k < 2 ^ 32) (sym ids-same) i.stocking.valid.ids;
      all = ap (λ (k : StockValue). k.cells) (stock-now maps x gc reg c led b s w n g i ag d).1 ∙ d.gives.all ∙ sym (ap (λ (k : StockValue). k.cells) (stock-now maps x gc reg c led b s w n g i ag d).0);
      purse = ap (λ (a : ActorValue). a.purse) actor-now ∙ closed.0;
      spent = ap spent_of its-job ∙ spent-new b.job closed.1;
      items = ap items_of_job its-job ∙ items-new b.job closed.1;
      purses_off = λ a ne. ap (λ (k : ActorValue). k.purse) (actor-off w.actors n b a ne);
      jobs_off = λ a ne. ap (λ (k : ActorValue). k.job) (actor-off w.actors n b a ne);
    }

    ascend : AscendFrom 0 (places_of d.registry.frontier)
    ascend = subst (λ (r : RegistryValue). AscendFrom 0 (places_of r.frontier)) (registry-now maps x gc reg c led b s w n g i ag d).0
        (subst (AscendFrom 0) (sym i.lineage.front) (frontier-ascends (site_in s) g.placed h i.telling.right.right.each))

    places-now : places_of u.registry.frontier ≡ map (moved_place shard d.to) (places_of v.registry.frontier)
    places-now =
        let r = registry-now maps x gc reg c led b s w n g i ag d in
        ap (λ (k : RegistryValue). places_of k.frontier) r.1 ∙ ap places_of d.rehosted.frontier ∙ rehosted shard d.to 0 d.registry.frontier d.rehosted.spot ascend d.rehosted.was
        ∙ sym (ap (λ (k : RegistryValue). map (moved_place shard d.to) (places_of k.frontier)) r.0)

    boxes-now : AllZip IsSameBox v.registry.frontier u.registry.frontier
    boxes-now =
        let r = registry-now maps x gc reg c led b s w n g i ag d in
        subst (λ (k : RegistryValue). AllZip IsSameBox k.frontier u.registry.frontier) (sym r.0)
        (subst (λ (k : RegistryValue). AllZip IsSameBox d.registry.frontier k.frontier) (sym r.1)
        (subst (AllZip IsSameBox d.registry.frontier) (sym d.rehosted.frontier) (same-boxes d.to (place_of shard d.registry.frontier) d.registry.frontier d.rehosted.spot d.rehosted.was)))

    abbrev moving : Moving s v u g g2 n retiring
    moving =
        let tables = moved-tables maps x gc reg c led b s w n g i ag d in record {
          of = d.of;
          from = d.job.worker;
          to = d.to;
          y = y;
          within = i.working.to n d.to d.job d.has.is_job d.to_is;
          was_on = front;
          new_y = eqb-self y;
          only_y = λ z q. eqb-true z y q;
          shard_y = refl;
          to_gate = tables.to_gate;
          leads_on = tables.leads_on;
          other_worker = tables.other_worker;
          other_shard = tables.other_shard;
          gate_there = rw (eqb-self shard) refl;
          gate_other = λ z ne. (rw (ne_eqb z shard ne) refl);
          ids = ids-same;
          places = places-now;
        }

    queue-now : (u.queues y).rows ≡ late
    queue-now = ap (λ (k : CellValue). (queue_in k).rows) gate-now ∙ d.new_is.queue ∙ late-is

    rows-now : (r : ℕ) → cond ((shape2 y).placed r) 1 0 + times r (numbers (u.queues y).rows) ≡ cond (g.placed r) (same (g.home r) shard) 0
    rows-now r =
        let all = all-rows r in
        let tree = law.placed r in
        let queue : times r (numbers (u.queues y).rows) ≡ times r (numbers (late)) = ap (λ (k : List Row). times r (numbers k)) queue-now in
        let there : ◌≡◌ {A = ℕ} (cond ((shape2 y).placed r) 1 0) (cond (its-shape.placed r) 1 0) = rw (eqb-self y) refl in
        omega (arith, all, tree, queue, there)

    -- The shard stands, and its rows are in its new gate.

    live : is_live s.workers h shard ≡ true
    live = live-here s w g i n d.job d.building d.has.is_job d.has.stage_is d.in_cells d.gate (here) d.upto d.frozen

    its-action : action_of d.job ≡ action.Move shard d.to
    its-action = ap (action_to shard) d.to_is

    same-live : (z : ℕ) → is_live s.workers (e ∷ h) z ≡ is_live s.workers h z
    same-live = live-same s v u g g2 n i retiring moving

    shares : SharesRows s v u g g2 n retiring e
    shares = record {
      still = λ z stood ne. same-live z ∙ stood;
      stood = λ z stands. on_bool (eqb z shard) (λ q. inr (y, eqb-self y, sym (eqb-true z shard q))) (λ q. inl (sym (same-live z) ∙ stands, eqb-false z shard q));
      gate_new = λ k q. moving.gate_there ∙ sym (eqb-true k y q);
      gate_off = λ z made ne. moving.gate_other z ne;
      home_new = λ q is. ap (is_live s.workers (e ∷ h)) is ∙ same-live shard ∙ live;
      home_away = λ q z is stands ne at. ne (sym at ∙ is);
      home_off = λ q ne. refl;
      rows = λ k q is. subst (λ (z : ℕ). cond ((shape2 z).placed q) 1 0 + times q (numbers (u.queues z).rows) ≡ cond (g.placed q) (same (g.home q) shard) 0) (sym (eqb-true k y is)) (rows-now q);
    }

    done : IsDoneBy s h g.placed d.of d.job e
    done = record {
      worked = rw (eq-eqb d.of d.of refl) refl;
      done = refl;
      settles = subst (λ (a : Action). Settles (site_in s) g.placed d.of a h e) (sym its-action) (refl, refl);
      ahead = moved-ahead s h g.placed d.of d.to d.job d.to_is live;
    }

    ending : Ending s w w2 n g owner2 gate2 shape2 g.home
    ending = record {
      of = d.of;
      work = d.work;
      command = d.command;
      job = d.job;
      building = d.building;
      has = d.has;
      in_cells = d.in_cells;
      e = e;
      number = refl;
      no_session = refl;
      no_end = refl;
      page = refl;
      did = subst (λ (a : Action). Did a e) (sym its-action) (refl, refl);
      done = done;
      right = KeepsRight-moved (site_in s) g.placed h d.of shard d.to i.telling.right (subst (IsRightAction (site_in s) h d.of) its-action (right-action s w n g i d.of d.work d.command d.job d.has.is_job (ap (λ (a : Action). is_live s.workers h (shard_of a)) its-action ∙ live)));
      led = led;
      actor = b;
      actor_is = actor-now;
      others = actor-off w.actors n b;
      finishes = subst (λ (k : ℕ). Finishes k d.of d.work d.job e led (w.actors n) b) (sym d.here) d.finishes;
      ledger = ledger-now maps x gc reg c led b s w n g i ag d;
      view_is = view-finish_move s w n s.hierarchy maps x gc reg c led (w.actors n) b ag d blank.tag;
      retiring = retiring;
      lines = moved-lines s w g i d.of shard d.to;
      boxes = moved-boxes s w g i d.of shard d.to u.registry boxes-now;
      shares = shares;
      leads = moved-leads s v u g g2 n i retiring moving;
    }

    pub finish-move : OtherLaw → IsFinished s w w2 g
    finish-move = finished s w w2 n g owner2 gate2 shape2 g.home i ending

-- The step, with one table where both workers are the same, and with two else.

module _ (x gc reg c led : Change) (b : ActorValue) (s : Setting) (w : World) (n : ℕ) (g : Ghost) (i : InvWith s (view s w) g) where
  pub one-table-kept : (m : Change) (ag : Agrees w (m ∷ x ∷ gc ∷ reg ∷ c ∷ led ∷ []) n (w.actors n)) (d : DoesFinishMove s.hierarchy (m ∷ []) x gc reg c led (w.actors n) b) → IsFinished s w (after w (m ∷ x ∷ gc ∷ reg ∷ c ∷ led ∷ []) n b) g
      → IsKept s kind.FinishMove n w (after w (m ∷ x ∷ gc ∷ reg ∷ c ∷ led ∷ []) n b) g
  one-table-kept m ag d f = record {
    step = record { changes = m ∷ x ∷ gc ∷ reg ∷ c ∷ led ∷ []; actor = b; agrees = ag; does = d; sight = tt; now_is = refl };
    ghost_now = f.ghost_now;
    holds = f.holds;
    newer = f.newer;
    grows = f.grows;
    goes_on = inl (inl f.falls);
  }

  pub two-tables-kept : (m k : Change) (ag : Agrees w (m ∷ k ∷ x ∷ gc ∷ reg ∷ c ∷ led ∷ []) n (w.actors n)) (d : DoesFinishMove s.hierarchy (m ∷ k ∷ []) x gc reg c led (w.actors n) b) → IsFinished s w (after w (m ∷ k ∷ x ∷ gc ∷ reg ∷ c ∷ led ∷ []) n b) g
      → IsKept s kind.FinishMove n w (after w (m ∷ k ∷ x ∷ gc ∷ reg ∷ c ∷ led ∷ []) n b) g
  two-tables-kept m k ag d f = record {
    step = record { changes = m ∷ k ∷ x ∷ gc ∷ reg ∷ c ∷ led ∷ []; actor = b; agrees = ag; does = d; sight = tt; now_is = refl };
    ghost_now = f.ghost_now;
    holds = f.holds;
    newer = f.newer;
    grows = f.grows;
    goes_on = inl (inl f.falls);
  }
