-- A split comes to its end: that keeps the invariant, and less is left.
use Rattle.std.proofs.{Common.{◌≡◌, ◌≢◌, ℕ, ◌+◌, ◌-◌, ◌<◌, ◌^◌, Bool, true, false, cond, eqb, List, [], ◌∷◌, Option, Some, None, refl, sym, ap, ◌∙◌, subst, inl, inr, arith, eq-eqb, ◌≤◌, not, ◌++◌, filter, drop, ◌⊎◌}, lemmas.Bool.{eqb-true, eqb-false, ne_eqb, cases_lt, false≢true}, lemmas.List.map-append}
use Rattle.cell_stock.specs.{Stock.{StockValue, cells_of}, declared.purse.Spare.Spare}
use Rattle.core_tree.specs.volap_cell.proofs.{Cells.Spares.split-blank, Views.Admin.view-finish_split, Views.Frames.{actor-at, actor-off}, Views.Touches.IsBlank}
use Rattle.dim_hierarchy.specs.{Dimension.Dimension, Rows.IsRowOf, declared.row.Row.Row}
use Rattle.row_ledger.specs.{Laws.AscendFrom, LedgerValue.LedgerValue, Listings.places_of, Past.{before, work}, Right.{IsRightSplit, IsRightAction, EachEvent, Stands}, Shards.{is_live, ids_made, Place, children, frontier, is_of, place, worker_of}, Work.{Did, Settles, shard_of as shard_in}, Workers.is_on, declared.event.Event.Event, declared.event.Event.TheVariants.Split}
use Rattle.shard_plan.specs.declared.action.Action.{Action}
use Rattle.shard_plan.specs.declared.action.Action.TheVariants as action
use Rattle.list_words.specs.Counts.{same, times, Each, Among}
use Rattle.list_words.proofs.{Each.{each-both, each-left, each-right, each-filter, each-among}, Times.{same_is, same_not, times-append}, Truth.{on_bool, eqb-self}}
use Rattle.core_tree.specs.tree_shape.specs.{Forest.{AreInCells, filled_cells}, Laws.{CollectEndLaw, OtherLaw, GateLaw}, Shape.{Shape, numbers, nodes}, Trees.IsTree}
use Rattle.core_tree.specs.volap_cell.specs.{AdminKinds.{DoesFinishSplit, Finishes, IsTrueBox, left_of, right_of}, Cells.{stock_in, GateCell, block_in, way_in, CellValue, LedgerCell, MapCell, RegistryCell, StockCell, active_in, gate_shard, gone_in, has_block, phase_of, pins_in, queue_in, way_to_tree}, Ghost.{Ghost, Owner, InJob, InPurse, is_in_job, AGate}, Growing.table_of, Invariant.InvWith, Setting.{Setting, site_in}, Steps.{IsKept, Keeps}, Stocking.{cells_at, items_of_job, spent_of}, Values.{ActorValue, JobValue, IsCalled}, View.{View, view}, Working.{action_to, action_of, IsBuilding}, World.{Agrees, Change, World, after}}
use Rattle.core_tree.specs.volap_cell.specs.declared.kind.Kind.TheVariants as kind
use Rattle.core_admin.proofs.{Building.NewTree.{IsNewTree, leads-to, new-tree, fresh-at, tree-set}, EndedCells.blank-counts, Endings.{Ending, IsFinished, finished, right-action, closes, job-asked}, Jobs.FinishedJob.{frozen, live as live-here, all-rows, late, late-is, late-named, late-placed, late-valid, rows, rows-named, rows-placed, rows-valid, was, is-gate, phase-here, read, front}, Moving.BalanceDone.IsDoneBy, PlansAhead.split-ahead, Postponing.Returned.one, Retiring.Gates.{Retiring, given_to}, SharedRows.{SharesRows, shared_ghost}, Splitting.SplitBoxes.{AreShardRows, child-box}, Splitting.SplitKnown.{split-boxes, IsChildBox, split-lines, split_home, home-in, home-off}, Splitting.SplitShards.{left-live, live-before, live-still, right-live, off-left, off-right, others, places-split, shard-made, spot-worker, spots-made, spots-split}, Splitting.SplitSides.{AreTwo, job-cell as cell_of_job, left-rows, left-test, own-blocks, owner-filled as owner_of_filled, right-rows, right-test, side as side_of_row, side-times, spent-left, spent-right, two as two_of}, Splitting.SplitsLineage.{Splitting, apart, gate-made, not-left, not-right, split-leads}, Splitting.SplitsShard.{ledger-now, stock-now, at-x, kept, l-now, owner-l, owner-r, r-now, gates-apart, purse-cells, x-now, registry-now, split-tables, tables-off}}
use Rattle.row_ledger.proofs.{Ascent.frontier-ascends, Descent.live-made, Growth.KeepsRight-split}
use Rattle.describing_set.specs.{DescSet.IsSetOf, Plane.goes_left, declared.listing.Spot.Spot}
use Rattle.core_tree.specs.link_descent.specs.declared.entered.Fresh.{Fresh}
use Rattle.std.specs.{FinMap.FinMap, List.list_any, Ordering.nat_cmp}
use Rattle.dc_node.specs.{Summary.coords, declared.entry.Entry.Entry}
use Rattle.mapping_table.specs.declared.place.Where.{Where}
use Rattle.server_image.specs.{Registry.RegistryValue, Spots.without}
use Rattle.core_tree.specs.shard_store.specs.{Gate.IsQueueOf, declared.gate.Gate.Gate, declared.gate.Phase.TheVariants.Open}
use Rattle.core_image.proofs.Commands.Jobs.{items-new, spent-new}

-- what is so of two lists is so of both together
both-sides : (b : Bool) (f1 f2 k1 k2 all : ℕ) → f1 ≡ cond b k1 0 → f2 ≡ cond b k2 0 → k1 + k2 ≡ all → f1 + f2 ≡ cond b all 0
both-sides true f1 f2 k1 k2 all one two sum = omega (arith, one, two, sum)
both-sides false f1 f2 k1 k2 all one two sum = omega (arith, one, two, sum)

module _ (m x l r reg c led : Change) (b : ActorValue) (s : Setting) (w : World) (n : ℕ) (g : Ghost) (i : InvWith s (view s w) g) (ag : Agrees w (m ∷ x ∷ l ∷ r ∷ reg ∷ c ∷ led ∷ []) n (w.actors n)) (d : DoesFinishSplit s.hierarchy m x l r reg c led (w.actors n) b)
    (other : OtherLaw) (ends : CollectEndLaw) (gates : GateLaw) (few : d.stock.ids + 2 < 2 ^ 32) where
  abbrev v : View
  v = view s w

  abbrev h : List Event
  h = v.history

  abbrev w2 : World
  w2 = after w (m ∷ x ∷ l ∷ r ∷ reg ∷ c ∷ led ∷ []) n b

  abbrev u : View
  u = view s w2

  abbrev shard : ℕ
  shard = d.job.shard

  abbrev left : ℕ
  left = d.stock.ids

  abbrev right : ℕ
  right = d.stock.ids + 1

  abbrev e : Event
  e = Split d.of shard left right

  here : w.cells d.building.frozen.gate ≡ GateCell d.gate
  here = ap w.cells d.here ∙ at-x m x l r reg c led b s w n g i ag d

  abbrev job_is : IsBuilding s v.history v.blocks v.made v.trees v.queues v.phases v.active g.shape (v.purses n) d.building
  job_is = was s w g i n d.job d.building d.has.is_job d.has.stage_is d.in_cells d.gate here d.upto d.frozen

  abbrev old_rows : List Row
  old_rows = rows s w g i n d.job d.building d.has.is_job d.has.stage_is d.in_cells d.gate here d.upto d.frozen

  abbrev late_rows : List Row
  late_rows = late s w g i n d.job d.building d.has.is_job d.has.stage_is d.in_cells d.gate here d.upto d.frozen

  late-here : drop d.upto d.gate.queue.rows ≡ late_rows
  late-here = late-is s w g i n d.job d.building d.has.is_job d.has.stage_is d.in_cells d.gate here d.upto d.frozen

  -- which side a row goes to
  abbrev side : ℕ → Bool
  side = side_of_row s w g i n d.job d.building d.has.is_job d.has.stage_is d.in_cells d.gate here d.upto d.frozen d.plane d.divided d.right_tree d.right_is

  -- What was built.

  abbrev two : AreTwo s w g i n d.job d.building d.has.is_job d.has.stage_is d.in_cells d.gate here d.upto d.frozen d.plane d.divided d.right_tree d.right_is
  two = two_of s w g i n d.job d.building d.has.is_job d.has.stage_is d.in_cells d.gate here d.upto d.frozen d.plane d.divided d.right_tree d.right_is

  abbrev left_cells : List ℕ
  left_cells = filled_cells two.left.blocks.items

  abbrev right_cells : List ℕ
  right_cells = filled_cells two.right.blocks.items

  abbrev job-cell : (z : ℕ) → times z left_cells + times z right_cells ≡ cond (is_in_job n (g.owner z)) 1 0
  job-cell = cell_of_job s w g i n d.job d.building d.has.is_job d.has.stage_is d.in_cells d.gate here d.upto d.frozen d.plane d.divided d.right_tree d.right_is

  abbrev owner-filled : (z : ℕ) → 1 ≤ times z left_cells + times z right_cells → g.owner z ≡ InJob n
  owner-filled = owner_of_filled s w g i n d.job d.building d.has.is_job d.has.stage_is d.in_cells d.gate here d.upto d.frozen d.plane d.divided d.right_tree d.right_is

  -- The blocks are in their cells.

  off-new : (z : ℕ) → g.owner z ≡ InJob n → (z ≢ l.number) × (z ≢ r.number)
  off-new z own = (
    (λ e. let no : InJob n ≡ InPurse n = sym own ∙ ap g.owner e ∙ owner-l m x l r reg c led b s w n g i ag d in cc),
    (λ e. let no : InJob n ≡ InPurse n = sym own ∙ ap g.owner e ∙ owner-r m x l r reg c led b s w n g i ag d in cc),
  )

  block-kept : (z : ℕ) → g.owner z ≡ InJob n → u.blocks z ≡ v.blocks z
  block-kept z own = (let off = off-new z own in kept m x l r reg c led b s w n g i ag d block_in (λ k t t2. refl) (λ k k2. refl) (λ k k2. refl) (λ k k2. refl) z (λ e. refl) off.0 off.1)

  all-stand : AreInCells u.blocks (two.left.blocks.items ++ two.right.blocks.items)
  all-stand = subst (AreInCells u.blocks) two.built (each-both (λ (f : Fresh). g.owner f.cell ≡ InJob n) (λ (f : Fresh). (v.blocks f.cell ≡ f.block) × (v.made f.cell ≡ true)) (λ (f : Fresh). u.blocks f.cell ≡ f.block) job_is.built
      (λ f own in_cell. block-kept f.cell own ∙ in_cell.0) (own-blocks s w g i n d.job d.building d.has.is_job d.has.stage_is d.in_cells d.gate here d.upto d.frozen d.plane d.divided d.right_tree d.right_is) job_is.in_cells)

  -- Rows.

  abbrev named : Each (λ (q : Row). v.row q.no ≡ q) old_rows
  named = rows-named s w g i n d.job d.building d.has.is_job d.has.stage_is d.in_cells d.gate here d.upto d.frozen ends

  later-named : Each (λ (q : Row). v.row q.no ≡ q) late_rows
  later-named = late-named s w g i n d.job d.building d.has.is_job d.has.stage_is d.in_cells d.gate here d.upto d.frozen ends

  -- The trees.

  left-tree : IsNewTree s v n u.blocks u.trees l.number left_cells (numbers (left_of s.hierarchy d.plane old_rows))
  left-tree =
      let leads = leads-to s.hierarchy d.stock.ids d.building.left two.left _ d.left_gate (u.trees l.number) (ap way_in (l-now m x l r reg c led b s w n g i ag d)) d.left_is two.left_is in
      new-tree s v g n u.blocks u.trees l.number two.left (left_of s.hierarchy d.plane old_rows) job_is.purse_was two.between two.left_built (owner-l m x l r reg c led b s w n g i ag d) (λ z. let k = job-cell z in omega (arith, k)) (spent-left s w g i n d.job d.building d.has.is_job d.has.stage_is d.in_cells d.gate here d.upto d.frozen d.plane d.divided d.right_tree d.right_is)
      (each-left (λ (f : Fresh). u.blocks f.cell ≡ f.block) two.left.blocks.items two.right.blocks.items all-stand) leads.0 leads.1 (left-rows s w g i n d.job d.building d.has.is_job d.has.stage_is d.in_cells d.gate here d.upto d.frozen d.plane d.divided d.right_tree d.right_is ends)

  right-tree : IsNewTree s v n u.blocks u.trees r.number right_cells (numbers (right_of s.hierarchy d.plane old_rows))
  right-tree =
      let leads = leads-to s.hierarchy (d.stock.ids + 1) d.right_tree two.right _ d.right_gate (u.trees r.number) (ap way_in (r-now m x l r reg c led b s w n g i ag d)) d.right_gate_is two.right_is in
      new-tree s v g n u.blocks u.trees r.number two.right (right_of s.hierarchy d.plane old_rows) two.between job_is.purse_now two.right_built (owner-r m x l r reg c led b s w n g i ag d) (λ z. let k = job-cell z in omega (arith, k)) (spent-right s w g i n d.job d.building d.has.is_job d.has.stage_is d.in_cells d.gate here d.upto d.frozen d.plane d.divided d.right_tree d.right_is)
      (each-right (λ (f : Fresh). u.blocks f.cell ≡ f.block) two.left.blocks.items two.right.blocks.items all-stand) leads.0 leads.1 (right-rows s w g i n d.job d.building d.has.is_job d.has.stage_is d.in_cells d.gate here d.upto d.frozen d.plane d.divided d.right_tree d.right_is ends)

  of-old : AreShardRows s v g old_rows
  of-old = record {
    named = named;
    valid = rows-valid s w g i n d.job d.building d.has.is_job d.has.stage_is d.in_cells d.gate here d.upto d.frozen ends;
    placed = rows-placed s w g i n d.job d.building d.has.is_job d.has.stage_is d.in_cells d.gate here d.upto d.frozen ends;
  }

  of-late : AreShardRows s v g late_rows
  of-late = record {
    named = later-named;
    valid = late-valid s w g i n d.job d.building d.has.is_job d.has.stage_is d.in_cells d.gate here d.upto d.frozen ends;
    placed = late-placed s w g i n d.job d.building d.has.is_job d.has.stage_is d.in_cells d.gate here d.upto d.frozen ends;
  }

  picked : (p : Row → Bool) (rows : List Row) → AreShardRows s v g rows → AreShardRows s v g (filter p rows)
  picked p rows k = record {
    named = each-filter (λ (q : Row). v.row q.no ≡ q) p rows k.named;
    valid = each-filter (IsRowOf s.hierarchy) p rows k.valid;
    placed = each-filter (λ (q : Row). g.placed q.no ≡ true) p rows k.placed;
  }

  -- of either side, those of the tree and those of the queue
  left-are : AreShardRows s v g (left_of s.hierarchy d.plane old_rows) × AreShardRows s v g (left_of s.hierarchy d.plane late_rows)
  left-are = (picked (λ (q : Row). goes_left s.hierarchy d.plane q.at) old_rows of-old, picked (λ (q : Row). goes_left s.hierarchy d.plane q.at) late_rows of-late)

  right-are : AreShardRows s v g (right_of s.hierarchy d.plane old_rows) × AreShardRows s v g (right_of s.hierarchy d.plane late_rows)
  right-are = (picked (λ (q : Row). not (goes_left s.hierarchy d.plane q.at)) old_rows of-old, picked (λ (q : Row). not (goes_left s.hierarchy d.plane q.at)) late_rows of-late)

  -- The rows of either side.

  of-shard : (q : ℕ) → times q (numbers old_rows) + times q (numbers late_rows) ≡ cond (g.placed q) (same (g.home q) d.job.shard) 0
  of-shard = all-rows s w g i n d.job d.building d.has.is_job d.has.stage_is d.in_cells d.gate here d.upto d.frozen ends

  left-all : (q : ℕ) → times q (numbers (left_of s.hierarchy d.plane old_rows)) + times q (numbers (left_of s.hierarchy d.plane late_rows)) ≡ cond (side q) (cond (g.placed q) (same (g.home q) d.job.shard) 0) 0
  left-all q =
      let p : Row → Bool = λ z. goes_left s.hierarchy d.plane z.at in
      let one = side-times p side old_rows (left-test s w g i n d.job d.building d.has.is_job d.has.stage_is d.in_cells d.gate here d.upto d.frozen d.plane d.divided d.right_tree d.right_is ends old_rows named) q in
      let two = side-times p side late_rows (left-test s w g i n d.job d.building d.has.is_job d.has.stage_is d.in_cells d.gate here d.upto d.frozen d.plane d.divided d.right_tree d.right_is ends late_rows later-named) q in
      both-sides (side q) _ _ _ _ _ one two (of-shard q)

  right-all : (q : ℕ) → times q (numbers (right_of s.hierarchy d.plane old_rows)) + times q (numbers (right_of s.hierarchy d.plane late_rows)) ≡ cond (not (side q)) (cond (g.placed q) (same (g.home q) d.job.shard) 0) 0
  right-all q =
      let p : Row → Bool = λ z. not (goes_left s.hierarchy d.plane z.at) in
      let one = side-times p (λ z. not (side z)) old_rows (right-test s w g i n d.job d.building d.has.is_job d.has.stage_is d.in_cells d.gate here d.upto d.frozen d.plane d.divided d.right_tree d.right_is ends old_rows named) q in
      let two = side-times p (λ z. not (side z)) late_rows (right-test s w g i n d.job d.building d.has.is_job d.has.stage_is d.in_cells d.gate here d.upto d.frozen d.plane d.divided d.right_tree d.right_is ends late_rows later-named) q in
      both-sides (not (side q)) _ _ _ _ _ one two (of-shard q)

  abbrev yl : ℕ
  yl = l.number

  abbrev yr : ℕ
  yr = r.number

  abbrev old : ℕ
  old = d.building.frozen.gate

  abbrev left_tree : IsNewTree s v n u.blocks u.trees yl left_cells (numbers (left_of s.hierarchy d.plane old_rows))
  left_tree = left-tree

  abbrev right_tree : IsNewTree s v n u.blocks u.trees yr right_cells (numbers (right_of s.hierarchy d.plane old_rows))
  right_tree = right-tree

  -- The ghost afterwards.

  abbrev new : ℕ → Bool
  new z = cond (eqb z yl) true (eqb z yr)

  abbrev built : ℕ → ℕ
  built z = cond (left_tree.shape.inside z) yl yr

  abbrev owner2 : ℕ → Owner
  owner2 z = cond (new z) AGate (given_to n (built z) (g.owner z))

  abbrev gate2 : ℕ → ℕ
  gate2 z = cond (eqb z left) yl (cond (eqb z right) yr (g.gate z))

  abbrev shape2 : ℕ → Shape
  shape2 z = cond (eqb z yl) left_tree.shape (cond (eqb z yr) right_tree.shape (g.shape z))

  abbrev homes : ℕ → ℕ
  homes = split_home shard left right side g.home

  abbrev g2 : Ghost
  g2 = shared_ghost g owner2 gate2 shape2 homes

  yr-off : eqb yr yl ≡ false
  yr-off = ne_eqb yr yl (gates-apart m x l r reg c led b s w n g i ag d)

  new-l : new yl ≡ true
  new-l = ap (λ (k : Bool). cond k true (eqb yl yr)) (eqb-self yl)

  new-r : new yr ≡ true
  new-r = ap (λ (k : Bool). cond k true (eqb yr yr)) yr-off ∙ eqb-self yr

  shape-l : shape2 yl ≡ left_tree.shape
  shape-l = ap (λ (k : Bool). cond k left_tree.shape (cond (eqb yl yr) right_tree.shape (g.shape yl))) (eqb-self yl)

  shape-r : shape2 yr ≡ right_tree.shape
  shape-r = ap (λ (k : Bool). cond k left_tree.shape (cond (eqb yr yr) right_tree.shape (g.shape yr))) yr-off ∙ ap (λ (k : Bool). cond k right_tree.shape (g.shape yr)) (eqb-self yr)

  is-new : (z : ℕ) → new z ≡ true → (z ≡ yl) ⊎ (z ≡ yr)
  is-new z q = on_bool (eqb z yl) (λ k. inl (eqb-true z yl k)) (λ k. inr (eqb-true z yr (sym (ap (λ (t : Bool). cond t true (eqb z yr)) k) ∙ q)))

  by-gate : (P : ℕ → Type 0) → P yl → P yr → (z : ℕ) → new z ≡ true → P z
  by-gate P one two z q = elim (is-new z q) [ inl is ↦ subst P (sym is) one | inr is ↦ subst P (sym is) two ]

  off-gates : (z : ℕ) → new z ≡ false → (z ≢ yl) × (z ≢ yr)
  off-gates z q = (
    (λ is. false≢true (sym q ∙ ap new is ∙ new-l)),
    (λ is. false≢true (sym q ∙ ap new is ∙ new-r)),
  )

  gate-l : u.gates yl ≡ Some left
  gate-l = ap gate_shard (l-now m x l r reg c led b s w n g i ag d) ∙ ap Some d.left_is.shard_is

  gate-r : u.gates yr ≡ Some right
  gate-r = ap gate_shard (r-now m x l r reg c led b s w n g i ag d) ∙ ap Some d.right_gate_is.shard_is

  abbrev shard_of : ℕ → ℕ
  shard_of z = cond (eqb z yl) left right

  shard-l : shard_of yl ≡ left
  shard-l = ap (λ (k : Bool). cond k left right) (eqb-self yl)

  shard-r : shard_of yr ≡ right
  shard-r = ap (λ (k : Bool). cond k left right) yr-off

  old-now : w2.cells old ≡ GateCell d.gate_now
  old-now = ap w2.cells d.here ∙ x-now m x l r reg c led b s w n g i ag d

  stays : {A : Type 0} (f : CellValue → A) → ((worker : ℕ) (t t2 : FinMap nat_cmp Where) → f (MapCell worker t) ≡ f (MapCell worker t2)) → ((k k2 : RegistryValue) → f (RegistryCell k) ≡ f (RegistryCell k2)) → ((k k2 : StockValue) → f (StockCell k) ≡ f (StockCell k2))
      → ((k k2 : LedgerValue) → f (LedgerCell k) ≡ f (LedgerCell k2)) → (z : ℕ) → (z ≡ x.number → f (GateCell d.gate_now) ≡ f (GateCell d.gate)) → new z ≡ false → f (w2.cells z) ≡ f (w.cells z)
  stays f of_map of_registry of_stock of_ledger z of_x q = (let off = off-gates z q in kept m x l r reg c led b s w n g i ag d f of_map of_registry of_stock of_ledger z of_x off.0 off.1)

  blank : IsBlank l.before × IsBlank r.before
  blank = split-blank s w g i n s.hierarchy m x l r reg c led (w.actors n) b ag d

  queue-l : (u.queues yl).rows ≡ left_of s.hierarchy d.plane late_rows
  queue-l = ap (λ (k : CellValue). (queue_in k).rows) (l-now m x l r reg c led b s w n g i ag d) ∙ d.left_is.queue ∙ ap (left_of s.hierarchy d.plane) late-here

  queue-r : (u.queues yr).rows ≡ right_of s.hierarchy d.plane late_rows
  queue-r = ap (λ (k : CellValue). (queue_in k).rows) (r-now m x l r reg c led b s w n g i ag d) ∙ d.right_gate_is.queue ∙ ap (right_of s.hierarchy d.plane) late-here

  new-one : (z : ℕ) → one (new z) ≡ same z yl + same z yr
  new-one z = on_bool (eqb z yl)
      (λ k.
      let off : eqb z yr ≡ false = ne_eqb z yr (λ is. gates-apart m x l r reg c led b s w n g i ag d (sym is ∙ eqb-true z yl k)) in
      rw (k, off) refl)
      (λ k. rw k (omega arith))

  counts-now : (z : ℕ) → times z u.stock.free + one (new z) ≡ times z v.stock.free + times z (cells_of (v.purses n))
  counts-now z =
      let now : times z u.stock.free ≡ times z d.stock.free + times z (cells_of d.purse.spares) =
      ap (λ (k : StockValue). times z k.free) (stock-now m x l r reg c led b s w n g i ag d).1 ∙ ap (λ (k : StockValue). times z k.free) d.ids ∙ ap (times z) d.gives.cells ∙ times-append z d.stock.free (cells_of d.purse.spares) in
      let was_free : times z v.stock.free ≡ times z d.stock.free = ap (λ (k : StockValue). times z k.free) (stock-now m x l r reg c led b s w n g i ag d).0 in
      let rest : times z (cells_of d.purse.spares) ≡ times z (cells_of d.rest) = ap (λ (k : List Spare). times z (cells_of k)) d.purse_was in
      let all = purse-cells m x l r reg c led b s w n g i ag d z in
      let mine = new-one z in
      omega (arith, now, was_free, rest, all, mine)

  -- the cells of the new blocks have blocks
  made-filled : (z : ℕ) → g.owner z ≡ InJob n → v.made z ≡ true
  made-filled z own =
      let k = was s w g i n d.job d.building d.has.is_job d.has.stage_is d.in_cells d.gate here d.upto d.frozen in
      let t = two in
      let cells = job-cell z in
      let mine : ◌≡◌ {A = ℕ} (cond (is_in_job n (g.owner z)) 1 0) 1 = ap (λ (p : Owner). cond (is_in_job n p) 1 0) own ∙ ap (λ (p : Bool). cond p 1 0) (eqb-self n) in
      let all : times z (filled_cells k.built) ≡ times z left_cells + times z right_cells =
      ap (λ (fs : List Fresh). times z (filled_cells fs)) t.built ∙ ap (times z) (map-append (λ (f : Fresh). f.cell) t.left.blocks.items t.right.blocks.items)
      ∙ times-append z left_cells right_cells in
      let f = fresh-at z k.built (omega (arith, cells, mine, all)) in
      ap v.made (sym f.2) ∙ (each-among (λ (p : Fresh). (v.blocks p.cell ≡ p.block) × (v.made p.cell ≡ true)) f.0 k.built k.in_cells f.1).1

  made-now : (z : ℕ) → g.owner z ≡ InJob n → u.made z ≡ true
  made-now z own =
      let off : new z ≡ false = on_bool (new z) (λ q. absurd (by-gate (λ y. g.owner y ≡ InJob n → ⊥) (λ k. let no : InJob n ≡ InPurse n = sym k ∙ owner-l m x l r reg c led b s w n g i ag d in cc)
      (λ k. let no : InJob n ≡ InPurse n = sym k ∙ owner-r m x l r reg c led b s w n g i ag d in cc) z q own)) (λ q. q) in
      stays has_block (λ k t t2. refl) (λ k k2. refl) (λ k k2. refl) (λ k k2. refl) z (λ k. refl) off ∙ made-filled z own

  inside-l : (z : ℕ) → (shape2 yl).inside z ≡ true → z ≢ yl → (g.owner z ≡ InJob n) × (built z ≡ yl) × (u.made z ≡ true)
  inside-l z inside ne =
      let there : left_tree.shape.inside z ≡ true = sym (ap (λ (k : Shape). k.inside z) shape-l) ∙ inside in
      let some = left_tree.filled_in z there ne in
      let own = owner-filled z (omega (arith, some)) in
      (own, ap (λ (k : Bool). cond k yl yr) there, made-now z own)

  off-left-tree : (z : ℕ) → 1 ≤ times z right_cells → left_tree.shape.inside z ≡ false
  off-left-tree z some = on_bool (left_tree.shape.inside z)
      (λ q.
      let own = owner-filled z (omega (arith, some)) in
      let ne : z ≢ yl = (λ is. let no : InJob n ≡ InPurse n = sym own ∙ ap g.owner is ∙ owner-l m x l r reg c led b s w n g i ag d in cc) in
      let more = left_tree.filled_in z q ne in
      let cells = job-cell z in
      let most : cond (is_in_job n (g.owner z)) 1 0 ≤ 1 = one-or-none (is_in_job n (g.owner z)) in
      absurd (omega (arith, some, more, cells, most)))
      (λ q. q)
    where
      one-or-none : (a : Bool) → cond a 1 0 ≤ 1
      one-or-none true = omega arith
      one-or-none false = omega arith

  inside-r : (z : ℕ) → (shape2 yr).inside z ≡ true → z ≢ yr → (g.owner z ≡ InJob n) × (built z ≡ yr) × (u.made z ≡ true)
  inside-r z inside ne =
      let there : right_tree.shape.inside z ≡ true = sym (ap (λ (k : Shape). k.inside z) shape-r) ∙ inside in
      let some = right_tree.filled_in z there ne in
      let own = owner-filled z (omega (arith, some)) in
      (own, ap (λ (k : Bool). cond k yl yr) (off-left-tree z some), made-now z own)

  built-new : (z : ℕ) → g.owner z ≡ InJob n → (new (built z) ≡ true) × ((shape2 (built z)).inside z ≡ true)
  built-new z own =
      let cells = job-cell z in
      let mine : ◌≡◌ {A = ℕ} (cond (is_in_job n (g.owner z)) 1 0) 1 = ap (λ (p : Owner). cond (is_in_job n p) 1 0) own ∙ ap (λ (p : Bool). cond p 1 0) (eqb-self n) in
      on_bool (left_tree.shape.inside z)
      (λ q. subst (λ (y : ℕ). (new y ≡ true) × ((shape2 y).inside z ≡ true)) (sym (ap (λ (k : Bool). cond k yl yr) q)) (new-l, ap (λ (k : Shape). k.inside z) shape-l ∙ q))
      (λ q.
      let none : times z left_cells ≡ 0 = not-there (times z left_cells) (λ some. false≢true (sym q ∙ left_tree.in_filled z some)) in
      let there = right_tree.in_filled z (omega (arith, cells, mine, none)) in
      subst (λ (y : ℕ). (new y ≡ true) × ((shape2 y).inside z ≡ true)) (sym (ap (λ (k : Bool). cond k yl yr) q)) (new-r, ap (λ (k : Shape). k.inside z) shape-r ∙ there))
    where
      not-there : (k : ℕ) → (1 ≤ k → ⊥) → k ≡ 0
      not-there k never = elim (cases_lt 0 k) [ inl some ↦ absurd (never (omega (arith, some))) | inr none ↦ omega (arith, none) ]

  -- The gates.

  closed : (b.purse ≡ []) × ((j : JobValue) → b.job ≡ Some j → j.stage ≡ IsCalled)
  closed = closes x.number d.of d.work d.job (Split d.of shard left right) led (w.actors n) b (job-asked s w n g i d.of d.work d.command d.job d.has.is_job) d.finishes

  actor-now : w2.actors n ≡ b
  actor-now = actor-at w.actors n b

  its-job : u.jobs n ≡ b.job
  its-job = ap (λ (a : ActorValue). a.job) actor-now

  abbrev retiring : Retiring s v u g g2 n
  retiring = record {
    new = new;
    shard_of = shard_of;
    built = built;
    x = old;
    shard = shard;
    upto = (was s w g i n d.job d.building d.has.is_job d.has.stage_is d.in_cells d.gate here d.upto d.frozen).upto;
    is_gate = is-gate s w g i n d.job d.building d.has.is_job d.has.stage_is d.in_cells d.gate here d.upto d.frozen;
    frozen = phase-here s w g i n d.job d.building d.has.is_job d.has.stage_is d.in_cells d.gate here d.upto d.frozen;
    drained = (was s w g i n d.job d.building d.has.is_job d.has.stage_is d.in_cells d.gate here d.upto d.frozen).drained;
    phase_x = ap phase_of old-now ∙ ap (λ (k : Gate). Some k.phase) d.retires.now;
    queue_x = ap (λ (k : CellValue). (queue_in k).rows) old-now ∙ d.retires.empty;
    valid_x = subst (IsQueueOf s.hierarchy) (sym (ap queue_in old-now)) d.retires.valid;
    read_x = λ z. ap (times z) (ap gone_in old-now ∙ ap (λ (k : Gate). k.gone) d.retires.now) ∙ (read s w g i n d.job d.building d.has.is_job d.has.stage_is d.in_cells d.gate here d.upto d.frozen ends).blocks z;
    purse_cell = by-gate (λ z. g.owner z ≡ InPurse n) (owner-l m x l r reg c led b s w n g i ag d) (owner-r m x l r reg c led b s w n g i ag d);
    gate_new = by-gate (λ z. u.gates z ≡ Some (shard_of z)) (gate-l ∙ sym (ap Some shard-l)) (gate-r ∙ sym (ap Some shard-r));
    phase_new = by-gate (λ z. u.phases z ≡ Some Open) (ap phase_of (l-now m x l r reg c led b s w n g i ag d) ∙ ap Some d.left_is.phase_is) (ap phase_of (r-now m x l r reg c led b s w n g i ag d) ∙ ap Some d.right_gate_is.phase_is);
    active_new = by-gate (λ z. u.active z ≡ 0) (ap active_in (l-now m x l r reg c led b s w n g i ag d) ∙ d.left_is.active) (ap active_in (r-now m x l r reg c led b s w n g i ag d) ∙ d.right_gate_is.active);
    pins_new = by-gate (λ z. u.pins z ≡ 0) (ap pins_in (l-now m x l r reg c led b s w n g i ag d) ∙ d.left_is.pins) (ap pins_in (r-now m x l r reg c led b s w n g i ag d) ∙ d.right_gate_is.pins);
    gone_new = by-gate (λ z. u.gone z ≡ []) (ap gone_in (l-now m x l r reg c led b s w n g i ag d) ∙ d.left_is.gone) (ap gone_in (r-now m x l r reg c led b s w n g i ag d) ∙ d.right_gate_is.gone);
    unmade = by-gate (λ z. u.made z ≡ false) (ap has_block (l-now m x l r reg c led b s w n g i ag d)) (ap has_block (r-now m x l r reg c led b s w n g i ag d));
    valid_new = by-gate (λ z. IsQueueOf s.hierarchy (u.queues z)) (subst (IsQueueOf s.hierarchy) (sym (ap queue_in (l-now m x l r reg c led b s w n g i ag d))) d.left_is.valid) (subst (IsQueueOf s.hierarchy) (sym (ap queue_in (r-now m x l r reg c led b s w n g i ag d))) d.right_gate_is.valid);
    named_new = by-gate (λ z. Each (λ (q : Row). v.row q.no ≡ q) (u.queues z).rows)
        (subst (Each (λ (q : Row). v.row q.no ≡ q)) (sym queue-l) left-are.1.named)
        (subst (Each (λ (q : Row). v.row q.no ≡ q)) (sym queue-r) right-are.1.named);
    blank = by-gate (λ z. (v.active z ≡ 0) × (v.pins z ≡ 0))
        (let k = blank-counts l.before blank.0.tag blank.0.no_gate in (ap active_in ag.cells.1.1.0 ∙ k.0, ap pins_in ag.cells.1.1.0 ∙ k.1))
        (let k = blank-counts r.before blank.1.tag blank.1.no_gate in (ap active_in ag.cells.1.1.1.0 ∙ k.0, ap pins_in ag.cells.1.1.1.0 ∙ k.1));
    tree_new = by-gate (λ z. IsTree (table_of s v.row) (cells_at u.blocks u.trees z) (shape2 z))
        (subst (IsTree (table_of s v.row) (cells_at u.blocks u.trees yl)) (sym shape-l) left_tree.tree) (subst (IsTree (table_of s v.row) (cells_at u.blocks u.trees yr)) (sym shape-r) right_tree.tree);
    settled = λ z q k. by-gate (λ y. (shape2 y).carried q ≡ false) (ap (λ (t : Shape). t.carried q) shape-l ∙ left_tree.settled q) (ap (λ (t : Shape). t.carried q) shape-r ∙ right_tree.settled q) z k;
    inside_new = λ y z k. by-gate (λ y. (shape2 y).inside z ≡ true → z ≢ y → (g.owner z ≡ InJob n) × (built z ≡ y) × (u.made z ≡ true)) (inside-l z) (inside-r z) y k;
    leads = λ y z k q. by-gate (λ y. (shape2 y).inside z ≡ true → (shape2 y).level z ≡ k + 1 → Each (λ (f : Entry). (p : Spare) × Among p (spent_of (v.jobs n)) × (f.stamp ≡ p.stamp)) (nodes (cells_at u.blocks u.trees y) z).entries)
        (λ inside level. left_tree.leads z (sym (ap (λ (t : Shape). t.inside z) shape-l) ∙ inside)) (λ inside level. right_tree.leads z (sym (ap (λ (t : Shape). t.inside z) shape-r) ∙ inside)) y q;
    built_new = built-new;
    gates_off = λ z q. stays gate_shard (λ k t t2. refl) (λ k k2. refl) (λ k k2. refl) (λ k k2. refl) z (λ k. ap (λ (p : Gate). Some p.shard) d.retires.now) q;
    phases_off = λ z q ne. stays phase_of (λ k t t2. refl) (λ k k2. refl) (λ k k2. refl) (λ k k2. refl) z (λ k. absurd (ne (k ∙ sym d.here))) q;
    queues_off = λ z q ne. stays queue_in (λ k t t2. refl) (λ k k2. refl) (λ k k2. refl) (λ k k2. refl) z (λ k. absurd (ne (k ∙ sym d.here))) q;
    gone_off = λ z q ne. stays gone_in (λ k t t2. refl) (λ k k2. refl) (λ k k2. refl) (λ k k2. refl) z (λ k. absurd (ne (k ∙ sym d.here))) q;
    trees_off = λ z q. stays way_in (λ k t t2. refl) (λ k k2. refl) (λ k k2. refl) (λ k k2. refl) z (λ k. ap way_to_tree d.retires.now) q;
    active_off = λ z q. stays active_in (λ k t t2. refl) (λ k k2. refl) (λ k k2. refl) (λ k k2. refl) z (λ k. ap (λ (p : Gate). p.active) d.retires.now) q;
    pins_off = λ z q. stays pins_in (λ k t t2. refl) (λ k k2. refl) (λ k k2. refl) (λ k k2. refl) z (λ k. ap (λ (p : Gate). p.pins) d.retires.now) q;
    blocks_off = λ z q. stays block_in (λ k t t2. refl) (λ k k2. refl) (λ k k2. refl) (λ k k2. refl) z (λ k. refl) q;
    made_off = λ z q. stays has_block (λ k t t2. refl) (λ k k2. refl) (λ k k2. refl) (λ k k2. refl) z (λ k. refl) q;
    shape_off = λ z q. let off = off-gates z q in ap (λ (k : Bool). cond k left_tree.shape (cond (eqb z yr) right_tree.shape (g.shape z))) (ne_eqb z yl off.0) ∙ ap (λ (k : Bool). cond k right_tree.shape (g.shape z)) (ne_eqb z yr off.1);
    owner = λ z. refl;
    counts = counts-now;
    stamps = ap (λ (k : StockValue). k.stamps) (stock-now m x l r reg c led b s w n g i ag d).1 ∙ ap (λ (k : StockValue). k.stamps) d.ids ∙ d.gives.stamps ∙ sym (ap (λ (k : StockValue). k.stamps) (stock-now m x l r reg c led b s w n g i ag d).0);
    ids_few = subst (λ (k : ℕ). k < 2 ^ 32) (sym (ap (λ (k : StockValue). k.ids) (stock-now m x l r reg c led b s w n g i ag d).1 ∙ ap (λ (k : StockValue). k.ids) d.ids)) few;
    all = ap (λ (k : StockValue). k.cells) (stock-now m x l r reg c led b s w n g i ag d).1 ∙ ap (λ (k : StockValue). k.cells) d.ids ∙ d.gives.all ∙ sym (ap (λ (k : StockValue). k.cells) (stock-now m x l r reg c led b s w n g i ag d).0);
    purse = ap (λ (a : ActorValue). a.purse) actor-now ∙ closed.0;
    spent = ap spent_of its-job ∙ spent-new b.job closed.1;
    items = ap items_of_job its-job ∙ items-new b.job closed.1;
    purses_off = λ a ne. ap (λ (k : ActorValue). k.purse) (actor-off w.actors n b a ne);
    jobs_off = λ a ne. ap (λ (k : ActorValue). k.job) (actor-off w.actors n b a ne);
  }

  -- a job with a plane is a split
  to-is : d.job.to ≡ None
  to-is = by d.job.to refl
    where
      by : (o : Option ℕ) → d.job.to ≡ o → d.job.to ≡ None
      by None is = is
      by (Some to) is = (let no : None ≡ Some d.plane = sym ((frozen s w g i n d.job d.building d.has.is_job d.has.stage_is d.in_cells d.gate here d.upto d.frozen).move to is) ∙ d.divided in absurd (cc))

  each : EachEvent (Stands (site_in s) g.placed) h
  each = i.telling.right.right.each

  -- The shard stands, and the split is right.

  live : is_live s.workers h shard ≡ true
  live = live-here s w g i n d.job d.building d.has.is_job d.has.stage_is d.in_cells d.gate here d.upto d.frozen

  its-action : action_of d.job ≡ action.Split shard
  its-action = ap (action_to shard) to-is

  is-right : IsRightSplit (site_in s) h d.of shard left right
  is-right =
      let next : left ≡ ids_made s.workers h = ap (λ (k : StockValue). k.ids) (sym (stock-now m x l r reg c led b s w n g i ag d).0) ∙ i.lineage.ids in
      record {
        done = subst (IsRightAction (site_in s) h d.of) its-action (right-action s w n g i d.of d.work d.command d.job d.has.is_job (ap (λ (a : Action). is_live s.workers h (shard_in a)) its-action ∙ live));
        next = next;
        after = ap (λ (k : ℕ). k + 1) next;
      }

  was-on : is_on s.workers h shard d.job.worker ≡ true
  was-on = front s w g i n d.job d.building d.has.is_job d.has.stage_is d.in_cells d.gate here d.upto d.frozen

  its-made : shard < ids_made s.workers h
  its-made = shard-made (site_in s) g.placed h each d.of shard left right d.job.worker is-right was-on

  off-l : shard ≢ left
  off-l = off-left (site_in s) g.placed h each d.of shard left right d.job.worker is-right was-on shard its-made

  off-r : shard ≢ right
  off-r = off-right (site_in s) g.placed h each d.of shard left right d.job.worker is-right was-on shard its-made

  -- The registry.

  abbrev left_spot : Spot
  left_spot = record { shard = left; worker = d.split.spot.worker; set = d.left_box }

  abbrev right_spot : Spot
  right_spot = record { shard = right; worker = d.split.spot.worker; set = d.right_box }

  fronts : places_of d.registry.frontier ≡ frontier s.workers h
  fronts = ap (λ (k : RegistryValue). places_of k.frontier) (sym (registry-now m x l r reg c led b s w n g i ag d).0) ∙ i.lineage.front

  below : Each (λ (z : Spot). z.shard < left) d.registry.frontier
  below = spots-made left d.registry.frontier (λ z is.
      let lt = live-made (site_in s) g.placed h z each (sym (ap (list_any (is_of z)) fronts) ∙ is) in
      let next = is-right.next in omega (arith, lt, next))

  spots-now : d.registry_now.frontier ≡ without shard d.registry.frontier ++ left_spot ∷ right_spot ∷ []
  spots-now = d.split.frontier ∙ spots-split shard left_spot right_spot d.registry.frontier below (omega arith)

  front-now : u.registry.frontier ≡ without shard v.registry.frontier ++ left_spot ∷ right_spot ∷ []
  front-now =
      let k = registry-now m x l r reg c led b s w n g i ag d in
      ap (λ (z : RegistryValue). z.frontier) k.1 ∙ spots-now ∙ ap (λ (z : RegistryValue). without shard z.frontier ++ left_spot ∷ right_spot ∷ []) (sym k.0)

  places-now : places_of u.registry.frontier ≡ frontier s.workers (e ∷ h)
  places-now =
      let ascend : AscendFrom 0 (places_of d.registry.frontier) = subst (AscendFrom 0) (sym fronts) (frontier-ascends (site_in s) g.placed h each) in
      let worker : worker_of (frontier s.workers h) shard ≡ Some d.split.spot.worker = ap (λ (ps : List Place). worker_of ps shard) (sym fronts) ∙ (spot-worker shard d.registry.frontier d.split.spot d.split.was).1 in
      ap (λ (z : RegistryValue). places_of z.frontier) (registry-now m x l r reg c led b s w n g i ag d).1 ∙ ap places_of spots-now ∙ places-split shard 0 left_spot right_spot d.registry.frontier ascend
      ∙ ap (λ (ps : List Place). others shard ps ++ place left d.split.spot.worker ∷ place right d.split.spot.worker ∷ []) fronts
      ∙ sym (ap (λ (t : Option ℕ). others shard (frontier s.workers h) ++ children left right t) worker)

  -- Boxes.

  left-box : IsChildBox s v g shard side d.left_box
  left-box =
      let are = left-are in
      let set : (u.trees l.number).set ≡ d.building.left.set = ap (λ (k : Gate). k.set) (ap way_in (l-now m x l r reg c led b s w n g i ag d)) ∙ d.left_is.set in
      child-box gates s w g i n d.job d.has.is_job side (left_of s.hierarchy d.plane old_rows) (left_of s.hierarchy d.plane late_rows) are.0 are.1
      left-all d.building.left.set d.left_box
      (subst (IsSetOf s.hierarchy (coords (left_of s.hierarchy d.plane old_rows))) set (tree-set (left_of s.hierarchy d.plane old_rows) gates left-tree are.0.named))
      (subst (λ (rows : List Row). IsTrueBox s.hierarchy d.building.left.set rows d.left_box) (d.left_is.queue ∙ ap (left_of s.hierarchy d.plane) late-here) d.left_true)

  right-box : IsChildBox s v g shard (λ q. not (side q)) d.right_box
  right-box =
      let are = right-are in
      let set : (u.trees r.number).set ≡ d.right_tree.set = ap (λ (k : Gate). k.set) (ap way_in (r-now m x l r reg c led b s w n g i ag d)) ∙ d.right_gate_is.set in
      child-box gates s w g i n d.job d.has.is_job (λ q. not (side q)) (right_of s.hierarchy d.plane old_rows) (right_of s.hierarchy d.plane late_rows) are.0 are.1
      right-all d.right_tree.set d.right_box
      (subst (IsSetOf s.hierarchy (coords (right_of s.hierarchy d.plane old_rows))) set (tree-set (right_of s.hierarchy d.plane old_rows) gates right-tree are.0.named))
      (subst (λ (rows : List Row). IsTrueBox s.hierarchy d.right_tree.set rows d.right_box) (d.right_gate_is.queue ∙ ap (right_of s.hierarchy d.plane) late-here) d.right_true)

  -- Where the tables lead.

  abbrev leading : Splitting s v u g g2 n retiring
  leading =
      let tables = split-tables m x l r reg c led b s w n g i ag d off-l off-r in
      let stock = stock-now m x l r reg c led b s w n g i ag d in
      record {
        of = d.of;
        from = d.job.worker;
        plane = d.plane;
        left = left;
        right = right;
        yl = l.number;
        yr = r.number;
        was_on = was-on;
        is_right = is-right;
        is_plane = (frozen s w g i n d.job d.building d.has.is_job d.has.stage_is d.in_cells d.gate here d.upto d.frozen).plane d.plane d.divided;
        new_l = new-l;
        new_r = new-r;
        only = is-new;
        shard_l = shard-l;
        shard_r = shard-r;
        at_shard = tables.at_shard;
        at_left = tables.at_left;
        at_right = tables.at_right;
        at_other = tables.at_other;
        other_worker = tables-off m x l r reg c led b s w n g i ag d;
        gate_l = ap (λ (k : Bool). cond k l.number (cond (eqb left right) r.number (g.gate left))) (eqb-self left);
        gate_r = ap (λ (k : Bool). cond k l.number (cond (eqb right right) r.number (g.gate right))) (ne_eqb right left (λ same. absurd (omega (arith, same)))) ∙ ap (λ (k : Bool). cond k r.number (g.gate right)) (eqb-self right);
        gate_other = λ z off_l off_r. ap (λ (k : Bool). cond k l.number (cond (eqb z right) r.number (g.gate z))) (ne_eqb z left off_l) ∙ ap (λ (k : Bool). cond k r.number (g.gate z)) (ne_eqb z right off_r);
        ids = ap (λ (k : StockValue). k.ids) stock.1 ∙ ap (λ (k : StockValue). k.ids) d.ids ∙ sym (ap (λ (k : StockValue). k.ids + 2) stock.0);
        places = places-now;
      }

  -- The rows of either side are in its gate.

  rows-left : (q : ℕ) → cond ((shape2 l.number).placed q) 1 0 + times q (numbers (u.queues l.number).rows) ≡ cond (side q) (cond (g.placed q) (same (g.home q) shard) 0) 0
  rows-left q =
      let there : ◌≡◌ {A = ℕ} (cond ((shape2 l.number).placed q) 1 0) (cond (left_tree.shape.placed q) 1 0) = ap (λ (t : Shape). cond (t.placed q) 1 0) shape-l in
      let tree = left_tree.placed q in
      let queue = ap (λ (rs : List Row). times q (numbers rs)) queue-l in
      let all = left-all q in
      omega (arith, there, tree, queue, all)

  rows-right : (q : ℕ) → cond ((shape2 r.number).placed q) 1 0 + times q (numbers (u.queues r.number).rows) ≡ cond (not (side q)) (cond (g.placed q) (same (g.home q) shard) 0) 0
  rows-right q =
      let there : ◌≡◌ {A = ℕ} (cond ((shape2 r.number).placed q) 1 0) (cond (right_tree.shape.placed q) 1 0) = ap (λ (t : Shape). cond (t.placed q) 1 0) shape-r in
      let tree = right_tree.placed q in
      let queue = ap (λ (rs : List Row). times q (numbers rs)) queue-r in
      let all = right-all q in
      omega (arith, there, tree, queue, all)

  made : (z : ℕ) → is_live s.workers h z ≡ true → z < ids_made s.workers h
  made z stands = live-made (site_in s) g.placed h z each stands

  -- a child has the rows of its side
  count-child : (child brother q : ℕ) (its : Bool) → brother ≢ child → (g.placed q ≡ true → g.home q ≢ child) → (g.home q ≡ shard → homes q ≡ cond its child brother)
      → cond its (cond (g.placed q) (same (g.home q) shard) 0) 0 ≡ cond (g.placed q) (same (homes q) child) 0
  count-child child brother q its ne off home = on_bool (g.placed q)
      (λ p. on_bool (eqb (g.home q) shard)
      (λ k.
      let first : ◌≡◌ {A = ℕ} (cond its (cond (g.placed q) (same (g.home q) shard) 0) 0) (cond its 1 0) = rw (p, k) refl in
      first ∙ sym (by its) ∙ sym (ap (λ (z : Bool). cond z (same (homes q) child) 0) p ∙ ap (λ (a : ℕ). same a child) (home (eqb-true (g.home q) shard k))))
      (λ k.
      let none : same (homes q) child ≡ 0 = ap (λ (a : ℕ). same a child) (home-off s w g i d.of shard left right side is-right q (eqb-false (g.home q) shard k)) ∙ same_not (g.home q) child (off p) in
      nothing its (cond (g.placed q) (same (g.home q) shard) 0) (rw (p, k) refl) ∙ sym (ap (λ (z : Bool). cond z (same (homes q) child) 0) p ∙ none)))
      (λ p. nothing its (cond (g.placed q) (same (g.home q) shard) 0) (rw p refl) ∙ sym (ap (λ (z : Bool). cond z (same (homes q) child) 0) p))
    where
      by : (a : Bool) → same (cond a child brother) child ≡ cond a 1 0
      by true = same_is child child refl
      by false = same_not brother child ne

      nothing : (a : Bool) (k : ℕ) → k ≡ 0 → cond a k 0 ≡ 0
      nothing true k z = z
      nothing false k z = refl

  either : (P : ℕ → Type 0) → P left → P right → (a : Bool) → P (cond a left right)
  either P one two true = one
  either P one two false = two

  turned : (a : Bool) → cond a left right ≡ cond (not a) right left
  turned true = refl
  turned false = refl

  child-live : (a : Bool) → is_live s.workers (e ∷ h) (cond a left right) ≡ true
  child-live = either (λ z. is_live s.workers (e ∷ h) z ≡ true) (left-live (site_in s) g.placed h each d.of shard left right d.job.worker is-right was-on) (right-live (site_in s) g.placed h each d.of shard left right d.job.worker is-right was-on)

  brothers : left ≢ right
  brothers = apart s v u g g2 n i retiring leading

  shares : SharesRows s v u g g2 n retiring e
  shares = record {
    still = λ z stood ne. live-still (site_in s) g.placed h each d.of shard left right d.job.worker is-right was-on z stood ne;
    stood = λ z stands. elim (live-before (site_in s) g.placed h each d.of shard left right d.job.worker is-right was-on z stands) [
      | inl k ↦ inl k
      | inr k ↦ elim k [ inl is ↦ inr (l.number, leading.new_l, leading.shard_l ∙ sym is) | inr is ↦ inr (r.number, leading.new_r, leading.shard_r ∙ sym is) ]
    ];
    gate_new = by-gate (λ k. gate2 (retiring.shard_of k) ≡ k) (ap gate2 leading.shard_l ∙ leading.gate_l) (ap gate2 leading.shard_r ∙ leading.gate_r);
    gate_off = λ z lt ne. gate-made s v u g g2 n i retiring leading z lt;
    home_new = λ q is. ap (is_live s.workers (e ∷ h)) (home-in s w g i d.of shard left right side is-right q is) ∙ child-live (side q);
    home_away = λ q z is stands ne at. either (λ k. k ≡ z → ⊥) (λ k. not-left s v u g g2 n i retiring leading z (made z stands) (sym k)) (λ k. not-right s v u g g2 n i retiring leading z (made z stands) (sym k)) (side q) (sym (home-in s w g i d.of shard left right side is-right q is) ∙ at);
    home_off = home-off s w g i d.of shard left right side is-right;
    rows = λ k q new. by-gate (λ z. cond ((shape2 z).placed q) 1 0 + times q (numbers (u.queues z).rows) ≡ cond (g.placed q) (same (homes q) (retiring.shard_of z)) 0)
        (rows-left q ∙ count-child left right q (side q) (λ k. brothers (sym k)) (λ p. not-left s v u g g2 n i retiring leading (g.home q) (made (g.home q) (i.placing.stands q p))) (home-in s w g i d.of shard left right side is-right q) ∙ ap (λ (z : ℕ). cond (g.placed q) (same (homes q) z) 0) (sym leading.shard_l))
        (rows-right q ∙ count-child right left q (not (side q)) brothers (λ p. not-right s v u g g2 n i retiring leading (g.home q) (made (g.home q) (i.placing.stands q p))) (λ is. home-in s w g i d.of shard left right side is-right q is ∙ turned (side q)) ∙ ap (λ (z : ℕ). cond (g.placed q) (same (homes q) z) 0) (sym leading.shard_r)) k new;
  }

  done : IsDoneBy s h g.placed d.of d.job e
  done = record {
    worked = rw (eq-eqb d.of d.of refl) refl;
    done = refl;
    settles = subst (λ (a : Action). Settles (site_in s) g.placed d.of a h e) (sym its-action) refl;
    ahead = split-ahead s h (e ∷ h) g.placed d.of d.job to-is;
  }

  ending : Ending s w w2 n g owner2 gate2 shape2 homes
  ending = record {
    of = d.of;
    work = d.work;
    command = d.command;
    job = d.job;
    building = d.building;
    has = d.has;
    in_cells = d.in_cells;
    e = e;
    number = refl;
    no_session = refl;
    no_end = refl;
    page = refl;
    did = subst (λ (a : Action). Did a e) (sym its-action) refl;
    done = done;
    right = KeepsRight-split (site_in s) g.placed h d.of shard left right i.telling.right is-right;
    led = led;
    actor = b;
    actor_is = actor-at w.actors n b;
    others = actor-off w.actors n b;
    finishes = subst (λ (k : ℕ). Finishes k d.of d.work d.job e led (w.actors n) b) (sym d.here) d.finishes;
    ledger = ledger-now m x l r reg c led b s w n g i ag d;
    view_is = view-finish_split s w n s.hierarchy m x l r reg c led (w.actors n) b ag d blank.0.tag blank.1.tag;
    retiring = retiring;
    lines = split-lines s w g i d.of shard left right side is-right;
    boxes = split-boxes s w g i d.of shard left right side is-right d.split.spot.worker d.left_box d.right_box left-box right-box u.registry
        front-now;
    shares = shares;
    leads = split-leads s v u g g2 n i retiring leading;
  }

  pub finish-split : IsFinished s w w2 g
  finish-split = finished s w w2 n g owner2 gate2 shape2 homes i ending other

-- The step.
pub split-kept : (m x l r reg c led : Change) (b : ActorValue) (s : Setting) (w : World) (n : ℕ) (g : Ghost) (ag : Agrees w (m ∷ x ∷ l ∷ r ∷ reg ∷ c ∷ led ∷ []) n (w.actors n)) (d : DoesFinishSplit s.hierarchy m x l r reg c led (w.actors n) b) → IsFinished s w (after w (m ∷ x ∷ l ∷ r ∷ reg ∷ c ∷ led ∷ []) n b) g
    → IsKept s kind.FinishSplit n w (after w (m ∷ x ∷ l ∷ r ∷ reg ∷ c ∷ led ∷ []) n b) g
split-kept m x l r reg c led b s w n g ag d f = record {
  step = record { changes = m ∷ x ∷ l ∷ r ∷ reg ∷ c ∷ led ∷ []; actor = b; agrees = ag; does = d; sight = tt; now_is = refl };
  ghost_now = f.ghost_now;
  holds = f.holds;
  newer = f.newer;
  grows = f.grows;
  goes_on = inl (inl f.falls);
}

-- So does the kind keep its promise, where two more ids can be given out.
pub split-keeps : OtherLaw → CollectEndLaw → GateLaw → (h : List Dimension) (m x l r reg c led : Change) (a b : ActorValue) (d : DoesFinishSplit h m x l r reg c led a b) → (stock_in c.before).ids + 2 < 2 ^ 32
    → Keeps h kind.FinishSplit (m ∷ x ∷ l ∷ r ∷ reg ∷ c ∷ led ∷ []) a b d
split-keeps other ends gates h m x l r reg c led a b d few s w n g about i ag sight =
    let there : Agrees w (m ∷ x ∷ l ∷ r ∷ reg ∷ c ∷ led ∷ []) n (w.actors n) = record { cells = ag.cells; actor_is = refl; free = λ y ne. ag.free y ne } in
    let does : DoesFinishSplit s.hierarchy m x l r reg c led (w.actors n) b =
    subst (λ (z : ActorValue). DoesFinishSplit s.hierarchy m x l r reg c led z b) (sym ag.actor_is) (subst (λ (z : List Dimension). DoesFinishSplit z m x l r reg c led a b) (sym about) d) in
    let room : does.stock.ids + 2 < 2 ^ 32 = subst (λ (k : StockValue). k.ids + 2 < 2 ^ 32) (ap stock_in does.turns_stock.was) few in
    split-kept m x l r reg c led b s w n g there does (finish-split m x l r reg c led b s w n g i there does other ends gates room)
