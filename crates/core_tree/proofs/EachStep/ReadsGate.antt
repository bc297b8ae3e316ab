-- A query's part that reads its shard's gate.
use Rattle.std.proofs.{Common.{◌≡◌, ◌≢◌, ℕ, ◌+◌, ◌*◌, ◌-◌, ◌<◌, ◌≤◌, Bool, true, cond, eqb, List, [], ◌∷◌, map, Some, None, IsSome, refl, sym, ap, ◌∙◌, subst, inl, inr, ◌⊎◌, arith}, lemmas.Bool.{eqb-true, eqb-false, ne_eqb}, lemmas.Nat.mul-le}
use Rattle.std.specs.FinMap as table
use Rattle.std.specs.{Option.option_map_or, Ordering.nat_cmp}
use Rattle.dim_hierarchy.specs.{Compiled.compiled, Dimension.Dimension, declared.filter.Pick.Pick, declared.row.Row.Row}
use Rattle.measure_agg.specs.{Aggregate.{Aggregate, agg}, Joining.join}
use Rattle.measure_agg.proofs.AggLaws.{join_empty_left}
use Rattle.dc_node.specs.{declared.entry.Entry.Entry, declared.todo.Item.Item}
use Rattle.volap_cell.specs.link_descent.specs.{GateRead.{queue_part, tree_part, root_items}, Visit.is_noted}
use Rattle.mapping_table.specs.declared.place.Where.{Where}
use Rattle.mapping_table.specs.declared.place.Where.TheVariants as where_is
use Rattle.row_ledger.specs.{Shards.is_live, declared.event.Event.Event}
use Rattle.row_ledger.proofs.Descent.{live-apart}
use Rattle.volap_cell.specs.shard_store.specs.{Gate.{IsQueueOf, root_entry}, declared.gate.Gate.Gate, declared.gate.Phase.TheVariants.Gone, declared.queue.Queue.Queue}
use Rattle.list_words.specs.Counts.{Each, same, times}
use Rattle.list_words.proofs.Truth.{on_bool, eqb-self}
use Rattle.volap_cell.specs.tree_shape.specs.{Laws.{BeginLaw, RootLaw, OtherLaw}, Queries.{IsUnfinished, fits, items_of}, Shape.{Node, TreeCells, nodes, Shape, numbers}, Steps.{AfterBegin, LeavesTree}, Trees.IsTree, Walks.{Noted, pending}}
use Rattle.volap_cell.specs.tree_shape.proofs.Whole.Assembled.{node-gate}
use Rattle.volap_cell.specs.{Cells.{CellValue, MapCell, pins_in, queue_in, tag_of, way_in, way_to_tree, where_in}, Errands.{ReadPart, taken_by, taken_of, read_of, want_of}, Falls.{far, per_query, queries_of_task, blocks_left}, Ghost.{Ghost, InTree, NotOfStock}, Growing.{IsUnder, table_of}, Invariant.InvWith, Querying.{IsCounted, IsReading, IsWalk, IsInTreeOf, pins_of, one_pin, must_hold}, Setting.{Setting, actor_count, cell_count, site_in}, Steps.{IsKept, Keeps}, Stocking.{cells_at, IsWhole, NoneExpects}, Sums.sum_below, TreeKinds.{DoesGateRead, one_if_some, pin_if}, Values.{ActorValue, ReadingValue, TaskValue, Unread, Read}, View.{View, view}, World.{World, Change, after, Agrees}, declared.kind.Kind.TheVariants.GateRead}
use Rattle.volap_cell.proofs.{Actors.read-is, Cells.Numbers.at-map, Desks.Queries.{IsQueryPart, query-part}, Persons.has-taken, Sums.sum-changed, Views.Fields.IsNewAt, Views.Frames.{actor-at, actor-off}, Views.Gates.gate-behind, Views.Seen.beside, Views.Touches.turned, Views.Trees.by_gate_read}
use Rattle.core_tree.proofs.{EachStep.VisitsBlock.waits-noted, Queries.BlocksLeft.{left-is, left-few}, Queries.QuerySteps.{ReadsStep, query-kept}, Queries.Walkers.{home-at, under-home, asked-of}}

-- the gate of a shard that its worker's table leads to
pub record IsShardGate (s : Setting) (w : World) (g : Ghost) (x c : ℕ) : Type 0 where
  pub of_shard : (view s w).gates c ≡ Some x
  pub stands : (view s w).phases c ≢ Some Gone
  pub gate_is : g.gate x ≡ c
  pub live : is_live s.workers (view s w).history x ≡ true
  pub whole : IsWhole (view s w).gates (view s w).phases (view s w).pins c

pub shard-gate : (s : Setting) (w : World) (g : Ghost) → InvWith s (view s w) g → (number worker x c : ℕ) (places : table.FinMap nat_cmp Where) → w.cells number ≡ MapCell worker places → table.get places x ≡ Some (where_is.Gate c) → IsShardGate s w g x c
shard-gate s w g i number worker x c places here leads =
    let v = view s w in
    let at = (at-map s w.cells i.numbering.tag number worker places here).0 in
    let led : v.maps worker x ≡ Some (where_is.Gate c) = ap (λ (y : ℕ). where_in (w.cells y) x) (sym at) ∙ ap (λ (k : CellValue). where_in k x) here ∙ leads in
    let (on, is) = i.lineage.leads worker x c led in
    let (there, of_shard, stands) = i.lineage.gate_of x worker on in
    let of_this : v.gates c ≡ Some x = ap v.gates (sym is) ∙ of_shard in
    let stands_this : v.phases c ≢ Some Gone = (λ e. stands (ap v.phases is ∙ e)) in
    record {
      of_shard = of_this;
      stands = stands_this;
      gate_is = is;
      live = (i.lineage.live c x of_this stands_this).0;
      whole = (subst IsSome (sym of_this) refl, inl stands_this);
    }

-- what is noted of a root: the root's block, which isn't the gate
root-apart : (h : List Dimension) (f : List Pick) (gate : Gate) (c : ℕ) → gate.root ≢ c → Each (λ i. i.cell ≢ c) (root_items h f gate)
root-apart h f gate c ne = on_bool (is_noted h f (root_entry gate)) (λ q. rw q (ne, tt)) (λ q. rw q tt)

-- a part goes on at least once
far-some : (workers : ℕ) (h : List Event) (x w : ℕ) → 1 ≤ far workers h x w
far-some workers h x w = omega arith

pub few-same : (b : Bool) (x y : ℕ) → cond b (same x y) 0 ≤ 1
few-same b x y = on_bool b (λ p. on_bool (eqb x y) (λ q. rw (p, q) (omega arith)) (λ q. rw (p, q) (omega arith))) (λ p. rw p (omega arith))

module _ (begins : BeginLaw) (roots : RootLaw) (other : OtherLaw) (m gc : Change) (b : ActorValue) (s : Setting) (w : World) (n : ℕ) (g : Ghost) (i : InvWith s (view s w) g) (ag : Agrees w (m ∷ gc ∷ []) n (w.actors n)) (d : DoesGateRead s.hierarchy m gc (w.actors n) b) where
  abbrev v : View
  v = view s w

  abbrev w2 : World
  w2 = after w (m ∷ gc ∷ []) n b

  abbrev c : ℕ
  c = gc.number

  abbrev x : ℕ
  x = d.e.shard

  abbrev shape : Shape
  shape = g.shape c

  k : IsQueryPart s v.history v.desks (taken_by d.e) d.filter
  k = query-part s v.history v.desks v.roles v.commands v.taken i.desking n (taken_by d.e) d.filter (ap taken_of d.errand) (ap want_of d.unread)

  gate : IsShardGate s w g x c
  gate = shard-gate s w g i m.number d.e.worker x c d.leads.table (ag.cells.0 ∙ d.leads.was) d.leads.leads

  abbrev must : ℕ → Bool
  must = must_hold s.hierarchy v.history k.of k.q

  abbrev fit : ℕ → Bool
  fit = fits (table_of s v.row) k.q.filter

  -- The gate, with its tree and its queue.

  abbrev cells : TreeCells
  cells = cells_at v.blocks v.trees c

  abbrev full : TreeCells
  full = record { gate_cell = c; gate = d.gate; block = v.blocks }

  tree-is : v.trees c ≡ way_to_tree d.gate
  tree-is = ap way_in (ag.cells.1.0 ∙ d.pinned.was)

  queue-is : v.queues c ≡ d.gate.queue
  queue-is = ap queue_in (ag.cells.1.0 ∙ d.pinned.was)

  tree : IsTree (table_of s v.row) cells shape
  tree = i.growing.tree c gate.whole

  leads-full : LeavesTree shape cells full
  leads-full = record { gate_cell = refl; gate = record { root = ap root_entry (sym tree-is); height = ap (λ (z : Gate). z.height) (sym tree-is) }; block = λ y yi yd. refl }

  leads-back : LeavesTree shape full cells
  leads-back = record { gate_cell = refl; gate = record { root = ap root_entry tree-is; height = ap (λ (z : Gate). z.height) tree-is }; block = λ y yi yd. refl }

  tree-full : IsTree (table_of s v.row) full shape
  tree-full = (other (table_of s v.row) shape cells full tree leads-full).tree

  -- each row of the shard is in the tree or the queue, once, and no other row is there

  one-at : (r : ℕ) → cond (shape.placed r) 1 0 + times r (numbers d.gate.queue.rows) ≡ cond (g.placed r) (same (g.home r) x) 0
  one-at r = subst (λ (q : Queue). cond (shape.placed r) 1 0 + times r (numbers q.rows) ≡ cond (g.placed r) (same (g.home r) x) 0) queue-is
      (subst (λ (y : ℕ). cond ((g.shape y).placed r) 1 0 + times r (numbers (v.queues y).rows) ≡ cond (g.placed r) (same (g.home r) x) 0) gate.gate_is (i.placing.one x r gate.live))

  home-here : (r : ℕ) → 1 ≤ cond (shape.placed r) 1 0 + times r (numbers d.gate.queue.rows) → IsUnder v.history g.placed g.home x r
  home-here r some =
      let (placed, home) = home-at s w g i x r gate.live (subst (λ (y : ℕ). 1 ≤ cond ((g.shape y).placed r) 1 0 + times r (numbers (v.queues y).rows)) (sym gate.gate_is)
      (subst (λ (q : Queue). 1 ≤ cond (shape.placed r) 1 0 + times r (numbers q.rows)) (sym queue-is) some)) in
      under-home s w g i x r placed home

  law : AfterBegin (table_of s v.row) full shape must k.q.filter []
  law = begins (table_of s v.row) full shape must k.q.filter [] tree-full (record {
    asked = asked-of s w g i k.of k.q k.asked;
    queue = subst (IsQueueOf s.hierarchy) queue-is (i.queueing.queue c gate.whole.0);
    rows = subst (λ (q : Queue). Each (λ (r : Row). v.row r.no ≡ r) q.rows) queue-is (i.queueing.named c gate.whole.0);
    once = λ r. let one = one-at r in let few = few-same (g.placed r) (g.home r) x in omega arith;
    apart = λ r p. let one = one-at r in let few = few-same (g.placed r) (g.home r) x in let there : ◌≡◌ {A = ℕ} (cond (shape.placed r) 1 0) 1 = rw p refl in omega arith;
    fitting = λ r some. absurd (omega arith);
  })

  -- What it has then.

  abbrev items : List Item
  items = root_items s.hierarchy d.filter d.gate

  abbrev r2 : ReadingValue
  r2 = record {
    wanted = compiled s.hierarchy d.filter;
    agg = join (queue_part s.hierarchy d.filter d.gate.queue) (tree_part s.hierarchy d.filter d.gate);
    items = items;
    pin = pin_if c items;
  }

  items-are : root_items s.hierarchy k.q.filter d.gate ≡ items
  items-are = ap (λ (f : List Pick). root_items s.hierarchy f d.gate) k.filter

  unfinished : IsUnfinished shape (nodes cells) must fit items law.now
  unfinished = (other (table_of s v.row) shape full cells tree-full leads-back).queries must fit items law.now (subst (λ (xs : List Item). IsUnfinished shape (nodes full) must fit xs law.now) items-are law.unfinished)

  apart : Each (λ i. i.cell ≢ c) items
  apart = root-apart s.hierarchy d.filter d.gate c (roots (table_of s v.row) full shape tree-full).block

  counts-now : IsCounted s v.history v.row g.placed g.home k.q x law.now
  counts-now = record {
    once = law.unfinished.ok.distinct;
    fitting = law.unfinished.ok.fitting;
    under = λ r there. elim (law.known r there) [
      | inl queued ↦ home-here r (omega arith)
      | inr placed ↦ home-here r (rw placed (omega arith))
    ];
  }

  total-is : r2.agg ≡ agg (map v.row law.now)
  total-is =
      ap (λ (f : List Pick). join (queue_part s.hierarchy f d.gate.queue) (tree_part s.hierarchy f d.gate)) (sym k.filter)
      ∙ ap (λ (a : Aggregate). join a (tree_part s.hierarchy k.q.filter d.gate)) (sym (join_empty_left (queue_part s.hierarchy k.q.filter d.gate.queue))) ∙ sym law.total

  walk-of : (xs : List Item) → xs ≡ items → IsWalk s v.history v.row v.blocks v.trees g.shape k.of k.q law.now r2 (pin_if c xs)
  walk-of [] is = sym is
  walk-of (y ∷ xs) is = (apart, unfinished)

  -- with nothing noted, each row of the tree that must be held is counted
  none-pending : (ps : List Noted) (y : ℕ) → items_of ps ≡ [] → pending shape ps y ≡ 0
  none-pending [] y e = refl
  none-pending (p ∷ ps) y e = cc

  in-tree : (r : ℕ) → shape.placed r ≡ true → must r ≡ true → fit r ≡ true → (xs : List Item) → xs ≡ items → (1 ≤ times r law.now) ⊎ IsInTreeOf g.shape (pin_if c xs) r
  in-tree r placed asks matches [] is =
      let some = unfinished.ok.whole r placed asks matches in
      let none = none-pending unfinished.noted (shape.at r) (unfinished.are ∙ sym is) in inl (omega arith)
  in-tree r placed asks matches (y ∷ xs) is = inr placed

  holds-now : (r : ℕ) → must r ≡ true → fit r ≡ true → IsUnder v.history g.placed g.home x r → (1 ≤ times r law.now) ⊎ IsInTreeOf g.shape (pin_if c items) r
  holds-now r asks matches under =
      let home : g.home r ≡ x = live-apart (site_in s) g.placed v.history x (g.home r) i.telling.right.right.each gate.live (i.placing.stands r under.is_placed) under.comes in
      let here : cond (g.placed r) (same (g.home r) x) 0 ≡ 1 = rw under.is_placed (rw home (rw (eqb-self x) refl)) in
      let one = one-at r in
      on_bool (shape.placed r)
      (λ p. in-tree r p asks matches items refl)
      (λ p. let none : ◌≡◌ {A = ℕ} (cond (shape.placed r) 1 0) 0 = rw p refl in let q = law.queue r (omega arith) matches in inl (omega arith))

  reading-now : IsReading s v.history v.row v.blocks v.trees g.shape g.placed g.home k.of k.q x law.now r2
  reading-now = record {
    wanted = ap (compiled s.hierarchy) (sym k.filter);
    total = total-is;
    walk = walk-of items refl;
    holds = holds-now;
  }

  root-stamp : (stamp : ℕ) → NoneExpects shape cells stamp → d.gate.stamp ≢ stamp
  root-stamp stamp none =
      let height = tree.some in
      let level = tree.level in
      let there = none c ((v.trees c).height - 1) tree.top (omega arith) in
      let entries : (nodes cells c).entries ≡ root_entry (v.trees c) ∷ [] = ap (λ (z : Node). z.entries) (node-gate cells) in
      let one = (subst (Each (λ (e : Entry). e.stamp ≢ stamp)) entries there).0 in
      (λ e. one (ap (λ (z : Gate). z.stamp) tree-is ∙ e))

  -- What is left.

  known : (y : ℕ) → shape.inside y ≡ true → y ≢ c → y < cell_count s
  known y inside ne =
      let owner = (i.stocking.tree c y gate.whole inside ne).0 in
      (i.stocking.within y (λ e. let z : InTree c ≡ NotOfStock = sym owner ∙ e in cc)).1

  few-left : (xs : List Item) → xs ≡ items → option_map_or (λ (y : ℕ). blocks_left v.blocks (cell_count s) (g.shape y) items) (pin_if c xs) 0 ≤ cell_count s
  few-left [] is = omega arith
  few-left (y ∷ xs) is =
      let found = left-is (table_of s v.row) cells shape (cell_count s) tree known unfinished.noted items unfinished.are unfinished.ok.noted apart unfinished.ok.blocks in
      let few = left-few (table_of s v.row) cells shape (cell_count s) tree known unfinished.noted unfinished.ok.blocks in omega arith

  less : queries_of_task s v g (far s.workers v.history x d.e.worker) (Read r2) < queries_of_task s v g (far s.workers v.history x d.e.worker) d.e.task
  less =
      let ahead = far s.workers v.history x d.e.worker in
      let some = far-some s.workers v.history x d.e.worker in
      let many : per_query s * 1 ≤ per_query s * ahead = mul-le (per_query s) 1 (per_query s) ahead (omega arith) some in
      let few = few-left items refl in
      let was : queries_of_task s v g ahead d.e.task ≡ per_query s * ahead - 1 = ap (queries_of_task s v g ahead) d.unread in
      omega arith

  -- Pins.

  pins-new : IsNewAt (view s w2).pins v.pins c d.gate.pins (d.gate.pins + one_if_some items)
  pins-new = gate-behind pins_in w.cells m gc [] ag.cells d.e.worker (ap tag_of d.leads.was) d.leads.same d.pinned tt

  abbrev mine : ReadPart
  mine = record { server = d.e.server; shard = x; reading = r2 }

  reads-me : (view s w2).reads n ≡ Some mine
  reads-me = ap (λ (a : ActorValue). read_of a.errand) (actor-at w.actors n b ∙ d.actor_is)

  reads-off : (a : ℕ) → a ≢ n → (view s w2).reads a ≡ v.reads a
  reads-off a ne = ap (λ (a : ActorValue). read_of a.errand) (actor-off w.actors n b a ne)

  read-nothing : v.reads n ≡ None
  read-nothing = read-is d.errand d.unread

  few : n < actor_count s
  few = has-taken s v i.numbering n (taken_by d.e) (ap taken_of d.errand)

  pin-here : (xs : List Item) → one_pin c (pin_if c xs) ≡ one_if_some xs
  pin-here [] = refl
  pin-here (y ∷ xs) = rw (eqb-self c) refl

  pin-off : (y : ℕ) → y ≢ c → (xs : List Item) → one_pin y (pin_if c xs) ≡ 0
  pin-off y ne [] = refl
  pin-off y ne (z ∷ xs) = rw (ne_eqb c y (λ e. ne (sym e))) refl

  pin-is : (y : ℕ) (xs : List Item) → pin_if c xs ≡ Some y → y ≡ c
  pin-is y [] e = cc
  pin-is y (z ∷ xs) e = (let k : c ≡ y = cc in sym k)

  pins-now : (y : ℕ) → (view s w2).pins y ≡ sum_below (actor_count s) (λ a. pins_of y ((view s w2).reads a))
  pins-now y =
      let changed = sum-changed (actor_count s) (λ a. pins_of y (v.reads a)) (λ a. pins_of y ((view s w2).reads a)) n (λ a ne. ap (pins_of y) (reads-off a ne)) few in
      let old : pins_of y (v.reads n) ≡ 0 = ap (pins_of y) read-nothing in
      let new : pins_of y ((view s w2).reads n) ≡ one_pin y (pin_if c items) = ap (pins_of y) reads-me in
      let before = i.pinning.counts y in
      on_bool (eqb y c)
      (λ q. let is = eqb-true _ _ q in
      let one : one_pin y (pin_if c items) ≡ one_if_some items = ap (λ (z : ℕ). one_pin z (pin_if c items)) is ∙ pin-here items in
      let was : v.pins y ≡ d.gate.pins = ap v.pins is ∙ pins-new.was_there in
      let now : (view s w2).pins y ≡ d.gate.pins + one_if_some items = ap (view s w2).pins is ∙ pins-new.is_there in
      omega arith)
      (λ q. let ne = eqb-false _ _ q in
      let none = pin-off y ne items in
      let stays = pins-new.elsewhere y ne in omega arith)

  pinned-shard : (a y : ℕ) (p : ReadPart) → (view s w2).reads a ≡ Some p → p.reading.pin ≡ Some y → v.gates y ≡ Some p.shard
  pinned-shard a y p is pin = on_bool (eqb a n)
      (λ q. let e = eqb-true _ _ q in
      let one : Some mine ≡ Some p = sym reads-me ∙ ap (view s w2).reads (sym e) ∙ is in
      let same_part : mine ≡ p = cc in
      let at = pin-is y items (ap (λ (z : ReadPart). z.reading.pin) same_part ∙ pin) in
      ap v.gates at ∙ gate.of_shard ∙ ap (λ (z : ReadPart). Some z.shard) same_part)
      (λ q. i.pinning.shard a y p (sym (reads-off a (eqb-false _ _ q)) ∙ is) pin)

  whole-before : (y : ℕ) → IsWhole v.gates v.phases (view s w2).pins y → IsWhole v.gates v.phases v.pins y
  whole-before y whole = on_bool (eqb y c)
      (λ q. subst (IsWhole v.gates v.phases v.pins) (sym (eqb-true _ _ q)) gate.whole)
      (λ q. subst (λ (z : ℕ). IsSome (v.gates y) × ((v.phases y ≢ Some Gone) ⊎ (1 ≤ z))) (pins-new.elsewhere y (eqb-false _ _ q)) whole)

  read-step : ReadsStep s w n (m ∷ gc ∷ []) b g
  read-step = record {
    e = d.e;
    errand = d.errand;
    task = Unread d.filter;
    task_is = d.unread;
    r = r2;
    actor_is = d.actor_is;
    wanted = refl;
    no_row = refl;
    cells = (ap (beside by_gate_read) d.leads.same, (turned (beside by_gate_read) gc _ _ d.pinned.was d.pinned.is refl, tt));
    whole = whole-before;
    pinning = record { counts = pins-now; shard = pinned-shard };
    part = k;
    now = law.now;
    counts = counts-now;
    reading = reading-now;
    gate = c;
    gate_whole = gate.whole;
    waits = λ stamp none old. waits-noted s.hierarchy d.filter stamp (root_entry d.gate ∷ []) (root-stamp stamp none, tt);
    less = subst (λ (t : TaskValue). queries_of_task s v g (far s.workers v.history x d.e.worker) (Read r2) < queries_of_task s v g (far s.workers v.history x d.e.worker) t) d.unread less;
  }

read-keeps-at : BeginLaw → RootLaw → OtherLaw → (m gc : Change) (b : ActorValue) (s : Setting) (w : World) (n : ℕ) (g : Ghost) → InvWith s (view s w) g → Agrees w (m ∷ gc ∷ []) n (w.actors n) → DoesGateRead s.hierarchy m gc (w.actors n) b
    → IsKept s GateRead n w (after w (m ∷ gc ∷ []) n b) g
read-keeps-at begins roots other m gc b s w n g i ag d = query-kept s w n (m ∷ gc ∷ []) b g i ag (read-step begins roots other m gc b s w n g i ag d) GateRead d tt

pub read-keeps : BeginLaw → RootLaw → OtherLaw → (h : List Dimension) (m gc : Change) (a b : ActorValue) (d : DoesGateRead h m gc a b) → Keeps h GateRead (m ∷ gc ∷ []) a b d
read-keeps begins roots other h m gc a b d s w n g same i ag sight =
    read-keeps-at begins roots other m gc b s w n g i (record { cells = ag.cells; actor_is = refl; free = λ x ne. ag.free x ne })
    (subst (λ (z : ActorValue). DoesGateRead s.hierarchy m gc z b) (sym ag.actor_is) (subst (λ (x : List Dimension). DoesGateRead x m gc a b) (sym same) d))
