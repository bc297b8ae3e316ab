-- A visit of the block that a query's part noted last.
use Rattle.std.proofs.{Common.{◌≡◌, ◌≢◌, ℕ, zero, suc, ◌+◌, ◌<◌, ◌≤◌, Bool, true, cond, eqb, List, [], ◌∷◌, ◌++◌, map, Option, Some, None, IsSome, refl, sym, ap, ◌∙◌, subst, inl, inr, ◌⊎◌, arith}, lemmas.Bool.{eqb-true, eqb-false}}
use Rattle.std.specs.Option.{option_map_or}
use Rattle.dim_hierarchy.specs.{Compiled.Compiled, Dimension.Dimension, declared.filter.Pick.Pick}
use Rattle.measure_agg.specs.{Aggregate.{Aggregate, agg}, Joining.join}
use Rattle.dc_node.specs.{Block.{is_leaf, entries_in, IsBodyOf}, Summary.row_count, declared.block.Block.Block, declared.block.Body.Body, declared.block.Body.TheVariants.{Rows, Entries}, declared.entry.Entry.Entry, declared.todo.Item.Item}
use Rattle.volap_cell.specs.link_descent.specs.Visit.{is_noted, noted, noted_in, noted_right, counted as block_part}
use Rattle.volap_cell.specs.shard_store.specs.declared.gate.Phase.TheVariants.{Gone}
use Rattle.list_words.specs.Counts.{Each, same}
use Rattle.list_words.proofs.{Each.{each-append, each-left, each-right}, Truth.on_bool}
use Rattle.volap_cell.specs.tree_shape.specs.{Laws.{VisitLaw, GateLaw, BlockLaw}, Queries.{IsUnfinished, NoneWaits, fits}, Shape.{Table, Node, TreeCells, nodes, Shape}, Steps.{IsIdle, AfterVisit}, Trees.IsTree, Walks.pending}
use Rattle.volap_cell.specs.tree_shape.proofs.{Reading.Noted.{none-above, none-noted}, Whole.Assembled.node-block, Whole.Totals.links-on}
use Rattle.volap_cell.specs.{Cells.{CellValue, BlockCell, block_in, has_block, pins_in}, Errands.{ReadPart, RowWay, AtBlock, IsCarried, block_at, read_of}, Falls.{far, queries_of_task, blocks_left}, Ghost.{Ghost, InTree, NotOfStock}, Growing.table_of, Invariant.InvWith, Querying.{Pinning, IsCounted, IsReading, IsWalk, pins_of, must_hold}, Setting.{Setting, actor_count, cell_count}, Steps.{IsHere, IsKept, Keeps, Makes}, Stocking.{cells_at, NoneExpects, items_of_read}, Sums.sum_below, TreeKinds.{DoesBlockVisit, with_reading}, Values.{ActorValue, ErrandValue, ReadingValue, Read}, View.{View, view}, World.{World, Change, change, held, after, Agrees}, declared.kind.Kind.TheVariants.BlockVisit}
use Rattle.volap_cell.proofs.{Actors.{read-is, way-is}, Sums.sum-same, Views.Frames.{actor-at, actor-off, kept-one}, Views.Seen.beside, Views.Trees.by_gate_read}
use Rattle.core_tree.proofs.{EachStep.Descents.gate-phase, Queries.BlocksLeft.{left-is, left-falls}, Queries.QuerySteps.{ReadsStep, query-kept}, Queries.Walkers.{IsWalker, walker, rows-under, tree-few, counted-few}}
use Rattle.core_tree.specs.ReadDue.{CanBlockVisit, CanVisit, HasNoted, IsAtBlock, VisitsFor}

-- What is noted of a block waits for no stamp that nothing expects.

pub waits-noted : (h : List Dimension) (f : List Pick) (stamp : ℕ) (es : List Entry) → Each (λ e. e.stamp ≢ stamp) es → NoneWaits stamp (noted h f es)
waits-noted h f stamp [] e = tt
waits-noted h f stamp (x ∷ xs) e =
    let ih = waits-noted h f stamp xs e.1 in
    on_bool (is_noted h f x)
    (λ q. rw q (e.0, ih))
    (λ q. rw q ih)

waits-body : (h : List Dimension) (f : List Pick) (stamp : ℕ) (b : Body) → Each (λ e. e.stamp ≢ stamp) (entries_in b) → NoneWaits stamp (noted_in h f b)
waits-body h f stamp (Rows rs) e = tt
waits-body h f stamp (Entries es) e = waits-noted h f stamp es.items e

waits-right : (b : Block) (stamp expected : ℕ) → expected ≢ stamp → NoneWaits stamp (noted_right b expected)
waits-right b stamp expected ne = on_bool (eqb b.stamp expected) (λ q. rw q tt) (λ q. rw q (to-right b.right))
  where
    to-right : (o : Option ℕ) → NoneWaits stamp (option_map_or (λ x. record { cell = x; stamp = expected } ∷ []) o [])
    to-right None = tt
    to-right (Some x) = (ne, tt)

-- the entries of a block of a tree, of which a leaf has none, are expected

no-entries : (b : Body) → is_leaf b ≡ true → (stamp : ℕ) → Each (λ e. e.stamp ≢ stamp) (entries_in b)
no-entries (Rows rs) l stamp = tt
no-entries (Entries es) l stamp = cc

unexpected : (table : Table) (cells : TreeCells) (g : Shape) (y stamp : ℕ) → IsTree table cells g → g.inside y ≡ true → y ≢ cells.gate_cell → NoneExpects g cells stamp → Each (λ e. e.stamp ≢ stamp) (entries_in (cells.block y).body)
unexpected table cells g y stamp tree inside ne none = at (g.level y) refl
  where
    at : (l : ℕ) → g.level y ≡ l → Each (λ (e : Entry). e.stamp ≢ stamp) (entries_in (cells.block y).body)
    at zero level = no-entries (cells.block y).body ((tree.blocks y inside ne).kind ∙ ap (λ (k : ℕ). eqb k 0) level) stamp
    at (suc l) level = subst (λ (k : Node). Each (λ (e : Entry). e.stamp ≢ stamp) k.entries) (node-block cells y ne) (none y l inside (omega arith))

module _ (visits : VisitLaw) (c : Change) (b : ActorValue) (s : Setting) (w : World) (n : ℕ) (g : Ghost) (i : InvWith s (view s w) g) (ag : Agrees w (c ∷ []) n (w.actors n)) (d : DoesBlockVisit s.hierarchy c (w.actors n) b) where
  abbrev v : View
  v = view s w

  abbrev w2 : World
  w2 = after w (c ∷ []) n b

  k : IsWalker s w g d.e d.r d.items d.item
  k = walker s w g i n d.e d.r d.items d.item d.errand d.reading d.noted

  abbrev cells : TreeCells
  cells = cells_at v.blocks v.trees k.gate

  abbrev shape : Shape
  shape = g.shape k.gate

  abbrev must : ℕ → Bool
  must = must_hold s.hierarchy v.history k.part.of k.part.q

  abbrev counted : List ℕ
  counted = g.counted d.e.server d.e.shard

  apart : d.item.cell ≢ k.gate
  apart = (each-right (λ (i : Item). i.cell ≢ k.gate) d.items (d.item ∷ []) k.apart).0

  -- nobody carries a row at the block, since nobody else must keep it, and this actor has no row
  idle : IsIdle shape d.item.cell
  idle r placed carried at =
      let (a, y, way, is, row, there) = i.turning.carried k.gate r (gate-phase (w.cells k.gate) k.whole.0) placed carried in
      let here : y ≡ c.number = sym (at-row a y way is there) ∙ ap shape.at row ∙ at ∙ d.here in
      on_bool (eqb a n)
      (λ q. let z : None ≡ Some way = sym (way-is d.errand d.reading) ∙ ap v.ways (sym (eqb-true _ _ q)) ∙ is in cc)
      (λ q. (ag.free a (eqb-false _ _ q)).0 (subst (λ (o : Option RowWay). IsCarried o c.number) (sym is) (ap block_at there ∙ ap Some here)))
    where
      at-row : (a y : ℕ) (way : RowWay) → v.ways a ≡ Some way → way.place ≡ AtBlock k.gate y → shape.at way.row.no ≡ y
      at-row a y way is there = (i.turning.carrying a k.gate y way is there).2

  linked : (shape.inside d.item.cell ≡ true) × ((cells.block d.item.cell).stamp ≢ d.item.stamp → IsSome (cells.block d.item.cell).right)
  linked = links-on cells shape must (fits (table_of s v.row) k.part.q.filter) d.items d.item counted apart k.unfinished

  law : AfterVisit (table_of s v.row) cells shape must k.part.q.filter d.items d.item counted k.unfinished.noted
  law = visits (table_of s v.row) cells shape must k.part.q.filter d.items d.item counted k.tree (record { asked = k.asked; unfinished = k.unfinished; block = apart; idle = idle })

  -- the block, and the filter, as the step has them

  block-is : v.blocks d.item.cell ≡ d.block
  block-is = ap v.blocks d.here ∙ ap block_in (ag.cells.0 ∙ d.read.was)

  picks-are : d.r.wanted.picks ≡ k.part.q.filter
  picks-are = ap (λ (x : Compiled). x.picks) k.reading.wanted

  abbrev r2 : ReadingValue
  r2 = record d.r {
    agg = join d.r.agg (block_part s.hierarchy d.r.wanted.picks d.block.body);
    items = d.items ++ noted_in s.hierarchy d.r.wanted.picks d.block.body ++ noted_right d.block d.item.stamp;
  }

  items-are : r2.items ≡ d.items ++ noted_in s.hierarchy k.part.q.filter (v.blocks d.item.cell).body ++ noted_right (v.blocks d.item.cell) d.item.stamp
  items-are = (λ j. d.items ++ noted_in s.hierarchy (picks-are j) (sym block-is j).body ++ noted_right (sym block-is j) d.item.stamp)

  agg-is : r2.agg ≡ join d.r.agg (block_part s.hierarchy k.part.q.filter (v.blocks d.item.cell).body)
  agg-is = (λ j. join d.r.agg (block_part s.hierarchy (picks-are j) (sym block-is j).body))

  unfinished-now : IsUnfinished shape (nodes cells) must (fits (table_of s v.row) k.part.q.filter) r2.items law.now
  unfinished-now = subst (λ (xs : List Item). IsUnfinished shape (nodes cells) must (fits (table_of s v.row) k.part.q.filter) xs law.now) (sym items-are) law.unfinished

  -- what it counts

  counts-now : IsCounted s v.history v.row g.placed g.home k.part.q d.e.shard law.now
  counts-now = record {
    once = law.unfinished.ok.distinct;
    fitting = law.unfinished.ok.fitting;
    under = λ r there. elim (law.known r there) [ inl before ↦ k.counts.under r before | inr placed ↦ rows-under s w g i k.gate d.e.shard r k.of_shard placed ];
  }

  -- what it notes

  apart-now : Each (λ i. i.cell ≢ k.gate) r2.items
  apart-now =
      let none = none-above (table_of s v.row) cells shape k.unfinished.noted k.tree k.unfinished.ok.noted (subst (Each (λ (i : Item). i.cell ≢ k.gate)) (sym k.unfinished.are) k.apart) in
      let fewer = law.fewer k.gate k.tree.top in
      subst (Each (λ (i : Item). i.cell ≢ k.gate)) (law.unfinished.are ∙ sym items-are)
      (none-noted shape (nodes cells) k.gate law.unfinished.noted k.tree.tree.shape law.unfinished.ok.noted (omega arith))

  walk-now : (pin : Option ℕ) → pin ≡ Some k.gate → IsWalk s v.history v.row v.blocks v.trees g.shape k.part.of k.part.q law.now r2 pin
  walk-now pin is = subst (IsWalk s v.history v.row v.blocks v.trees g.shape k.part.of k.part.q law.now r2) (sym is) (apart-now, unfinished-now)

  reading-now : IsReading s v.history v.row v.blocks v.trees g.shape g.placed g.home k.part.of k.part.q d.e.shard law.now r2
  reading-now = record {
    wanted = k.reading.wanted;
    total = agg-is ∙ ap (λ (a : Aggregate). join a (block_part s.hierarchy k.part.q.filter (v.blocks d.item.cell).body)) k.reading.total ∙ sym law.total;
    walk = walk-now d.r.pin k.pin;
    holds = λ r must fit under. elim (k.reading.holds r must fit under) [ inl one ↦ inl (let kept = law.kept r in omega arith) | inr there ↦ inr there ];
  }

  read-before : v.reads n ≡ Some (record { server = d.e.server; shard = d.e.shard; reading = d.r })
  read-before = read-is d.errand d.reading

  waits-now : (stamp : ℕ) → NoneExpects shape cells stamp → NoneWaits stamp (items_of_read (v.reads n)) → NoneWaits stamp r2.items
  waits-now stamp none old =
      let before : NoneWaits stamp (d.items ++ d.item ∷ []) = subst (NoneWaits stamp) (ap items_of_read read-before ∙ d.noted) old in
      let items = each-left (λ (i : Item). i.stamp ≢ stamp) d.items (d.item ∷ []) before in
      let last = (each-right (λ (i : Item). i.stamp ≢ stamp) d.items (d.item ∷ []) before).0 in
      let entries = unexpected (table_of s v.row) cells shape d.item.cell stamp k.tree linked.0 apart none in
      let body = waits-body s.hierarchy k.part.q.filter stamp (v.blocks d.item.cell).body entries in
      let right = waits-right (v.blocks d.item.cell) stamp d.item.stamp last in
      subst (NoneWaits stamp) (sym items-are)
      (each-append (λ (i : Item). i.stamp ≢ stamp) (d.items ++ noted_in s.hierarchy k.part.q.filter (v.blocks d.item.cell).body) (noted_right (v.blocks d.item.cell) d.item.stamp)
      (each-append (λ (i : Item). i.stamp ≢ stamp) d.items (noted_in s.hierarchy k.part.q.filter (v.blocks d.item.cell).body) items body) right)

  -- what is left

  known : (y : ℕ) → shape.inside y ≡ true → y ≢ k.gate → y < cell_count s
  known y inside ne =
      let owner = (i.stocking.tree k.gate y k.whole inside ne).0 in
      (i.stocking.within y (λ e. let z : InTree k.gate ≡ NotOfStock = sym owner ∙ e in cc)).1

  left-before : blocks_left v.blocks (cell_count s) shape d.r.items ≡ sum_below (cell_count s) (λ y. cond (shape.inside y) (pending shape k.unfinished.noted y) 0)
  left-before = left-is (table_of s v.row) cells shape (cell_count s) k.tree known k.unfinished.noted d.r.items (k.unfinished.are ∙ sym d.noted) k.unfinished.ok.noted
      (subst (Each (λ (i : Item). i.cell ≢ k.gate)) (sym d.noted) k.apart) k.unfinished.ok.blocks

  left-now : blocks_left v.blocks (cell_count s) shape r2.items ≡ sum_below (cell_count s) (λ y. cond (shape.inside y) (pending shape law.unfinished.noted y) 0)
  left-now = left-is (table_of s v.row) cells shape (cell_count s) k.tree known law.unfinished.noted r2.items (law.unfinished.are ∙ sym items-are) law.unfinished.ok.noted apart-now law.unfinished.ok.blocks

  less : (ahead : ℕ) → queries_of_task s v g ahead (Read r2) < queries_of_task s v g ahead (Read d.r)
  less ahead =
      let falls = left-falls (table_of s v.row) cells shape (cell_count s) k.tree known k.unfinished.noted law.unfinished.noted d.item.cell linked.0 (known d.item.cell linked.0 apart) law.fewer in
      let now : queries_of_task s v g ahead (Read r2) ≡ 2 + blocks_left v.blocks (cell_count s) shape r2.items = ap (λ (o : Option ℕ). 2 + option_map_or (λ (c : ℕ). blocks_left v.blocks (cell_count s) (g.shape c) r2.items) o 0) k.pin in
      let old : queries_of_task s v g ahead (Read d.r) ≡ 2 + blocks_left v.blocks (cell_count s) shape d.r.items = ap (λ (o : Option ℕ). 2 + option_map_or (λ (c : ℕ). blocks_left v.blocks (cell_count s) (g.shape c) d.r.items) o 0) k.pin in
      let a = left-now in let o = left-before in omega arith

  -- pins stay

  pins-same : (y : ℕ) → (view s w2).pins y ≡ v.pins y
  pins-same y = kept-one pins_in (c ∷ []) w.cells ag.cells (ap pins_in d.read.same, tt) y

  pins-of : (y a : ℕ) → pins_of y ((view s w2).reads a) ≡ pins_of y (v.reads a)
  pins-of y a = on_bool (eqb a n)
      (λ q. let is = eqb-true _ _ q in
      ap (λ (z : ℕ). pins_of y ((view s w2).reads z)) is ∙ ap (λ (x : ActorValue). pins_of y (read_of x.errand)) (actor-at w.actors n b ∙ d.actor_is) ∙ sym (ap (pins_of y) read-before) ∙ ap (λ (z : ℕ). pins_of y (v.reads z)) (sym is))
      (λ q. ap (λ (x : ActorValue). pins_of y (read_of x.errand)) (actor-off w.actors n b a (eqb-false _ _ q)))

  pinned-shard : (a y : ℕ) (p : ReadPart) → (view s w2).reads a ≡ Some p → p.reading.pin ≡ Some y → v.gates y ≡ Some p.shard
  pinned-shard a y p is pin = on_bool (eqb a n)
      (λ q. let e = eqb-true _ _ q in
      let one : Some (record { server = d.e.server; shard = d.e.shard; reading = r2 }) ≡ Some p = sym (ap (λ (x : ActorValue). read_of x.errand) (actor-at w.actors n b ∙ d.actor_is)) ∙ ap (view s w2).reads (sym e) ∙ is in
      let same_part : record { server = d.e.server; shard = d.e.shard; reading = r2 } ≡ p = cc in
      i.pinning.shard n y (record { server = d.e.server; shard = d.e.shard; reading = d.r }) read-before (ap (λ (x : ReadPart). x.reading.pin) same_part ∙ pin) ∙ ap (λ (x : ReadPart). Some x.shard) same_part)
      (λ q. i.pinning.shard a y p (sym (ap (λ (x : ActorValue). read_of x.errand) (actor-off w.actors n b a (eqb-false _ _ q))) ∙ is) pin)

  pinning-now : Pinning s v.gates (view s w2).pins (view s w2).reads
  pinning-now = record {
    counts = λ y. pins-same y ∙ i.pinning.counts y ∙ sym (sum-same (actor_count s) (λ a. pins_of y (v.reads a)) (λ a. pins_of y ((view s w2).reads a)) (λ a lt. pins-of y a));
    shard = pinned-shard;
  }

  visit-step : ReadsStep s w n (c ∷ []) b g
  visit-step = record {
    e = d.e;
    errand = d.errand;
    task = Read d.r;
    task_is = d.reading;
    r = r2;
    actor_is = d.actor_is;
    wanted = refl;
    no_row = refl;
    cells = (ap (beside by_gate_read) d.read.same, tt);
    whole = λ y whole. subst (λ (m : ℕ). IsSome (v.gates y) × ((v.phases y ≢ Some Gone) ⊎ (1 ≤ m))) (pins-same y) whole;
    pinning = pinning-now;
    part = k.part;
    now = law.now;
    counts = counts-now;
    reading = reading-now;
    gate = k.gate;
    gate_whole = k.whole;
    waits = waits-now;
    less = less (far s.workers v.history d.e.shard d.e.worker);
  }

visit-keeps-at : VisitLaw → (c : Change) (b : ActorValue) (s : Setting) (w : World) (n : ℕ) (g : Ghost) → InvWith s (view s w) g → Agrees w (c ∷ []) n (w.actors n) → DoesBlockVisit s.hierarchy c (w.actors n) b
    → IsKept s BlockVisit n w (after w (c ∷ []) n b) g
visit-keeps-at visits c b s w n g i ag d = query-kept s w n (c ∷ []) b g i ag (visit-step visits c b s w n g i ag d) BlockVisit d tt

pub visit-keeps : VisitLaw → (h : List Dimension) (c : Change) (a b : ActorValue) (d : DoesBlockVisit h c a b) → Keeps h BlockVisit (c ∷ []) a b d
visit-keeps visits h c a b d s w n g same i ag sight =
    visit-keeps-at visits c b s w n g i (record { cells = ag.cells; actor_is = refl; free = λ x ne. ag.free x ne })
    (subst (λ (z : ActorValue). DoesBlockVisit s.hierarchy c z b) (sym ag.actor_is) (subst (λ (x : List Dimension). DoesBlockVisit x c a b) (sym same) d))

-- The call.

last-of : {A : Type 0} (xs ys : List A) (x y : A) → xs ++ x ∷ [] ≡ ys ++ y ∷ [] → x ≡ y
last-of [] [] x y e = cc
last-of [] (z ∷ []) x y e = cc
last-of [] (z ∷ u ∷ ys) x y e = cc
last-of (z ∷ []) [] x y e = cc
last-of (z ∷ u ∷ xs) [] x y e = cc
last-of (z ∷ xs) (u ∷ ys) x y e = last-of xs ys x y (let k : xs ++ x ∷ [] ≡ ys ++ y ∷ [] = cc in k)

-- the actor's own reading has noted the block
noted-last : (at : ℕ) (a : ActorValue) (e : ErrandValue) (r : ReadingValue) → CanBlockVisit at a → a.errand ≡ Some e → e.task ≡ Read r → HasNoted r at
noted-last at a e r due errand task =
    let z : Some e ≡ Some due.e = sym errand ∙ due.errand in
    let one : e ≡ due.e = cc in
    let u : Read r ≡ Read due.r = sym task ∙ ap (λ (x : ErrandValue). x.task) one ∙ due.reading in
    let same_reading : r ≡ due.r = cc in
    subst (λ (x : ReadingValue). HasNoted x at) (sym same_reading) due.last

-- what the invariant says of it
walker-here : (h : List Dimension) (at : ℕ) (cell : CellValue) (a : ActorValue) (k : IsHere h (held at cell ∷ []) a) (e : ErrandValue) (r : ReadingValue) (items : List Item) (item : Item) → a.errand ≡ Some e → e.task ≡ Read r → r.items ≡ items ++ item ∷ []
    → IsWalker a.setting k.world k.inv.ghost_of e r items item
walker-here h at cell a k e r items item errand task noted = walker a.setting k.world k.inv.ghost_of k.inv.holds k.number e r items item (ap (λ (x : ActorValue). x.errand) k.agrees.actor_is ∙ errand) task noted

hierarchy-is : (h : List Dimension) (at : ℕ) (cell : CellValue) (a : ActorValue) (k : IsHere h (held at cell ∷ []) a) (e : ErrandValue) (r : ReadingValue) (items : List Item) (item : Item) → IsWalker a.setting k.world k.inv.ghost_of e r items item → r.wanted.hierarchy ≡ h
hierarchy-is h at cell a k e r items item x = ap (λ (c : Compiled). c.hierarchy) x.reading.wanted ∙ k.about

-- what its callee asks for
can-visit : GateLaw → BlockLaw → (h : List Dimension) (at : ℕ) (cell : CellValue) (a : ActorValue) (e : ErrandValue) (r : ReadingValue) → IsHere h (held at cell ∷ []) a → CanBlockVisit at a → a.errand ≡ Some e → e.task ≡ Read r
    → (has_block cell ≡ true) × CanVisit (block_in cell) r
can-visit gates blocks h at cell a e r k due errand task =
    let last = noted-last at a e r due errand task in
    let x = walker-here h at cell a k e r last.items last.item errand task last.noted in
    let s = a.setting in
    let w = k.world in
    let v = view s w in
    let g = k.inv.ghost_of in
    let i = k.inv.holds in
    let cells = cells_at v.blocks v.trees x.gate in
    let apart = (each-right (λ (i : Item). i.cell ≢ x.gate) last.items (last.item ∷ []) x.apart).0 in
    let linked = links-on cells (g.shape x.gate) (must_hold s.hierarchy v.history x.part.of x.part.q) (fits (table_of s v.row) x.part.q.filter) last.items last.item (g.counted e.server e.shard) apart x.unfinished in
    let fit = blocks (table_of s v.row) cells (g.shape x.gate) last.item.cell x.tree x.asked.filter.hierarchy linked.0 apart in
    let is : v.blocks last.item.cell ≡ block_in cell = ap v.blocks last.here ∙ ap block_in k.agrees.cells.0 in
    let tree_rows = tree-few s w g i gates x.gate e.shard x.of_shard x.tree in
    let rows = counted-few s w g i x.part.q e.shard (g.counted e.server e.shard) x.counts in
    let count : r.agg.count ≡ (agg (map v.row (g.counted e.server e.shard))).count = ap (λ (z : Aggregate). z.count) x.reading.total in
    let all = i.owing.few in
    let most = fit.count in
    let beneath : row_count (v.blocks last.item.cell).body ≡ row_count (block_in cell).body = ap (λ (b : Block). row_count b.body) is in (
      ap has_block (sym k.agrees.cells.0) ∙ ap v.made (sym last.here) ∙ (i.stocking.tree x.gate last.item.cell x.whole linked.0 apart).1,
      record {
        items = last.items;
        item = last.item;
        noted = last.noted;
        body = subst (λ (y : List Dimension). IsBodyOf y (block_in cell).body) (sym (ap (λ (c : Compiled). c.hierarchy) x.reading.wanted)) (subst (λ (b : Block). IsBodyOf s.hierarchy b.body) is fit.body);
        link = subst (λ (b : Block). b.stamp ≢ last.item.stamp → IsSome b.right) is linked.1;
        few = omega arith;
      },
    )

reading-due : (at : ℕ) (a : ActorValue) (e : ErrandValue) (due : CanBlockVisit at a) → a.errand ≡ Some e → e.task ≡ Read due.r
reading-due at a e due errand =
    let z : Some e ≡ Some due.e = sym errand ∙ due.errand in
    let one : e ≡ due.e = cc in
    ap (λ (x : ErrandValue). x.task) one ∙ due.reading

-- there is a block, which the part noted last
pub is-at-block : GateLaw → BlockLaw → (h : List Dimension) (at : ℕ) (cell : CellValue) (a : ActorValue) (e : ErrandValue) → IsHere h (held at cell ∷ []) a → CanBlockVisit at a → a.errand ≡ Some e → (has_block cell ≡ true) × IsAtBlock (block_in cell) e
is-at-block gates blocks h at cell a e k due errand =
    let reading = reading-due at a e due errand in
    let (made, can) = can-visit gates blocks h at cell a e due.r k due errand reading in
    (made, record { r = due.r; reading = reading; can = can })

-- what it did, where the part visited what it was given
pub visit-makes : VisitLaw → (h : List Dimension) (at : ℕ) (cell : CellValue) (block : Block) (a b : ActorValue) (e e_now : ErrandValue) → IsHere h (held at cell ∷ []) a → CanBlockVisit at a → cell ≡ BlockCell block
    → a.errand ≡ Some e → VisitsFor block e e_now → b ≡ record a { errand = Some e_now } → Makes h BlockVisit (change at cell cell ∷ []) a b
visit-makes visits h at cell block a b e e_now k due is errand did actor_is =
    let r = did.r in
    let v = did.visits in
    let last = noted-last at a e r due errand did.reading in
    let x = walker-here h at cell a k e r last.items last.item errand did.reading last.noted in
    let same_h = hierarchy-is h at cell a k e r last.items last.item x in
    let does : DoesBlockVisit h (change at cell cell) a b = record {
      e = e;
      errand = errand;
      r = r;
      reading = did.reading;
      items = v.items;
      item = v.item;
      noted = v.noted;
      here = ap (λ (i : Item). i.cell) (last-of v.items last.items v.item last.item (sym v.noted ∙ last.noted)) ∙ last.here;
      block = block;
      read = record { was = is; same = refl };
      actor_is = actor_is ∙ ap (λ (z : ErrandValue). record a { errand = Some z }) did.now_is ∙ ap (λ (z : ReadingValue). record a { errand = with_reading e z }) v.visited
          ∙ ap (λ (y : List Dimension). record a {
            errand = with_reading e (record r { agg = join r.agg (block_part y r.wanted.picks block.body); items = v.items ++ noted_in y r.wanted.picks block.body ++ noted_right block v.item.stamp });
          }) same_h;
    } in
    record { does = does; keeps = visit-keeps visits h (change at cell cell) a b does }
