-- A row comes to the queue of its part's shard, where it is last.
use Rattle.std.proofs.{Common.{◌≡◌, ◌≢◌, ℕ, ◌+◌, ◌^◌, ◌<◌, ◌≤◌, Bool, true, false, cond, eqb, List, [], ◌∷◌, ◌++◌, length, take, Option, Some, None, IsSome, refl, sym, ap, ◌∙◌, subst, inl, inr, arith}, lemmas.Bool.{eqb-true, eqb-false}, lemmas.List.{length-append, length-map, map-append, take-append-le}}
use Rattle.cell_stock.proofs.Cells.{length-le_from_distinct}
use Rattle.dim_hierarchy.specs.{Dimension.Dimension, Rows.IsRowOf, declared.row.Row.Row}
use Rattle.measure_agg.specs.Aggregate.{Aggregate}
use Rattle.mapping_table.specs.declared.place.Where.TheVariants as where_is
use Rattle.row_ledger.specs.declared.event.Event.{Event}
use Rattle.volap_cell.specs.shard_store.specs.{Gate.{Enqueues, IsQueueOf}, declared.gate.Gate.Gate, declared.gate.Phase.TheVariants.Frozen, declared.queue.Queue.Queue}
use Rattle.list_words.specs.Counts.{Each, times, same as same_number}
use Rattle.list_words.proofs.{Each.each-append, Times.{times-append, same_is, same_not, all-times, distinct-times}, Truth.on_bool}
use Rattle.volap_cell.specs.tree_shape.specs.Shape.{numbers}
use Rattle.volap_cell.specs.{AdminKinds.IsBuiltOf, Cells.{CellValue, GateCell, MapCell, queue_in, tag_of}, Errands.{AtBlock, AtRest, Outside, RowWay, place_of, row_way, way_of}, Falls.{far, gates_of_errand, gates_of_task, gates_of_way, left}, Ghost.Ghost, Growing.Queueing, Invariant.InvWith, Setting.{Setting, actor_count}, Steps.{IsHere, IsKept, Keeps, Makes}, Sums.sum_below, TreeKinds.{DoesEnterQueue, HasRow, on_way, MayQueue}, Turning.{inside_of, is_inside}, Values.{ActorValue, ErrandValue}, View.{View, view}, Working.{Working, frozen_in}, World.{Agrees, Change, World, after, change, held}, declared.errand.RowErrand.RowErrand, declared.errand.Way.Way, declared.errand.Way.TheVariants.{Before, Carried, Placed, Put}, declared.kind.Kind.TheVariants.EnterQueue}
use Rattle.volap_cell.proofs.{Histories.Standings.live-on, OneEvent.Known.{AreOlder, older-rows}, OneEvent.Older.insert-within, Sums.sum-kept, Views.Fields.IsNewAt, Views.Frames.{actor-at, actor-off}, Views.Gates.gate-behind, Views.Seen.renewed, Views.Shown.held-leads, Views.Trees.{by_enter_queue, view-enter_queue}}
use Rattle.core_tree.specs.DueAtGates.{CanEnterQueue}
use Rattle.core_tree.proofs.{EachStep.FillsPurse.far-some, Rows.Arrivals.{Arrives, arrives, same-row}, Rows.Places.{HaveOneMore, Passes, covering-placed, imaging-placed, inserting-placed, nobody-placed, placing-placed, resting-placed, telling-placed, with_one, off-one}, Rows.PlacesRead.{balancing-placed, querying-placed, working-placed}, Rows.Remains.{IsStepOf, control-same, gates-changed}, Rows.Rests.turning-rested}
use Rattle.std.specs.FinMap as map

-- a row before its gate has something left to do there
outside-left : (ahead : ℕ) (way : Way) → place_of way ≡ Outside → 1 ≤ ahead → 0 < gates_of_way ahead way
outside-left ahead (Before None filled) out some = omega arith
outside-left ahead (Before (Some height) false) out some = omega arith
outside-left ahead (Before (Some height) true) out some = omega arith
outside-left ahead (Carried gate block) out some = cc
outside-left ahead (Put gate) out some = cc
outside-left ahead Placed out some = cc

-- the last row's number
numbers-last : (q : ℕ) (rows : List Row) (row : Row) → times q (numbers (rows ++ row ∷ [])) ≡ times q (numbers rows) + same_number q row.no
numbers-last q rows row =
    let k = ap (times q) (map-append (λ (r : Row). r.no) rows (row ∷ [])) in
    let l = times-append q (numbers rows) (row.no ∷ []) in omega arith

module _ (m c : Change) (b : ActorValue) (s : Setting) (w : World) (n : ℕ) (g : Ghost) (i : InvWith s (view s w) g) (ag : Agrees w (m ∷ c ∷ []) n (w.actors n)) (d : DoesEnterQueue s.hierarchy m c (w.actors n) b) where
  abbrev v : View
  v = view s w

  abbrev h : List Event
  h = v.history

  abbrev w2 : World
  w2 = after w (m ∷ c ∷ []) n b

  abbrev u : View
  u = view s w2

  abbrev v2 : View
  v2 = renewed by_enter_queue u v

  same : u ≡ v2
  same = view-enter_queue s w n s.hierarchy m c (w.actors n) b ag d

  abbrev way : RowWay
  way = row_way d.e d.r

  abbrev r : ℕ
  r = way.row.no

  arrival : Arrives s v g n c.number way
  arrival = arrives s w g i n c.number d.e d.r d.has d.outside (held-leads s w i.numbering.tag m ag.cells.0 d.e.worker d.e.shard (where_is.Gate c.number) d.leads).1

  out : g.placed r ≡ false
  out = arrival.out

  go : Passes v.ways v2.ways n way AtRest
  go = record {
    was = arrival.was;
    is = ap (λ (a : ActorValue). way_of a.errand) (actor-at w.actors n b ∙ d.actor_is);
    off = λ a ne. ap (λ (a : ActorValue). way_of a.errand) (actor-off w.actors n b a ne);
    passed = refl;
  }

  -- nobody else is at the row
  one : (a : ℕ) (x : RowWay) → v.ways a ≡ Some x → x.row.no ≡ r → a ≡ n
  one a x is e = i.turning.one a n x way is arrival.was e

  abbrev g2 : Ghost
  g2 = record g { placed = with_one g.placed r true; home = with_one g.home r way.shard; path = with_one g.path r way.path }

  older : AreOlder h g.placed
  older = older-rows s h i.placing

  -- The queue.

  queue-now : IsNewAt v2.queues v.queues c.number d.gate.queue d.queue
  queue-now = gate-behind queue_in w.cells m c [] ag.cells d.e.worker (ap tag_of d.leads.was) d.leads.same d.queued tt

  rows-now : (v2.queues c.number).rows ≡ (v.queues c.number).rows ++ way.row ∷ []
  rows-now = ap (λ (q : Queue). q.rows) queue-now.is_there ∙ d.last.rows ∙ ap (λ (q : Queue). q.rows ++ way.row ∷ []) (sym queue-now.was_there)

  -- at the gate, or at another one
  by-gate : (P : ℕ → Queue → Type 0) → P c.number d.queue → ((y : ℕ) → P y (v.queues y)) → (y : ℕ) → P y (v2.queues y)
  by-gate P new old y = on_bool (eqb y c.number)
      (λ q. subst (λ (z : ℕ). P z (v2.queues z)) (sym (eqb-true _ _ q)) (subst (P c.number) (sym queue-now.is_there) new))
      (λ q. subst (P y) (sym (queue-now.elsewhere y (eqb-false _ _ q))) (old y))

  queueing-now : Queueing s v.row v.gates v.phases v2.queues
  queueing-now =
      let k = i.queueing in
      let named : Each (λ (x : Row). v.row x.no ≡ x) d.gate.queue.rows = subst (λ (q : Queue). Each (λ (x : Row). v.row x.no ≡ x) q.rows) queue-now.was_there (k.named c.number (subst IsSome (sym arrival.is_gate) refl)) in
      record {
        queue = λ y is. by-gate (λ y q. IsSome (v.gates y) → IsQueueOf s.hierarchy q) (λ is. d.last.queue) k.queue y is;
        named = λ y is. by-gate (λ y q. IsSome (v.gates y) → Each (λ (x : Row). v.row x.no ≡ x) q.rows)
            (λ is. subst (Each (λ (x : Row). v.row x.no ≡ x)) (sym d.last.rows) (each-append (λ (x : Row). v.row x.no ≡ x) d.gate.queue.rows (way.row ∷ []) named (arrival.known, tt))) k.named y is;
        upto = λ y upto is. by-gate (λ y q. v.phases y ≡ Some (Frozen upto) → upto ≤ length q.rows)
            (λ is. let old = k.upto c.number upto is in
            let was = ap (λ (q : Queue). length q.rows) queue-now.was_there in
            let more = ap length d.last.rows ∙ length-append d.gate.queue.rows (way.row ∷ []) in omega arith)
            (λ y. k.upto y upto) y is;
      }

  -- what stood in front still does
  front-same : (y k : ℕ) → k ≤ length (v.queues y).rows → take k (v2.queues y).rows ≡ take k (v.queues y).rows
  front-same y k le = on_bool (eqb y c.number)
      (λ q. let e = eqb-true _ _ q in
      ap (λ (z : ℕ). take k (v2.queues z).rows) e ∙ ap (take k) rows-now ∙ ap (λ (z : ℕ). take k ((v.queues z).rows ++ way.row ∷ [])) (sym e) ∙ take-append-le k (v.queues y).rows (way.row ∷ []) le)
      (λ q. ap (λ (z : Queue). take k z.rows) (queue-now.elsewhere y (eqb-false _ _ q)))

  -- each shard that stands has the rows that it had, and the part's shard has this one too
  more : HaveOneMore s h g.gate g.shape g.shape v.queues v2.queues r way.shard
  more y q live = on_bool (eqb way.shard y)
      (λ k. let e = eqb-true _ _ k in
      let at : g.gate y ≡ c.number = ap g.gate (sym e) ∙ arrival.gate_is in
      let rows = ap (λ (z : ℕ). times q (numbers (v2.queues z).rows)) at ∙ ap (λ (rs : List Row). times q (numbers rs)) rows-now ∙ numbers-last q (v.queues c.number).rows way.row in
      let was = ap (λ (z : ℕ). times q (numbers (v.queues z).rows)) at in
      let added : cond (eqb q r) (same_number way.shard y) 0 ≡ same_number q r = ap (λ (z : ℕ). cond (eqb q r) z 0) (same_is way.shard y e) in
      omega arith)
      (λ k. let ne = eqb-false _ _ k in
      let (worker, on) = live-on s v y live in
      let there = (i.lineage.gate_of y worker on).1 in
      let off : g.gate y ≢ c.number = (λ e. ne (let both : ◌≡◌ {A = Option ℕ} (Some y) (Some way.shard) = sym there ∙ ap v.gates e ∙ arrival.is_gate in cc)) in
      let rows = ap (λ (z : Queue). times q (numbers z.rows)) (queue-now.elsewhere (g.gate y) off) in
      let added : cond (eqb q r) (same_number way.shard y) 0 ≡ 0 = ap (λ (z : ℕ). cond (eqb q r) z 0) (same_not way.shard y ne) ∙ on_bool (eqb q r) (λ e. ap (λ (x : Bool). cond x 0 0) e) (λ e. ap (λ (x : Bool). cond x 0 0) e) in
      omega arith)

  -- What a job has read of the queue stood there before its shard was frozen.

  working-now : Working s h v.blocks v.made v.trees v.phases v.active v2.queues v.purses v.commands v.jobs g.gate g.shape g.placed
  working-now =
      let k = i.working in record {
        command = k.command;
        front = k.front;
        to = k.to;
        unspent = k.unspent;
        declined = k.declined;
        frozen = k.frozen;
        collected = λ a j x isj st.
            let o = k.collected a j x isj st in
            let f = k.frozen a j x.frozen isj (ap frozen_in st) in
            let few = o.upto f.upto f.phase_is in
            let within = i.queueing.upto x.frozen.gate f.upto f.phase_is in
            record {
              drained = o.drained;
              at_blocks = o.at_blocks;
              named = o.named;
              rows = o.rows ∙ ap (λ (rs : List Row). o.at_blocks ++ rs) (sym (front-same x.frozen.gate x.queued (omega arith)));
              collecting = o.collecting;
              upto = o.upto;
              blocks_first = o.blocks_first;
            };
        building = λ a j x isj st.
            let o = k.building a j x isj st in
            let within = i.queueing.upto x.frozen.gate o.upto o.phase_is in
            record {
              drained = o.drained;
              upto = o.upto;
              phase_is = o.phase_is;
              at_blocks = o.at_blocks;
              named = o.named;
              read = o.read;
              built = o.built;
              purse_was = o.purse_was;
              purse_now = o.purse_now;
              purse_is = o.purse_is;
              trees_are = subst (λ (rs : List Row). IsBuiltOf s.hierarchy x.frozen.plane (o.at_blocks ++ rs) o.purse_was o.purse_now (record x { unbuilt = x.unbuilt ++ o.built })) (sym (front-same x.frozen.gate o.upto within)) o.trees_are;
              in_cells = o.in_cells;
            };
      }

  -- All parts.

  counts : (y : ℕ) → v.active y ≡ sum_below (actor_count s) (λ a. inside_of y (v2.ways a))
  counts y =
      let was : ◌≡◌ {A = ℕ} (inside_of y (v.ways n)) 0 = ap (inside_of y) go.was ∙ ap (is_inside y) d.outside in
      let now : ◌≡◌ {A = ℕ} (inside_of y (v2.ways n)) 0 = ap (inside_of y) go.is in
      i.turning.counts y ∙ sym (sum-kept (actor_count s) (λ a. inside_of y (v.ways a)) (λ a. inside_of y (v2.ways a)) n (λ a ne. ap (inside_of y) (go.off a ne)) (now ∙ sym was))

  pub holds : InvWith s v2 g2
  holds = record {
    numbering = i.numbering;
    telling = telling-placed h g.placed g.home g.path way out s v.commands v.jobs v.roles v.seen arrival.routed i.telling;
    owing = i.owing;
    turning = turning-rested s v.ways v2.ways n way go v.purses v.boxes v.phases v.active g.gate g.shape g.home i.turning v.active g2.home
        (λ x y e. let no : Outside ≡ AtBlock x y = sym d.outside ∙ e in cc) (λ q ne. off-one g.home r way.shard q ne) counts;
    stocking = i.stocking;
    stamping = i.stamping;
    lineage = i.lineage;
    leading = i.leading;
    growing = i.growing;
    queueing = queueing-now;
    resting = resting-placed h g.placed g.home g.path way out v.gates v.phases g.shape i.resting;
    placing = placing-placed h g.placed g.home g.path way out s v.commands v.images v.ways v2.ways v.queues v2.queues g.gate g.shape g.shape arrival.insert arrival.began arrival.live arrival.lead arrival.routed
        (nobody-placed h g.placed g.home g.path way out v.ways v2.ways n AtRest go one) more i.placing;
    inserting = inserting-placed h g.placed g.home g.path way out v.ways v2.ways n AtRest go one s v.images v.desks v.commands i.inserting;
    imaging = imaging-placed h g.placed g.home g.path way out s v.row v.images i.imaging;
    covering = covering-placed h g.placed g.home g.path way out s v.row v.registry v.images older arrival.insert arrival.began arrival.server arrival.within arrival.live arrival.lead i.imaging i.covering;
    desking = i.desking;
    pinning = i.pinning;
    querying = querying-placed h g.placed g.home g.path way out older s v.row v.blocks v.trees v.desks v.taken v.reads g.shape g.counted i.querying;
    working = working-placed h g.placed g.home g.path way out older s v.blocks v.made v.trees v.phases v.active v2.queues v.purses v.commands v.jobs g.gate g.shape working-now;
    balancing = balancing-placed h g.placed g.home g.path way out older s v.commands v.jobs i.balancing;
    reusing = i.reusing;
  }

  -- What is left.

  step-of : IsStepOf s w w2 n b
  step-of = record {
    few = arrival.few;
    at = actor-at w.actors n b;
    off = λ a ne. actor-off w.actors n b a ne;
    history = ap (λ (x : View). x.history) same;
    desks = ap (λ (x : View). x.desks) same;
    phases = ap (λ (x : View). x.phases) same;
    gone = ap (λ (x : View). x.gone) same;
    command = ap (λ (a : ActorValue). a.command) d.actor_is;
    job = ap (λ (a : ActorValue). a.job) d.actor_is;
  }

  gates-less : (left s w2 g2).gates < (left s w g).gates
  gates-less =
      let all = gates-changed s w w2 g g2 n b step-of in
      let far_ = far s.workers h d.e.shard d.e.worker in
      let now : gates_of_errand s h b.errand ≡ 0 = ap (λ (a : ActorValue). gates_of_errand s h a.errand) d.actor_is in
      let was : gates_of_errand s h (w.actors n).errand ≡ gates_of_way far_ d.r.way = ap (gates_of_errand s h) d.has.errand ∙ ap (gates_of_task far_) d.has.row in
      let some = outside-left far_ d.r.way d.outside (far-some s.workers h d.e.shard d.e.worker) in
      omega arith

  pub queue-kept : IsKept s EnterQueue n w w2 g
  queue-kept = record {
    step = record { changes = m ∷ c ∷ []; actor = b; agrees = ag; does = d; sight = tt; now_is = refl };
    ghost_now = g2;
    holds = subst (λ (x : View). InvWith s x g2) (sym same) holds;
    newer = [];
    grows = ap (λ (x : View). x.history) same;
    goes_on = inl (inr (inl (control-same s w w2 g g2 n b step-of, gates-less)));
  }

pub queue-keeps : (h : List Dimension) (m c : Change) (a b : ActorValue) (d : DoesEnterQueue h m c a b) → Keeps h EnterQueue (m ∷ c ∷ []) a b d
queue-keeps h m c a b d s w n g about i ag sight =
    queue-kept m c b s w n g i (record { cells = ag.cells; actor_is = refl; free = λ x ne. ag.free x ne })
    (subst (λ (hs : List Dimension). DoesEnterQueue hs m c (w.actors n) b) (sym about) (subst (λ (z : ActorValue). DoesEnterQueue h m c z b) (sym ag.actor_is) d))

-- The call.

-- what it did, where the table led the row to the gate
pub queue-makes : (h : List Dimension) (map_at : ℕ) (map_cell : CellValue) (gate_at : ℕ) (cell : CellValue) (gate now : Gate) (a b : ActorValue) (e : ErrandValue) (r : RowErrand) → CanEnterQueue map_at map_cell gate_at cell a
    → cell ≡ GateCell gate → HasRow a e r → Enqueues h r.row gate.queue now.queue → now ≡ record gate { queue = now.queue } → b ≡ record a { errand = on_way e r Placed }
    → Makes h EnterQueue (change map_at map_cell map_cell ∷ change gate_at cell (GateCell now) ∷ []) a b
queue-makes h map_at map_cell gate_at cell gate now a b e r due is has last queued actor_is =
    let (errand, row) = same-row has due.has in
    let gates : GateCell due.gate ≡ GateCell gate = sym due.gate_is ∙ is in
    let its_gate : due.gate ≡ gate = cc in
    let does : DoesEnterQueue h (change map_at map_cell map_cell) (change gate_at cell (GateCell now)) a b = record {
      e = e;
      r = r;
      has = has;
      outside = ap (λ (x : RowErrand). place_of x.way) row ∙ due.outside;
      leads = (let led = due.leads in record { table = led.table; was = led.was ∙ ap (λ (x : ErrandValue). MapCell x.worker led.table) (sym errand); leads = ap (λ (x : ErrandValue). map.get led.table x.shard) errand ∙ led.leads; same = refl });
      gate = gate;
      why = subst (λ (x : Gate). MayQueue x a r.way) its_gate (subst (λ (x : RowErrand). MayQueue due.gate a x.way) (sym row) due.why);
      queue = now.queue;
      last = last;
      queued = record { was = is; is = ap GateCell queued };
      actor_is = actor_is;
    } in
    record { does = does; keeps = queue-keeps h (change map_at map_cell map_cell) (change gate_at cell (GateCell now)) a b does }

-- what it asks of the gate: its queue is one, the row is of the hierarchy, and there are few rows
pub record CanQueue (h : List Dimension) (row : Row) (queue : Queue) : Type 0 where
  pub row_of : IsRowOf h row
  pub queue_of : IsQueueOf h queue
  pub few : queue.agg.count + 1 < 2 ^ 63

module _ (h : List Dimension) (map_at : ℕ) (map_cell : CellValue) (gate_at : ℕ) (cell : CellValue) (a : ActorValue) (k : IsHere h (held map_at map_cell ∷ held gate_at cell ∷ []) a) (due : CanEnterQueue map_at map_cell gate_at cell a) where
  abbrev setting : Setting
  setting = a.setting

  abbrev state : View
  state = view setting k.world

  its : InvWith setting state k.inv.ghost_of
  its = k.inv.holds

  has-row : HasRow (k.world.actors k.number) due.e due.r
  has-row = subst (λ (z : ActorValue). HasRow z due.e due.r) (sym k.agrees.actor_is) due.has

  comes : Arrives setting state k.inv.ghost_of k.number gate_at (row_way due.e due.r)
  comes = arrives setting k.world k.inv.ghost_of its k.number gate_at due.e due.r has-row due.outside
      (held-leads setting k.world its.numbering.tag (held map_at map_cell) k.agrees.cells.0 due.e.worker due.e.shard (where_is.Gate gate_at) due.leads).1

  queue-there : state.queues gate_at ≡ due.gate.queue
  queue-there = ap queue_in (k.agrees.cells.1.0 ∙ due.gate_is)

  -- the numbers of its rows are below the history's length, and no two are the same

  times-in : (q : ℕ) → cond ((k.inv.ghost_of.shape gate_at).placed q) 1 0 + times q (numbers (state.queues gate_at).rows) ≡ cond (k.inv.ghost_of.placed q) (same_number (k.inv.ghost_of.home q) due.e.shard) 0
  times-in q = subst (λ (y : ℕ). cond ((k.inv.ghost_of.shape y).placed q) 1 0 + times q (numbers (state.queues y).rows) ≡ cond (k.inv.ghost_of.placed q) (same_number (k.inv.ghost_of.home q) due.e.shard) 0) comes.gate_is
      (its.placing.one due.e.shard q comes.live)

  same-most : (x y : ℕ) → same_number x y ≤ 1
  same-most x y = on_bool (eqb x y) (λ e. let z = same_is x y (eqb-true _ _ e) in omega arith) (λ e. let z = same_not x y (eqb-false _ _ e) in omega arith)

  once : (q : ℕ) → times q (numbers (state.queues gate_at).rows) ≤ 1
  once q = on_bool (k.inv.ghost_of.placed q)
      (λ e. let all = times-in q in
      let is : cond (k.inv.ghost_of.placed q) (same_number (k.inv.ghost_of.home q) due.e.shard) 0 ≡ same_number (k.inv.ghost_of.home q) due.e.shard = ap (λ (x : Bool). cond x (same_number (k.inv.ghost_of.home q) due.e.shard) 0) e in
      let most = same-most (k.inv.ghost_of.home q) due.e.shard in omega arith)
      (λ e. let all = times-in q in
      let is : cond (k.inv.ghost_of.placed q) (same_number (k.inv.ghost_of.home q) due.e.shard) 0 ≡ 0 = ap (λ (x : Bool). cond x (same_number (k.inv.ghost_of.home q) due.e.shard) 0) e in omega arith)

  below : (q : ℕ) → 1 ≤ times q (numbers (state.queues gate_at).rows) → q < length state.history
  below q some = on_bool (k.inv.ghost_of.placed q)
      (λ e. let (insert, began) = its.placing.begun q e in insert-within state.history q insert began)
      (λ e. let all = times-in q in
      let is : cond (k.inv.ghost_of.placed q) (same_number (k.inv.ghost_of.home q) due.e.shard) 0 ≡ 0 = ap (λ (x : Bool). cond x (same_number (k.inv.ghost_of.home q) due.e.shard) 0) e in absurd (omega arith))

  few-rows : length (state.queues gate_at).rows ≤ length state.history
  few-rows =
      let ns = numbers (state.queues gate_at).rows in
      let le = length-le_from_distinct ns (length state.history) (distinct-times ns once) (all-times (λ q. q < length state.history) ns below) in
      let is : length ns ≡ length (state.queues gate_at).rows = length-map (state.queues gate_at).rows (λ (x : Row). x.no) in omega arith

  pub can-queue : CanQueue h due.r.row due.gate.queue
  can-queue =
      let queue = its.queueing.queue gate_at (subst IsSome (sym comes.is_gate) refl) in
      let began = its.telling.rows due.r.row.no comes.insert comes.began in
      record {
        row_of = subst (λ (hs : List Dimension). IsRowOf hs due.r.row) k.about (subst (IsRowOf setting.hierarchy) comes.row_is began.0);
        queue_of = subst (λ (hs : List Dimension). IsQueueOf hs due.gate.queue) k.about (subst (IsQueueOf setting.hierarchy) queue-there queue);
        few = (let le = few-rows in
            let lt = its.owing.few in
            let count : (state.queues gate_at).agg.count ≡ length (state.queues gate_at).rows = ap (λ (x : Aggregate). x.count) queue.summary.agg in
            let there = ap (λ (x : Queue). x.agg.count) queue-there in omega arith);
      }
