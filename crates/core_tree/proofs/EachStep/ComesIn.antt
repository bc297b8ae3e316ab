-- A commit by which a row comes in at an open gate, which isn't in any shard before: it keeps the whole invariant, and less is left.
use Rattle.std.proofs.{Common.{◌≡◌, ◌≢◌, ℕ, ◌+◌, ◌<◌, ◌≤◌, Bool, true, false, cond, eqb, List, [], ◌∷◌, ◌++◌, length, Some, None, IsSome, refl, sym, ap, ◌∙◌, subst, inl, inr, arith}, lemmas.Bool.{cases_lt, eqb-true, eqb-false, ne_eqb}}
use Rattle.std.specs.Prelude.{if◌then◌else◌, ◌==◌}
use Rattle.cell_stock.specs.declared.purse.Spare.{Spare}
use Rattle.row_ledger.specs.{Past.{Query, query_at}, Shards.{frontier, is_live}}
use Rattle.volap_cell.specs.shard_store.specs.declared.gate.Phase.TheVariants.{Open, Frozen}
use Rattle.list_words.specs.Counts.{Each, same as one_same, times}
use Rattle.list_words.proofs.{Times.{same_is, same_not}, Truth.{on_bool, eqb-self}}
use Rattle.volap_cell.specs.tree_shape.specs.{Laws.{OtherLaw, CollectOtherLaw}, Shape.Shape}
use Rattle.volap_cell.specs.{Cells.{CellValue, has_block}, Errands.{RowWay, Outside, AtBlock, ReadPart, way_of, row_way, place_of}, Falls.{left, far, gates_of_errand, gates_of_task, gates_of_way}, Ghost.Ghost, Growing.table_of, Invariant.InvWith, Kinds.Does, Querying.{IsCounted, must_hold}, Setting.{Setting, actor_count}, Steps.{HasSight, IsKept}, Stocking.{cells_at, IsWhole}, Sums.sum_below, TreeKinds.{HasRow, on_way}, Turning.{is_inside, inside_of}, Values.{ActorValue, ErrandValue}, View.{View, view}, World.{World, Change, put, after, Agrees}, declared.errand.RowErrand.RowErrand, declared.errand.Way.Way, declared.kind.Kind.Kind}
use Rattle.volap_cell.specs.declared.errand.Way.TheVariants as way_is
use Rattle.volap_cell.proofs.{OneEvent.Desks.must_hold-placed, OneEvent.Known.{AreOlder, older-rows}, OneEvent.Older.insert-within, OneEvent.Reads.{pinned-whole, readers-take, reading-counts}, Persons.has-taken, Sums.sum-changed, Views.Frames.{AreAt, actor-at, actor-off}, Views.Seen.renewed, Views.Trees.by_enter_tree}
use Rattle.core_tree.proofs.{Queries.TreeSteps.{IsOwn, block-off, with_shape}, Rows.Arrivals.Arrives, Rows.Carriers.live-on, Rows.Moves.{Moved, IsCarriedOn, TreeMoves, moved-growing, moved-numbering, moved-turning, moved-stocking, moved-stamping}, Rows.MovesRest.{moved-resting, moved-querying, moved-working}, Rows.Places.{with_one, at-one, off-one, Passes, HaveOneMore, nobody-placed, telling-placed, resting-placed, placing-placed, inserting-placed, imaging-placed, covering-placed}, Rows.PlacesRead.{querying-placed, working-placed, balancing-placed}, Rows.Remains.{IsStepOf, control-same, gates-changed}, Stocks.Spares.moved_owner, Stocks.Stamps.Restamps}

-- what holds of a cell, and of what each changed one becomes where it held before, holds still
pub still-has : (cs : List Change) (cells : ℕ → CellValue) (y : ℕ) → AreAt cells cs → Each (λ c. has_block c.before ≡ true → has_block c.now ≡ true) cs → has_block (cells y) ≡ true → has_block (put cs cells y) ≡ true
still-has [] cells y at f e = e
still-has (c ∷ cs) cells y at f e = on_bool (eqb y c.number)
    (λ q. ap (λ (b : Bool). has_block (cond b c.now (put cs cells y))) q ∙ f.0 (ap has_block (sym at.0) ∙ ap (λ (z : ℕ). has_block (cells z)) (sym (eqb-true _ _ q)) ∙ e))
    (λ q. ap (λ (b : Bool). has_block (cond b c.now (put cs cells y))) q ∙ still-has cs cells y at.1 f.1 e)

-- What a kind of this sort shows of its own.
pub record ComesIn (s : Setting) (w : World) (n : ℕ) (cs : List Change) (b : ActorValue) (g : Ghost) : Type 0 where
  pub e : ErrandValue
  pub r : RowErrand
  pub has : HasRow (w.actors n) e r
  pub outside : place_of r.way ≡ Outside
  pub gate : ℕ
  pub arr : Arrives s (view s w) g n gate (row_way e r)
  pub at : ℕ
  pub errand : b.errand ≡ on_way e r (way_is.Carried gate at)
  pub seen : view s (after w cs n b) ≡ renewed by_enter_tree (view s (after w cs n b)) (view s w)
  pub is_open : (view s w).phases gate ≡ Some Open
  pub trees_off : (y : ℕ) → y ≢ gate → (view s (after w cs n b)).trees y ≡ (view s w).trees y
  pub active_of : ℕ
  pub active_was : (view s w).active gate ≡ active_of
  pub active_is : (view s (after w cs n b)).active gate ≡ active_of + 1
  pub active_off : (y : ℕ) → y ≢ gate → (view s (after w cs n b)).active y ≡ (view s w).active y
  pub new : (g.shape gate).placed r.row.no ≡ false
  pub still : (y : ℕ) → (view s w).made y ≡ true → (view s (after w cs n b)).made y ≡ true
  pub own : Each (IsOwn g.owner gate n) cs
  pub shape : Shape
  pub used : List Spare
  pub purse : (w.actors n).purse ≡ b.purse ++ used
  pub fresh : Each (λ x. (view s (after w cs n b)).made x.cell ≡ true) used
  pub stamps : Restamps (g.shape gate).inside (view s w).made (view s (after w cs n b)).made (view s w).blocks (view s (after w cs n b)).blocks used
  pub moved : Moved (table_of s (view s w).row) (cells_at (view s w).blocks (view s w).trees gate) (cells_at (view s (after w cs n b)).blocks (view s (after w cs n b)).trees gate) (g.shape gate) shape r.row.no used
  pub went : IsCarriedOn shape gate r.row.no b.purse b.boxes gate at
  pub command : b.command ≡ (w.actors n).command
  pub job : b.job ≡ (w.actors n).job

-- what is left before its gate
gates-some : (ahead : ℕ) (w : Way) → 1 ≤ ahead → place_of w ≡ Outside → 0 < gates_of_way ahead w
gates-some ahead (way_is.Before None filled) le o = omega arith
gates-some ahead (way_is.Before (Some height) true) le o = omega arith
gates-some ahead (way_is.Before (Some height) false) le o = omega arith
gates-some ahead (way_is.Carried gate block) le o = cc
gates-some ahead (way_is.Put gate) le o = cc
gates-some ahead way_is.Placed le o = cc

module _ (s : Setting) (w : World) (n : ℕ) (cs : List Change) (b : ActorValue) (g : Ghost) (other : OtherLaw) (collects : CollectOtherLaw) (i : InvWith s (view s w) g)
    (ag : Agrees w cs n (w.actors n)) (t : ComesIn s w n cs b g) where
  abbrev v : View
  v = view s w

  abbrev w2 : World
  w2 = after w cs n b

  abbrev u : View
  u = view s w2

  abbrev v2 : View
  v2 = renewed by_enter_tree u v

  abbrev way : RowWay
  way = row_way t.e t.r

  abbrev r : ℕ
  r = way.row.no

  abbrev g2 : Ghost
  g2 = record g {
    shape = with_shape g.shape t.gate t.shape;
    owner = moved_owner t.used t.gate g.owner;
    placed = with_one g.placed r true;
    home = with_one g.home r way.shard;
    path = with_one g.path r way.path;
  }

  me : w2.actors n ≡ b
  me = actor-at w.actors n b

  go : Passes v.ways v2.ways n way (AtBlock t.gate t.at)
  go = record {
    was = t.arr.was;
    is = ap (λ (a : ActorValue). way_of a.errand) me ∙ ap way_of t.errand;
    off = λ a ne. ap (λ (z : ActorValue). way_of z.errand) (actor-off w.actors n b a ne);
    passed = refl;
  }

  shape-at : g2.shape t.gate ≡ t.shape
  shape-at = rw (eqb-self t.gate) refl

  shape-off : (d : ℕ) → d ≢ t.gate → g2.shape d ≡ g.shape d
  shape-off d ne = rw (ne_eqb d t.gate ne) refl

  moves : TreeMoves s v v2 g g2 n t.gate
  moves = record {
    way = way;
    place = AtBlock t.gate t.at;
    was = t.arr.was;
    is = go.is;
    from = λ d y p. let z : AtBlock d y ≡ Outside = sym p ∙ t.outside in cc;
    is_gate = subst IsSome (sym t.arr.is_gate) refl;
    stands = t.arr.stands;
    gate_is = ap g.gate (at-one g.home r way.shard) ∙ t.arr.gate_is;
    used = t.used;
    purse = subst (λ (a : ActorValue). (w.actors n).purse ≡ a.purse ++ t.used) (sym me) t.purse;
    moved = subst (λ (z : Shape). Moved (table_of s v.row) (cells_at v.blocks v.trees t.gate) (cells_at v2.blocks v2.trees t.gate) (g.shape t.gate) z r t.used) (sym shape-at) t.moved;
    went = subst (λ (z : Shape). IsCarriedOn z t.gate r (v2.purses n) (v2.boxes n) t.gate t.at) (sym shape-at)
        (subst (λ (a : ActorValue). IsCarriedOn t.shape t.gate r a.purse a.boxes t.gate t.at) (sym me) t.went);
    off = λ y nt np. block-off cs w.cells g.owner t.gate n y ag.cells t.own nt np;
    still = t.still;
    fresh = t.fresh;
    stamps = t.stamps;
    ways_off = go.off;
    purses_off = λ a ne. ap (λ (z : ActorValue). z.purse) (actor-off w.actors n b a ne);
    boxes_off = λ a ne. ap (λ (z : ActorValue). z.boxes) (actor-off w.actors n b a ne);
    trees_off = t.trees_off;
    shape_off = shape-off;
    owner = λ y. refl;
    gate_same = λ x. refl;
    home_off = off-one g.home r way.shard;
  }

  -- The gate counts one insert more.

  counts : (y : ℕ) → v2.active y ≡ sum_below (actor_count s) (λ a. inside_of y (v2.ways a))
  counts y =
      let sums = sum-changed (actor_count s) (λ a. inside_of y (v.ways a)) (λ a. inside_of y (v2.ways a)) n (λ a ne. ap (inside_of y) (go.off a ne)) t.arr.few in
      let none : ◌≡◌ {A = ℕ} (inside_of y (v.ways n)) 0 = ap (inside_of y) go.was ∙ ap (is_inside y) t.outside in
      let one : inside_of y (v2.ways n) ≡ (if t.gate == y then 1 else 0) = ap (inside_of y) go.is in
      let old = i.turning.counts y in
      on_bool (eqb y t.gate)
      (λ q. let e = eqb-true _ _ q in
      let now : v2.active y ≡ t.active_of + 1 = ap v2.active e ∙ t.active_is in
      let was : v.active y ≡ t.active_of = ap v.active e ∙ t.active_was in
      let is : ◌≡◌ {A = ℕ} (if t.gate == y then 1 else 0) 1 = ap (λ (z : ℕ). if t.gate == z then 1 else 0) e ∙ (rw (eqb-self t.gate) refl) in omega arith)
      (λ q. let ne = eqb-false _ _ q in
      let is : ◌≡◌ {A = ℕ} (if t.gate == y then 1 else 0) 0 = rw (ne_eqb t.gate y (λ e. ne (sym e))) refl in
      let k = t.active_off y ne in omega arith)

  -- The shard has the row, and every other shard has what it had.

  -- a shard that stands has a gate of its own
  own-gate : (x : ℕ) → is_live s.workers v.history x ≡ true → g.gate x ≡ t.gate → x ≡ way.shard
  own-gate x live e =
      let on = live-on x (frontier s.workers v.history) live in
      let there = (i.lineage.gate_of x on.0 on.1).1 in
      let both : Some x ≡ Some way.shard = sym there ∙ ap v.gates e ∙ t.arr.is_gate in cc

  at-gate : (q : ℕ) → cond ((g2.shape t.gate).placed q) 1 0 ≡ cond ((g.shape t.gate).placed q) 1 0 + cond (eqb q r) 1 0
  at-gate q = on_bool (eqb q r)
      (λ e. let is = eqb-true _ _ e in
      let now : ◌≡◌ {A = ℕ} (cond ((g2.shape t.gate).placed q) 1 0) 1 = ap (λ (x : Bool). cond x 1 0) (ap (λ (z : Shape). z.placed q) shape-at ∙ ap t.shape.placed is ∙ t.moved.here) in
      let was : ◌≡◌ {A = ℕ} (cond ((g.shape t.gate).placed q) 1 0) 0 = ap (λ (x : Bool). cond x 1 0) (ap (g.shape t.gate).placed is ∙ t.new) in
      let one : ◌≡◌ {A = ℕ} (cond (eqb q r) 1 0) 1 = ap (λ (x : Bool). cond x 1 0) e in omega arith)
      (λ e. let ne = eqb-false _ _ e in
      let now : ◌≡◌ {A = ℕ} (cond ((g2.shape t.gate).placed q) 1 0) (cond ((g.shape t.gate).placed q) 1 0) = ap (λ (x : Bool). cond x 1 0) (ap (λ (z : Shape). z.placed q) shape-at ∙ t.moved.placed q ne) in
      let one : ◌≡◌ {A = ℕ} (cond (eqb q r) 1 0) 0 = ap (λ (x : Bool). cond x 1 0) e in omega arith)

  more : HaveOneMore s v.history g.gate g.shape g2.shape v.queues v.queues r way.shard
  more y q live = on_bool (eqb y way.shard)
      (λ e. let is = eqb-true _ _ e in
      let gate : g.gate y ≡ t.gate = ap g.gate is ∙ t.arr.gate_is in
      let tree : cond ((g2.shape (g.gate y)).placed q) 1 0 ≡ cond ((g.shape (g.gate y)).placed q) 1 0 + cond (eqb q r) 1 0 =
      subst (λ (z : ℕ). cond ((g2.shape z).placed q) 1 0 ≡ cond ((g.shape z).placed q) 1 0 + cond (eqb q r) 1 0) (sym gate) (at-gate q) in
      let one : ◌≡◌ {A = ℕ} (cond (eqb q r) (one_same way.shard y) 0) (cond (eqb q r) 1 0) = ap (λ (z : ℕ). cond (eqb q r) z 0) (same_is way.shard y (sym is)) in omega arith)
      (λ e. let ne = eqb-false _ _ e in
      let tree : ◌≡◌ {A = ℕ} (cond ((g2.shape (g.gate y)).placed q) 1 0) (cond ((g.shape (g.gate y)).placed q) 1 0) = ap (λ (z : Shape). cond (z.placed q) 1 0) (shape-off (g.gate y) (λ z. ne (own-gate y live z))) in
      let none : ◌≡◌ {A = ℕ} (cond (eqb q r) (one_same way.shard y) 0) 0 = ap (λ (z : ℕ). cond (eqb q r) z 0) (same_not way.shard y (λ z. ne (sym z))) ∙ on_bool (eqb q r) (λ k. rw k refl) (λ k. rw k refl) in omega arith)

  one : (a : ℕ) (x : RowWay) → v.ways a ≡ Some x → x.row.no ≡ r → a ≡ n
  one a x is e = i.turning.one a n x way is t.arr.was e

  -- No query has counted the row, and none has to hold it.

  older : AreOlder v.history g.placed
  older = older-rows s v.history i.placing

  pinned : (a d : ℕ) (p : ReadPart) → v.reads a ≡ Some p → p.reading.pin ≡ Some d → IsWhole v.gates v.phases v.pins d
  pinned = pinned-whole s v.tags v.numbers v.roles v.settings v.counted_in v.purses v.commands v.taken v.jobs v.gates v.phases v.pins v.reads i.numbering (readers-take s w) i.pinning

  readers : (a : ℕ) (p : ReadPart) → v.reads a ≡ Some p → a < actor_count s
  readers a p is = (let k = readers-take s w a p is in has-taken s v i.numbering a k.0 k.1)

  began-some : 0 < length v.history
  began-some = (let k = insert-within v.history r t.arr.insert t.arr.began in omega arith)

  counted-right : (a of : ℕ) (q : Query) (p : ReadPart) → v.reads a ≡ Some p → (v.desks p.server).op ≡ Some of → query_at v.history of ≡ Some q → IsCounted s v.history v.row g.placed g.home q p.shard (g.counted p.server p.shard)
  counted-right = reading-counts s v.history began-some g.placed g.home older v.blocks v.trees v.gates v.phases v.pins v.desks v.roles v.commands v.taken v.reads g.shape g.counted (readers-take s w) pinned i.growing i.desking i.querying

  unasked : (a of : ℕ) (q : Query) (p : ReadPart) → v.reads a ≡ Some p → (v.desks p.server).op ≡ Some of → query_at v.history of ≡ Some q
      → (g.shape t.gate).placed r ≡ false → (times r (g.counted p.server p.shard) ≡ 0) × (must_hold s.hierarchy v.history of q r ≡ false)
  unasked a of q p is op asked np = (
    elim (cases_lt (times r (g.counted p.server p.shard)) 1) [
      | inl none ↦ (omega arith)
      | inr some ↦ (let placed = ((counted-right a of q p is op asked).under r some).is_placed in let no : true ≡ false = sym placed ∙ t.arr.out in cc)
    ],
    on_bool (must_hold s.hierarchy v.history of q r)
        (λ k. let no : true ≡ false = sym (must_hold-placed s.hierarchy v.history g.placed older of q r k) ∙ t.arr.out in cc)
        (λ k. k),
  )

  pub holds : InvWith s v2 g2
  unfolding moves
  holds = record {
    numbering = moved-numbering s v v2 g g2 n t.gate other i moves;
    telling = telling-placed v.history g.placed g.home g.path way t.arr.out s v.commands v.jobs v.roles v.seen t.arr.routed i.telling;
    owing = i.owing;
    turning = moved-turning s v v2 g g2 n t.gate other i moves v2.active counts;
    stocking = moved-stocking s v v2 g g2 n t.gate other i moves;
    stamping = moved-stamping s v v2 g g2 n t.gate other i moves;
    lineage = i.lineage;
    leading = i.leading;
    growing = moved-growing s v v2 g g2 n t.gate other i moves;
    queueing = i.queueing;
    resting = resting-placed v.history g.placed g.home g.path way t.arr.out v.gates v.phases g2.shape (moved-resting s v v2 g g2 n t.gate other i moves);
    placing = placing-placed v.history g.placed g.home g.path way t.arr.out s v.commands v.images v.ways v2.ways v.queues v.queues g.gate g.shape g2.shape
        t.arr.insert t.arr.began t.arr.live t.arr.lead t.arr.routed (nobody-placed v.history g.placed g.home g.path way t.arr.out v.ways v2.ways n (AtBlock t.gate t.at) go one) more i.placing;
    inserting = inserting-placed v.history g.placed g.home g.path way t.arr.out v.ways v2.ways n (AtBlock t.gate t.at) go one s v.images v.desks v.commands i.inserting;
    imaging = imaging-placed v.history g.placed g.home g.path way t.arr.out s v.row v.images i.imaging;
    covering = covering-placed v.history g.placed g.home g.path way t.arr.out s v.row v.registry v.images older t.arr.insert t.arr.began t.arr.server t.arr.within t.arr.live t.arr.lead i.imaging i.covering;
    desking = i.desking;
    pinning = i.pinning;
    querying = querying-placed v.history g.placed g.home g.path way t.arr.out older s v.row v2.blocks v2.trees v.desks v.taken v.reads g2.shape g.counted
        (moved-querying s v v2 g g2 n t.gate other i moves readers unasked);
    working = working-placed v.history g.placed g.home g.path way t.arr.out older s v2.blocks v2.made v2.trees v.phases v2.active v.queues v2.purses v.commands v.jobs g.gate g2.shape
        (moved-working s v v2 g g2 n t.gate other i moves collects t.arr.jobless
        (λ d upto is idle e. let z : Some Open ≡ Some (Frozen upto) = sym t.is_open ∙ ap v.phases (sym e) ∙ is in cc)
        (λ d upto is. t.trees_off d (λ e. let z : Some Open ≡ Some (Frozen upto) = sym t.is_open ∙ ap v.phases (sym e) ∙ is in cc))
        (λ d upto is. t.active_off d (λ e. let z : Some Open ≡ Some (Frozen upto) = sym t.is_open ∙ ap v.phases (sym e) ∙ is in cc)));
    balancing = balancing-placed v.history g.placed g.home g.path way t.arr.out older s v.commands v.jobs i.balancing;
    reusing = i.reusing;
  }

  -- What is left.

  step-of : IsStepOf s w w2 n b
  step-of = record {
    few = t.arr.few;
    at = me;
    off = actor-off w.actors n b;
    history = ap (λ (x : View). x.history) t.seen;
    desks = ap (λ (x : View). x.desks) t.seen;
    phases = ap (λ (x : View). x.phases) t.seen;
    gone = ap (λ (x : View). x.gone) t.seen;
    command = t.command;
    job = t.job;
  }

  gates-less : (left s w2 g2).gates < (left s w g).gates
  gates-less =
      let ahead = far s.workers v.history t.e.shard t.e.worker in
      let changed = gates-changed s w w2 g g2 n b step-of in
      let now : gates_of_errand s v.history b.errand ≡ 0 = ap (gates_of_errand s v.history) t.errand in
      let was : gates_of_errand s v.history (w.actors n).errand ≡ gates_of_way ahead t.r.way = ap (gates_of_errand s v.history) t.has.errand ∙ ap (gates_of_task ahead) t.has.row in
      let some = gates-some ahead t.r.way (omega arith) t.outside in omega arith

  pub comes-in-kept : (k : Kind) (does : Does s.hierarchy k cs (w.actors n) b) → HasSight s w n s.hierarchy k cs (w.actors n) b does → IsKept s k n w w2 g
  comes-in-kept k does sight = record {
    step = record { changes = cs; actor = b; agrees = ag; does = does; sight = sight; now_is = refl };
    ghost_now = g2;
    holds = subst (λ (x : View). InvWith s x g2) (sym t.seen) holds;
    newer = [];
    grows = ap (λ (x : View). x.history) t.seen;
    goes_on = inl (inr (inl (control-same s w w2 g g2 n b step-of, gates-less)));
  }
