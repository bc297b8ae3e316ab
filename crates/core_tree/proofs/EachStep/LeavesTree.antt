-- An insert that has put its row leaves the tree.
use Rattle.query_router.specs.{declared.part.Part.Part, declared.part.PartState.PartState, declared.part.PartState.TheVariants.Placed}
use Rattle.volap_cell.specs.{Cells.{active_in, CellValue, gate_shard, GateCell}, Errands.{AtBlock, AtRest, InLeaf, RowWay, has_passed, place_of, row_way, way_of, taken_of}, Falls.{far, gates_of_errand, gates_of_task, gates_of_way, left, rows_of_errand, rows_of_task, rows_of_way, one_if_any}, Ghost.Ghost, Invariant.InvWith, Placing.{Inserting, IsOnWay, IsRowPart, NobodyAt, Placing}, Setting.{Setting, actor_count}, Steps.{IsKept, Keeps, IsHere, Makes}, Sums.sum_below, TreeKinds.{DoesLeaveTree, HasRow, on_way}, Turning.{inside_of, is_inside}, Values.{ActorValue, ErrandValue}, View.{View, view}, Working.Working, World.{Agrees, Change, World, after, held, change}, declared.errand.RowErrand.RowErrand, declared.errand.Way.TheVariants.Placed, declared.kind.Kind.TheVariants.LeaveTree}
use Rattle.std.proofs.{Common.{◌≡◌, ℕ, ◌+◌, ◌<◌, ◌≤◌, ◌==◌, eqb, if◌then◌else◌, List, [], ◌∷◌, Option, Some, refl, sym, ap, ◌∙◌, subst, inl, inr, arith, IsSome, true, false}, lemmas.Bool.{eqb-true, eqb-false, ne_eqb}, lemmas.List.Elements.All-weaker}
use Rattle.dim_hierarchy.specs.{Dimension.Dimension, declared.row.Row.Row}
use Rattle.query_router.specs.declared.part.PartState.TheVariants as state
use Rattle.volap_cell.specs.shard_store.specs.declared.gate.Gate.{Gate}
use Rattle.list_words.proofs.Truth.{on_bool, eqb-self}
use Rattle.volap_cell.proofs.{Actors.{row-at, taken-is}, Histories.Standings.live-on, Persons.has-taken, Sums.{sum-changed, sum-some}, Views.Fields.IsNewAt, Views.Frames.{actor-at, actor-off}, Views.Gates.gate-first, Views.Seen.renewed, Views.Trees.{by_leave_tree, view-leave_tree}}
use Rattle.core_tree.specs.DueAtGates.{CanLeaveTree}
use Rattle.core_tree.proofs.{Rows.Arrivals.same-row, Rows.Places.Passes, Rows.Remains.{IsStepOf, control-same, gates-changed, rows-changed}, Rows.Rests.{row-was, turning-rested}}

module _ (c : Change) (b : ActorValue) (s : Setting) (w : World) (n : ℕ) (g : Ghost) (i : InvWith s (view s w) g) (ag : Agrees w (c ∷ []) n (w.actors n)) (d : DoesLeaveTree c (w.actors n) b) where
  abbrev v : View
  v = view s w

  abbrev w2 : World
  w2 = after w (c ∷ []) n b

  abbrev u : View
  u = view s w2

  abbrev v2 : View
  v2 = renewed by_leave_tree u v

  same : u ≡ v2
  same = view-leave_tree s w n c (w.actors n) b ag d

  abbrev way : RowWay
  way = row_way d.e d.r

  in-leaf : way.place ≡ InLeaf c.number
  in-leaf = ap place_of d.put

  go : Passes v.ways v2.ways n way AtRest
  go = record {
    was = row-at d.has;
    is = ap (λ (a : ActorValue). way_of a.errand) (actor-at w.actors n b ∙ d.actor_is);
    off = λ a ne. ap (λ (a : ActorValue). way_of a.errand) (actor-off w.actors n b a ne);
    passed = refl;
  }

  few : n < actor_count s
  few = has-taken s v i.numbering n _ (taken-is d.has.errand d.has.row)

  -- The gate counts one insert less.

  active-now : IsNewAt v2.active v.active c.number d.gate.active d.gate_now.active
  active-now = gate-first active_in w.cells c [] ag.cells d.turns tt

  less : d.gate.active ≡ d.gate_now.active + 1
  less = ap (λ (x : Gate). x.active) d.left

  fewer : (y : ℕ) → v2.active y ≤ v.active y
  fewer y = on_bool (eqb y c.number)
      (λ q. let e = eqb-true _ _ q in
      let now : v2.active y ≡ d.gate_now.active = ap v2.active e ∙ active-now.is_there in
      let was : v.active y ≡ d.gate.active = ap v.active e ∙ active-now.was_there in let k = less in omega arith)
      (λ q. let k = active-now.elsewhere y (eqb-false _ _ q) in omega arith)

  counts : (y : ℕ) → v2.active y ≡ sum_below (actor_count s) (λ a. inside_of y (v2.ways a))
  counts y =
      let sums = sum-changed (actor_count s) (λ a. inside_of y (v.ways a)) (λ a. inside_of y (v2.ways a)) n (λ a ne. ap (inside_of y) (go.off a ne)) few in
      let none : ◌≡◌ {A = ℕ} (inside_of y (v2.ways n)) 0 = ap (inside_of y) go.is in
      let one : inside_of y (v.ways n) ≡ (if c.number == y then 1 else 0) = ap (inside_of y) go.was ∙ ap (is_inside y) in-leaf in
      let old = i.turning.counts y in
      on_bool (eqb y c.number)
      (λ q. let e = eqb-true _ _ q in
      let now : v2.active y ≡ d.gate_now.active = ap v2.active e ∙ active-now.is_there in
      let was : v.active y ≡ d.gate.active = ap v.active e ∙ active-now.was_there in
      let is : ◌≡◌ {A = ℕ} (if c.number == y then 1 else 0) 1 = ap (λ (z : ℕ). if c.number == z then 1 else 0) e ∙ (rw (eqb-self c.number) refl) in
      let k = less in omega arith)
      (λ q. let ne = eqb-false _ _ q in
      let is : ◌≡◌ {A = ℕ} (if c.number == y then 1 else 0) 0 = rw (ne_eqb c.number y (λ e. ne (sym e))) refl in
      let k = active-now.elsewhere y ne in omega arith)

  -- Rows: the one that leaves was in its place.

  nobody : (q : ℕ) → NobodyAt v.ways q → NobodyAt v2.ways q
  nobody q none a x is e = (let k = row-was s v.ways v2.ways n way go v.purses v.boxes v.phases v.active g.gate g.shape g.home i.turning a x is in none a k.0 k.1 (ap (λ (z : Row). z.no) k.2 ∙ e))

  placing-now : Placing s v.history v.commands v2.ways v.queues g.gate g.shape g.placed g.home g.path
  placing-now =
      let k = i.placing in record {
        one = k.one;
        stands = k.stands;
        begun = k.begun;
        line = k.line;
        acked_rows = λ x has. let o = k.acked_rows x has in (o.0, o.1, nobody x.row.no o.2);
        others = k.others;
      }

  part-now : (server q : ℕ) (p : Part) (st : PartState) → IsRowPart v.history v.images v.ways g.placed g.path server q p st → IsRowPart v.history v.images v2.ways g.placed g.path server q p st
  part-now server q p (state.Waiting wanted) o = (o.0, nobody q o.1, o.2)
  part-now server q p (state.Placed x) o = (o.0, o.1, nobody q o.2, o.3)
  part-now server q p state.NoMemory o = (o.0, nobody q o.1, o.2)
  part-now server q p state.Taken o = o
  part-now server q p (state.Done total) o = o

  inserting-now : Inserting s v.history v.images v.desks v.commands v2.ways g.placed g.path
  inserting-now =
      let k = i.inserting in record {
        unrouted = λ a q row is. let o = k.unrouted a q row is in (o.0, nobody q o.1);
        parts = λ server q x within op is. All-weaker (λ (p : Part). IsRowPart v.history v.images v.ways g.placed g.path server q p p.state) (λ (p : Part). IsRowPart v.history v.images v2.ways g.placed g.path server q p p.state)
            (λ p. part-now server q p p.state) (v.desks server).parts (k.parts server q x within op is);
        on_way = λ a x is. on_bool (eqb a n)
            (λ q. let both : ◌≡◌ {A = Option RowWay} (Some (record way { place = AtRest; filled = false })) (Some x) = sym go.is ∙ ap v2.ways (sym (eqb-true _ _ q)) ∙ is in
            let x_is : record way { place = AtRest; filled = false } ≡ x = cc in
            let o = k.on_way n way go.was in
            subst (IsOnWay v.history v.images g.placed g.path) x_is (record { known = o.known; lead = o.lead; passed = o.passed ∙ ap has_passed in-leaf; came = λ e. o.came (ap has_passed in-leaf) }))
            (λ q. k.on_way a x (sym (go.off a (eqb-false _ _ q)) ∙ is));
      }

  working-now : Working s v.history v.blocks v.made v.trees v.phases v2.active v.queues v.purses v.commands v.jobs g.gate g.shape g.placed
  working-now =
      let k = i.working in record {
        command = k.command;
        front = k.front;
        to = k.to;
        unspent = k.unspent;
        declined = k.declined;
        frozen = k.frozen;
        collected = λ a j x isj st. let o = k.collected a j x isj st in record {
          drained = (let le = fewer x.frozen.gate in let none = o.drained in omega arith);
          at_blocks = o.at_blocks;
          named = o.named;
          rows = o.rows;
          collecting = o.collecting;
          upto = o.upto;
          blocks_first = o.blocks_first;
        };
        building = λ a j x isj st. let o = k.building a j x isj st in record {
          drained = (let le = fewer x.frozen.gate in let none = o.drained in omega arith);
          upto = o.upto;
          phase_is = o.phase_is;
          at_blocks = o.at_blocks;
          named = o.named;
          read = o.read;
          built = o.built;
          purse_was = o.purse_was;
          purse_now = o.purse_now;
          purse_is = o.purse_is;
          trees_are = o.trees_are;
          in_cells = o.in_cells;
        };
      }

  pub holds : InvWith s v2 g
  holds = record {
    numbering = i.numbering;
    telling = i.telling;
    owing = i.owing;
    turning = turning-rested s v.ways v2.ways n way go v.purses v.boxes v.phases v.active g.gate g.shape g.home i.turning v2.active g.home (λ x y e. let no : InLeaf c.number ≡ AtBlock x y = sym in-leaf ∙ e in cc) (λ q ne. refl) counts;
    stocking = i.stocking;
    stamping = i.stamping;
    lineage = i.lineage;
    leading = i.leading;
    growing = i.growing;
    queueing = i.queueing;
    resting = i.resting;
    placing = placing-now;
    inserting = inserting-now;
    imaging = i.imaging;
    covering = i.covering;
    desking = i.desking;
    pinning = i.pinning;
    querying = i.querying;
    working = working-now;
    balancing = i.balancing;
    reusing = i.reusing;
  }

  -- What is left.

  step-of : IsStepOf s w w2 n b
  step-of = record {
    few = few;
    at = actor-at w.actors n b;
    off = λ a ne. actor-off w.actors n b a ne;
    history = ap (λ (x : View). x.history) same;
    desks = ap (λ (x : View). x.desks) same;
    phases = ap (λ (x : View). x.phases) same;
    gone = ap (λ (x : View). x.gone) same;
    command = ap (λ (a : ActorValue). a.command) d.actor_is;
    job = ap (λ (a : ActorValue). a.job) d.actor_is;
  }

  gates-same : (left s w2 g).gates ≡ (left s w g).gates
  gates-same =
      let all = gates-changed s w w2 g g n b step-of in
      let far_ = far s.workers v.history d.e.shard d.e.worker in
      let now : gates_of_errand s v.history b.errand ≡ 0 = ap (λ (a : ActorValue). gates_of_errand s v.history a.errand) d.actor_is in
      let was : gates_of_errand s v.history (w.actors n).errand ≡ 0 = ap (gates_of_errand s v.history) d.has.errand ∙ ap (gates_of_task far_) d.has.row ∙ ap (gates_of_way far_) d.put in
      omega arith

  rows-less : (left s w2 g).rows < (left s w g).rows
  rows-less =
      let all = rows-changed s w w2 g g n b step-of refl in
      let now : rows_of_errand g.shape b.errand ≡ 2 = ap (λ (a : ActorValue). rows_of_errand g.shape a.errand) d.actor_is in
      let was : rows_of_errand g.shape (w.actors n).errand ≡ 3 = ap (rows_of_errand g.shape) d.has.errand ∙ ap (rows_of_task g.shape) d.has.row ∙ ap (rows_of_way g.shape) d.put in
      let purse : one_if_any b.purse ≡ one_if_any (w.actors n).purse = ap (λ (a : ActorValue). one_if_any a.purse) d.actor_is in
      omega arith

  pub leave-kept : IsKept s LeaveTree n w w2 g
  leave-kept = record {
    step = record { changes = c ∷ []; actor = b; agrees = ag; does = d; sight = tt; now_is = refl };
    ghost_now = g;
    holds = subst (λ (x : View). InvWith s x g) (sym same) holds;
    newer = [];
    grows = ap (λ (x : View). x.history) same;
    goes_on = inl (inr (inr (inl (control-same s w w2 g g n b step-of, gates-same, rows-less))));
  }

pub leave-keeps : (h : List Dimension) (c : Change) (a b : ActorValue) (d : DoesLeaveTree c a b) → Keeps h LeaveTree (c ∷ []) a b d
leave-keeps h c a b d s w n g about i ag sight =
    leave-kept c b s w n g i (record { cells = ag.cells; actor_is = refl; free = λ x ne. ag.free x ne }) (subst (λ (z : ActorValue). DoesLeaveTree c z b) (sym ag.actor_is) d)

-- The call.

-- what it did, where it was given the gate at which its actor's insert is counted
pub leave-makes : (h : List Dimension) (at : ℕ) (cell : CellValue) (gate now : Gate) (a b : ActorValue) (e : ErrandValue) (r : RowErrand) → CanLeaveTree at a → cell ≡ GateCell gate → HasRow a e r
    → gate ≡ record now { active = now.active + 1 } → b ≡ record a { errand = on_way e r Placed } → Makes h LeaveTree (change at cell (GateCell now) ∷ []) a b
leave-makes h at cell gate now a b e r due is has left actor_is =
    let does : DoesLeaveTree (change at cell (GateCell now)) a b = record {
      e = e;
      r = r;
      has = has;
      put = ap (λ (x : RowErrand). x.way) (same-row has due.has).1 ∙ due.put;
      gate = gate;
      gate_now = now;
      turns = record { was = is; is = refl };
      left = left;
      actor_is = actor_is;
    } in
    record { does = does; keeps = leave-keeps h (change at cell (GateCell now)) a b does }

-- what it asks of the cell: there is a gate, which counts an insert
pub record CanLeave (cell : CellValue) : Type 0 where
  pub is_gate : IsSome (gate_shard cell)
  pub some : 0 < active_in cell

pub can-leave : (h : List Dimension) (at : ℕ) (cell : CellValue) (a : ActorValue) → IsHere h (held at cell ∷ []) a → CanLeaveTree at a → CanLeave cell
can-leave h at cell a k due =
    let i = k.inv.holds in
    let g = k.inv.ghost_of in
    let v = view a.setting k.world in
    let way = row_way due.e due.r in
    let same = k.agrees.actor_is in
    let was : v.ways k.number ≡ Some way = ap (λ (z : ActorValue). way_of z.errand) same ∙ row-at due.has in
    let in_leaf : way.place ≡ InLeaf at = ap place_of due.put in
    let in_tree = (i.turning.in_leaf k.number at way was in_leaf).0 in
    let placed : g.placed way.row.no ≡ true = (i.inserting.on_way k.number way was).passed ∙ ap has_passed in_leaf in
    let (worker, on) = live-on a.setting v (g.home way.row.no) (i.placing.stands way.row.no placed) in
    let there = (i.lineage.gate_of (g.home way.row.no) worker on).1 in
    let few = has-taken a.setting v i.numbering k.number _ (ap (λ (z : ActorValue). taken_of z.errand) same ∙ taken-is due.has.errand due.has.row) in
    let one : ◌≡◌ {A = ℕ} (inside_of at (v.ways k.number)) 1 = ap (inside_of at) was ∙ ap (is_inside at) in_leaf ∙ (rw (eqb-self at) refl) in
    let some = sum-some (actor_count a.setting) (λ z. inside_of at (v.ways z)) k.number few in
    let counts = i.turning.counts at in
    let here = k.agrees.cells.0 in
    record {
      is_gate = subst (λ (z : CellValue). IsSome (gate_shard z)) here (subst (λ (y : ℕ). IsSome (v.gates y)) in_tree.gate_is (subst IsSome (sym there) refl));
      some = (let active = ap active_in here in omega arith);
    }
