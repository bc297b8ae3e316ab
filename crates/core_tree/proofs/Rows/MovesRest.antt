-- The same of rows, of queries, and of what an administrator has collected and built.
use Rattle.std.proofs.{Common.{◌≡◌, ◌≢◌, ℕ, ◌+◌, ◌<◌, ◌≤◌, Bool, true, false, cond, eqb, List, [], ◌∷◌, ◌++◌, length, get_or, Option, Some, None, IsSome, refl, sym, ap, ◌∙◌, subst, inl, inr, arith}, lemmas.Bool.{eqb-true, eqb-false}}
use Rattle.cell_stock.specs.{Stock.cells_of, declared.purse.Spare.Spare}
use Rattle.dim_hierarchy.specs.declared.row.Row.{Row}
use Rattle.dc_node.specs.declared.todo.Item.{Item}
use Rattle.volap_cell.specs.link_descent.specs.declared.entered.Fresh.{Fresh}
use Rattle.query_router.specs.{declared.part.Part.Part, declared.part.PartState.PartState}
use Rattle.query_router.specs.declared.part.PartState.TheVariants as state
use Rattle.row_ledger.specs.Past.{Query, query_at}
use Rattle.volap_cell.specs.shard_store.specs.{declared.gate.Gate.Gate, declared.gate.Phase.TheVariants.{Frozen, Gone}}
use Rattle.volap_cell.specs.tree_shape.specs.{Collecting.IsCollecting, Laws.{OtherLaw, CollectOtherLaw}, Queries.{IsUnfinished, NoneWaits, fits}, Shape.{nodes, Shape, numbers}}
use Rattle.list_words.specs.Counts.{Each, times}
use Rattle.list_words.proofs.{Each.{each-map, each-both, each-left}, Truth.{on_bool, eqb-self}}
use Rattle.volap_cell.specs.{AdminKinds.{spent_in, spent_by}, Errands.{RowWay, ReadPart, has_passed}, Ghost.{Ghost, Owner, NotOfStock, Unused, InPurse, AGate, InTree, InJob, is_in_job}, Growing.{table_of, IsUnder, Resting}, Invariant.InvWith, Placing.{Placing, Inserting, NobodyAt, IsRowPart, IsOnWay}, Querying.{Querying, IsWalk, IsInTreeOf, must_hold, one_pin, pins_of}, Setting.{Setting, actor_count}, Stocking.{cells_at, IsWhole, spent_of, all_items, items_of_read, items_of_job}, Values.{JobValue, CollectingValue, BuildingValue, Collects, Builds}, View.View, Working.{Working, IsFrozenFor, IsCollected, IsBuilding, frozen_in}, declared.job.Frozen.Frozen as FrozenFor}
use Rattle.volap_cell.proofs.Sums.{sum-some}
use Rattle.core_tree.proofs.{Rows.Moves.{TreeMoves, by_gate as at-gate, by_actor as at-actor, apart as others, leaves as leaves-others, row-before as rows-before, mine-now as my-way, used-part as of-used}, Stocks.Spares.each-cell}

module _ (s : Setting) (v v2 : View) (g g2 : Ghost) (n c : ℕ) (other : OtherLaw) (i : InvWith s v g) (m : TreeMoves s v v2 g g2 n c) where
  abbrev r : ℕ
  r = m.way.row.no

  by_gate : (P : ℕ → Shape → Type 0) → P c (g2.shape c) → ((d : ℕ) → d ≢ c → P d (g.shape d)) → (d : ℕ) → P d (g2.shape d)
  by_gate = at-gate s v v2 g g2 n c other i m

  -- the rows of a tree that is gone
  pub moved-resting : Resting v.history v.gates v.phases g2.shape g.placed g.home
  moved-resting = record {
    rests = λ d x q isg gone pl. by_gate (λ d z. v.gates d ≡ Some x → v.phases d ≡ Some Gone → z.placed q ≡ true → (z.carried q ≡ false) × IsUnder v.history g.placed g.home x q)
        (λ isg gone pl. absurd (m.stands gone)) (λ d nd isg gone pl. i.resting.rests d x q isg gone pl) d isg gone pl;
  }

  -- Rows, where the row was in the tree before.

  pub placed-same : (g.shape c).placed r ≡ true → (d q : ℕ) → (g2.shape d).placed q ≡ (g.shape d).placed q
  placed-same was d q = by_gate (λ d z. z.placed q ≡ (g.shape d).placed q)
      (on_bool (eqb q r)
      (λ e. let is = eqb-true _ _ e in ap (g2.shape c).placed is ∙ m.moved.here ∙ sym was ∙ ap (g.shape c).placed (sym is))
      (λ e. m.moved.placed q (eqb-false _ _ e)))
      (λ d nd. refl) d

  pub nobody : (q : ℕ) → NobodyAt v.ways q → NobodyAt v2.ways q
  nobody q none a w is e = (let k = rows-before s v v2 g g2 n c other i m a w is in none a k.0 k.1 (ap (λ (x : Row). x.no) k.2 ∙ e))

  pub moved-placing : (g.shape c).placed r ≡ true → Placing s v.history v.commands v2.ways v.queues g.gate g2.shape g.placed g.home g.path
  moved-placing was =
      let k = i.placing in record {
        one = λ x q live. ap (λ (b : Bool). cond b 1 0 + times q (numbers (v.queues (g.gate x)).rows)) (placed-same was (g.gate x) q) ∙ k.one x q live;
        stands = k.stands;
        begun = k.begun;
        line = k.line;
        acked_rows = λ a isa. let o = k.acked_rows a isa in (o.0, o.1, nobody a.row.no o.2);
        others = k.others;
      }

  part-kept : (server q : ℕ) (p : Part) (st : PartState) → IsRowPart v.history v.images v.ways g.placed g.path server q p st → IsRowPart v.history v.images v2.ways g.placed g.path server q p st
  part-kept server q p (state.Waiting wanted) o = (o.0, nobody q o.1, o.2)
  part-kept server q p (state.Placed way) o = (o.0, o.1, nobody q o.2, o.3)
  part-kept server q p state.NoMemory o = (o.0, nobody q o.1, o.2)
  part-kept server q p state.Taken o = o
  part-kept server q p (state.Done total) o = o

  pub moved-inserting : has_passed m.place ≡ has_passed m.way.place → Inserting s v.history v.images v.desks v.commands v2.ways g.placed g.path
  moved-inserting passed =
      let k = i.inserting in record {
        unrouted = λ a q row is. let o = k.unrouted a q row is in (o.0, nobody q o.1);
        parts = λ server q x within op is. let o = k.parts server q x within op is in (λ j p lt. let x = get_or (v.desks server).parts j p in part-kept server q x x.state (o j p lt));
        on_way = at-actor s v v2 g g2 n c other i m v.ways v2.ways (λ a o. (w : RowWay) → o ≡ Some w → IsOnWay v.history v.images g.placed g.path w) m.ways_off
            (λ w is. let o = k.on_way n m.way m.was in
            subst (IsOnWay v.history v.images g.placed g.path) (sym (my-way s v v2 g g2 n c other i m w is))
            (record { known = o.known; lead = o.lead; passed = o.passed ∙ sym passed; came = λ e. o.came (sym passed ∙ e) }))
            (λ a ne w is. k.on_way a w is);
      }

  -- Queries.

  pinned-whole : (a d : ℕ) (p : ReadPart) → a < actor_count s → v.reads a ≡ Some p → p.reading.pin ≡ Some d → IsWhole v.gates v.phases v.pins d
  pinned-whole a d p few is pin =
      let one : ◌≡◌ {A = ℕ} (pins_of d (v.reads a)) 1 = ap (pins_of d) is ∙ ap (one_pin d) pin ∙ (rw (eqb-self d) refl) in
      let some = sum-some (actor_count s) (λ b. pins_of d (v.reads b)) a few in
      let all = i.pinning.counts d in
      (subst IsSome (sym (i.pinning.shard a d p is pin)) refl, inr (omega arith))

  walk-kept : (a : ℕ) (p : ReadPart) → v.reads a ≡ Some p → a < actor_count s → (of : ℕ) (q : Query) (counted : List ℕ)
      → ((g.shape c).placed r ≡ false → (times r counted ≡ 0) × (must_hold s.hierarchy v.history of q r ≡ false)) → (pin : Option ℕ) → p.reading.pin ≡ pin
      → IsWalk s v.history v.row v.blocks v.trees g.shape of q counted p.reading pin → IsWalk s v.history v.row v2.blocks v2.trees g2.shape of q counted p.reading pin
  walk-kept a p is few of q counted unasked None e w = w
  walk-kept a p is few of q counted unasked (Some d) e w = (
    w.0,
    by_gate
        (λ d z. p.reading.pin ≡ Some d → IsUnfinished (g.shape d) (nodes (cells_at v.blocks v.trees d)) (must_hold s.hierarchy v.history of q) (fits (table_of s v.row) q.filter) p.reading.items counted
        → IsUnfinished z (nodes (cells_at v2.blocks v2.trees d)) (must_hold s.hierarchy v.history of q) (fits (table_of s v.row) q.filter) p.reading.items counted)
        (λ e u. m.moved.queries (must_hold s.hierarchy v.history of q) (fits (table_of s v.row) q.filter) p.reading.items counted (waits a p is) unasked u)
        (λ d nd e u. (others s v v2 g g2 n c other i m d nd (pinned-whole a d p few is e)).queries (must_hold s.hierarchy v.history of q) (fits (table_of s v.row) q.filter) p.reading.items counted u)
        d e w.1,
  )
    where
      waits : (a : ℕ) (p : ReadPart) → v.reads a ≡ Some p → Each (λ (x : Spare). NoneWaits x.stamp p.reading.items) m.used
      waits a p is = each-map (λ (x : Spare). NoneWaits x.stamp (all_items v.reads v.jobs a)) (λ (x : Spare). NoneWaits x.stamp p.reading.items) m.used
          (λ x e. subst (NoneWaits x.stamp) (ap items_of_read is) (each-left (λ (y : Item). y.stamp ≢ x.stamp) (items_of_read (v.reads a)) (items_of_job (v.jobs a)) e))
          (of-used s v v2 g g2 n c other i m (λ (x : Spare). NoneWaits x.stamp (all_items v.reads v.jobs a)) (i.stamping.waits n a))

  placed-on : (d q : ℕ) → (g.shape d).placed q ≡ true → (g2.shape d).placed q ≡ true
  placed-on d q = by_gate (λ d z. (g.shape d).placed q ≡ true → z.placed q ≡ true)
      (λ p. on_bool (eqb q r) (λ e. ap (g2.shape c).placed (eqb-true _ _ e) ∙ m.moved.here) (λ e. m.moved.placed q (eqb-false _ _ e) ∙ p)) (λ d nd p. p) d

  in-tree : (pin : Option ℕ) (q : ℕ) → IsInTreeOf g.shape pin q → IsInTreeOf g2.shape pin q
  in-tree None q e = e
  in-tree (Some d) q e = placed-on d q e

  -- each query has as right what it had; where the row is new in the tree, none has counted it and none has to hold it
  pub moved-querying : ((a : ℕ) (p : ReadPart) → v.reads a ≡ Some p → a < actor_count s)
      → ((a of : ℕ) (q : Query) (p : ReadPart) → v.reads a ≡ Some p → (v.desks p.server).op ≡ Some of → query_at v.history of ≡ Some q
      → (g.shape c).placed r ≡ false → (times r (g.counted p.server p.shard) ≡ 0) × (must_hold s.hierarchy v.history of q r ≡ false))
      → Querying s v.history v.row v2.blocks v2.trees v.desks v.taken v.reads g2.shape g.placed g.home g.counted
  moved-querying readers unasked =
      let k = i.querying in record {
        counts = k.counts;
        ends = k.ends;
        whole = k.whole;
        reading = λ a of q p is op asks. let o = k.reading a of q p is op asks in record {
          wanted = o.wanted;
          total = o.total;
          walk = walk-kept a p is (readers a p is) of q (g.counted p.server p.shard) (unasked a of q p is op asks) p.reading.pin refl o.walk;
          holds = λ x must fit under. elim (o.holds x must fit under) [ inl one ↦ inl one | inr there ↦ inr (in-tree p.reading.pin x there) ];
        };
        unread = k.unread;
      }

  -- Jobs.

  owner-job : (a : ℕ) (o : Owner) → is_in_job a o ≡ true → o ≡ InJob a
  owner-job a (InJob b) e = ap InJob (eqb-true b a e)
  owner-job a NotOfStock e = cc
  owner-job a Unused e = cc
  owner-job a AGate e = cc
  owner-job a (InTree d) e = cc
  owner-job a (InPurse b) e = cc

  spent-owner : (a : ℕ) → Each (λ (x : Spare). g.owner x.cell ≡ InJob a) (spent_of (v.jobs a))
  spent-owner a = each-cell (λ y. g.owner y ≡ InJob a) (spent_of (v.jobs a)) (λ y h. owner-job a (g.owner y) (by-count y h))
    where
      by-count : (y : ℕ) → 1 ≤ times y (cells_of (spent_of (v.jobs a))) → is_in_job a (g.owner y) ≡ true
      by-count y h = on_bool (is_in_job a (g.owner y)) (λ q. q) (λ q. let k : times y (cells_of (spent_of (v.jobs a))) ≡ 0 = i.stocking.job a y ∙ ap (λ (b : Bool). cond b 1 0) q in absurd (omega arith))

  each-spent : (P : ℕ → Type 0) (fs : List Fresh) → Each (λ (x : Spare). P x.cell) (spent_by fs) → Each (λ (f : Fresh). P f.cell) fs
  each-spent P [] e = tt
  each-spent P (f ∷ fs) e = (e.0, each-spent P fs e.1)

  spent-right : (P : ℕ → Type 0) (xs ys : List Fresh) → Each (λ (x : Spare). P x.cell) (spent_by (xs ++ ys)) → Each (λ (x : Spare). P x.cell) (spent_by ys)
  spent-right P [] ys e = e
  spent-right P (x ∷ xs) ys e = spent-right P xs ys e.1

  -- the gate of a job's shard is whole
  job-whole : (a : ℕ) (j : JobValue) (f : FrozenFor) → v.jobs a ≡ Some j → frozen_in j.stage ≡ Some f → IsWhole v.gates v.phases v.pins f.gate
  job-whole a j f isj isf =
      let k = i.working.frozen a j f isj isf in
      let at = i.lineage.gate_of j.shard j.worker (i.working.front a j isj) in
      subst (IsWhole v.gates v.phases v.pins) (sym k.gate_is) (subst IsSome (sym at.1) refl, inl at.2)

  module _ (collects : CollectOtherLaw) (jobless : v.jobs n ≡ None)
      (busy : (d upto : ℕ) → v.phases d ≡ Some (Frozen upto) → v.active d ≡ 0 → d ≢ c)
      (frozen_trees : (d upto : ℕ) → v.phases d ≡ Some (Frozen upto) → v2.trees d ≡ v.trees d)
      (frozen_active : (d upto : ℕ) → v.phases d ≡ Some (Frozen upto) → v2.active d ≡ v.active d) where
    worker : (a : ℕ) (j : JobValue) → v.jobs a ≡ Some j → a ≢ n
    worker a j is e = (let z : Some j ≡ None = sym is ∙ ap v.jobs e ∙ jobless in cc)

    same-purse : (a : ℕ) (j : JobValue) → v.jobs a ≡ Some j → v2.purses a ≡ v.purses a
    same-purse a j is = m.purses_off a (worker a j is)

    -- what was read of the tree of another gate
    collecting-kept : (d : ℕ) (items : List Item) (read collected : List ℕ) → d ≢ c → IsWhole v.gates v.phases v.pins d
        → IsCollecting (cells_at v.blocks v.trees d) (g.shape d) items read collected → IsCollecting (cells_at v2.blocks v2.trees d) (g2.shape d) items read collected
    collecting-kept d items read collected nd w k = subst (λ (z : Shape). IsCollecting (cells_at v2.blocks v2.trees d) z items read collected) (sym (m.shape_off d nd))
        (collects (table_of s v.row) (g.shape d) (cells_at v.blocks v.trees d) (cells_at v2.blocks v2.trees d) items read collected (i.growing.tree d w) (leaves-others s v v2 g g2 n c other i m d nd w) k)

    frozen-kept : (a : ℕ) (j : JobValue) (f : FrozenFor) → v.jobs a ≡ Some j → frozen_in j.stage ≡ Some f → IsFrozenFor s v2.trees v.phases g.gate (v2.purses a) j f
    frozen-kept a j f isj isf =
        let k = i.working.frozen a j f isj isf in record {
          gate_is = k.gate_is;
          upto = k.upto;
          phase_is = k.phase_is;
          rows = k.rows ∙ ap (λ (t : Gate). t.agg.count + k.upto) (sym (frozen_trees f.gate k.upto k.phase_is));
          cells = ap (λ (ss : List Spare). length ss + length (spent_in j.stage)) (same-purse a j isj) ∙ k.cells;
          split = k.split;
          move = k.move;
          plane = k.plane;
        }

    collected-kept : (a : ℕ) (j : JobValue) (k : CollectingValue) → v.jobs a ≡ Some j → j.stage ≡ Collects k → IsCollected v.history v2.blocks v2.trees v.queues v.phases v2.active g2.shape k
    collected-kept a j k isj iss =
        let o = i.working.collected a j k isj iss in
        let isf : frozen_in j.stage ≡ Some k.frozen = ap frozen_in iss in
        let f = i.working.frozen a j k.frozen isj isf in
        record {
          drained = frozen_active k.frozen.gate f.upto f.phase_is ∙ o.drained;
          at_blocks = o.at_blocks;
          named = o.named;
          rows = o.rows;
          collecting = collecting-kept k.frozen.gate k.items k.read (numbers o.at_blocks) (busy k.frozen.gate f.upto f.phase_is o.drained) (job-whole a j k.frozen isj isf) o.collecting;
          upto = o.upto;
          blocks_first = o.blocks_first;
        }

    building-kept : (a : ℕ) (j : JobValue) (b : BuildingValue) → v.jobs a ≡ Some j → j.stage ≡ Builds b → IsBuilding s v.history v2.blocks v2.made v2.trees v.queues v.phases v2.active g2.shape (v2.purses a) b
    building-kept a j b isj iss =
        let o = i.working.building a j b isj iss in
        let isf : frozen_in j.stage ≡ Some b.frozen = ap frozen_in iss in
        let spent : spent_of (v.jobs a) ≡ spent_by (b.unbuilt ++ o.built) = ap spent_of isj ∙ ap spent_in iss ∙ o.trees_are.spent in
        let own = each-spent (λ y. g.owner y ≡ InJob a) o.built (spent-right (λ y. g.owner y ≡ InJob a) b.unbuilt o.built (subst (Each (λ (x : Spare). g.owner x.cell ≡ InJob a)) spent (spent-owner a))) in
        record {
          drained = frozen_active b.frozen.gate o.upto o.phase_is ∙ o.drained;
          upto = o.upto;
          phase_is = o.phase_is;
          at_blocks = o.at_blocks;
          named = o.named;
          read = collecting-kept b.frozen.gate [] b.read (numbers o.at_blocks) (busy b.frozen.gate o.upto o.phase_is o.drained) (job-whole a j b.frozen isj isf) o.read;
          built = o.built;
          purse_was = o.purse_was;
          purse_now = o.purse_now;
          purse_is = o.purse_is ∙ sym (same-purse a j isj);
          trees_are = o.trees_are;
          in_cells = each-both (λ (f : Fresh). g.owner f.cell ≡ InJob a) (λ (f : Fresh). (v.blocks f.cell ≡ f.block) × (v.made f.cell ≡ true)) (λ (f : Fresh). (v2.blocks f.cell ≡ f.block) × (v2.made f.cell ≡ true)) o.built
              (λ f p e. (m.off f.cell (λ z. let q : InJob a ≡ InTree c = sym p ∙ z in cc) (λ z. let q : InJob a ≡ InPurse n = sym p ∙ z in cc) ∙ e.0, m.still f.cell e.1)) own o.in_cells;
        }

    pub moved-working : Working s v.history v2.blocks v2.made v2.trees v.phases v2.active v.queues v2.purses v.commands v.jobs g.gate g2.shape g.placed
    moved-working =
        let k = i.working in record {
          command = k.command;
          front = k.front;
          to = k.to;
          unspent = λ a j isj isf. same-purse a j isj ∙ k.unspent a j isj isf;
          declined = k.declined;
          frozen = frozen-kept;
          collected = collected-kept;
          building = building-kept;
        }
