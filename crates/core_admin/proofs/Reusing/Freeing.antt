-- A cell of a gate that is gone is free again: that of a block of its tree, or the gate's own. No query is pinned there, so its tree
-- isn't whole any more, and no part of the invariant speaks of it but the gate's list.
use Rattle.std.proofs.{Common.{◌≡◌, ◌≢◌, ℕ, ◌+◌, ◌^◌, ◌<◌, ◌≤◌, Bool, true, false, cond, eqb, [], length, Some, None, IsSome, refl, sym, ap, ◌∙◌, subst, ◌⊎◌, inl, inr, arith}, lemmas.Bool.{false≢true, eqb-true, eqb-false, ne_eqb, eq-eqb}}
use Rattle.cell_stock.specs.{Stock.{IsStock, cells_of}, declared.purse.Spare.Spare}
use Rattle.dim_hierarchy.specs.declared.row.Row.{Row}
use Rattle.dc_node.specs.declared.block.Block.{Block}
use Rattle.core_tree.specs.shard_store.specs.{Gate.IsQueueOf, declared.gate.Phase.TheVariants.{Frozen, Gone}, declared.queue.Queue.Queue}
use Rattle.list_words.specs.Counts.{Each, same, times}
use Rattle.list_words.proofs.{Times.{all-times, distinct-times}, Truth.{on_bool, eqb-self}}
use Rattle.core_tree.specs.tree_shape.specs.{Laws.OtherLaw, Shape.numbers}
use Rattle.core_tree.specs.volap_cell.specs.{Errands.{ReadPart, RowWay}, Ghost.{AGate, Ghost, InTree, NotOfStock, Owner, Unused, is_in_job, is_in_purse, is_in_tree, is_unused}, Growing.{Growing, Queueing, Resting}, Invariant.InvWith, Lineage.Lineage, Placing.Placing, Querying.{Pinning, Querying}, Reusing.Reusing, Setting.Setting, Stocking.{IsWhole, LeavesStamp, Stamping, Stocking, all_spares, spent_of}, Turning.{IsIn, Turning}, Values.JobValue, View.View, Working.Working}
use Rattle.core_tree.specs.volap_cell.proofs.{Histories.Standings.live-on, Views.Admin.by_reuse, Views.Seen.renewed}
use Rattle.core_admin.proofs.{Postponing.Returned.one, Untouched.{apart as apart-off, expects-off, querying-off, spares-off}}

-- The step as it is seen: the gate x is gone, nobody is pinned there, and the cell y is free now. It was a block's of the gate's tree
-- and is in its list no more, or it was the gate's own and the list was empty; then the administrator has the gate in its list no more.
pub record Freeing (s : Setting) (u v : View) (g : Ghost) : Type 0 where
  pub x : ℕ
  pub y : ℕ
  pub is_gate : IsSome (v.gates x)
  pub gone : v.phases x ≡ Some Gone
  pub unpinned : v.pins x ≡ 0
  pub what : ((g.owner y ≡ InTree x) × (y ≢ x)) ⊎ ((y ≡ x) × (v.gone x ≡ []))
  pub less : x ≢ y → (z : ℕ) → times z (u.gone x) + one (eqb z y) ≡ times z (v.gone x)
  -- the cell is free
  pub no_gate : u.gates y ≡ None
  pub no_phase : u.phases y ≡ None
  pub no_list : u.gone y ≡ []
  pub no_block : u.made y ≡ false
  -- all others
  pub gates_off : (c : ℕ) → c ≢ y → u.gates c ≡ v.gates c
  pub phases_off : (c : ℕ) → c ≢ y → u.phases c ≡ v.phases c
  pub trees_off : (c : ℕ) → c ≢ y → u.trees c ≡ v.trees c
  pub queues_off : (c : ℕ) → c ≢ y → u.queues c ≡ v.queues c
  pub blocks_off : (c : ℕ) → c ≢ y → u.blocks c ≡ v.blocks c
  pub made_off : (c : ℕ) → c ≢ y → u.made c ≡ v.made c
  pub active_same : (c : ℕ) → u.active c ≡ v.active c
  pub pins_same : (c : ℕ) → u.pins c ≡ v.pins c
  pub gone_off : (c : ℕ) → c ≢ y → c ≢ x → u.gone c ≡ v.gone c
  -- the administrator's list
  pub listed : Reusing v.roles u.phases u.gone_gates
  -- the stock
  pub counts : (z : ℕ) → times z u.stock.free ≡ times z v.stock.free + one (eqb z y)
  pub stamps : u.stock.stamps ≡ v.stock.stamps
  pub ids : u.stock.ids ≡ v.stock.ids
  pub all : u.stock.cells ≡ v.stock.cells

abbrev pub freed : ℕ → ℕ → Owner → Owner
freed y z o = cond (eqb z y) Unused o

module _ (s : Setting) (u v : View) (g : Ghost) (i : InvWith s v g) (m : Freeing s u v g) where
  abbrev Whole : ℕ → Type 0
  Whole c = IsWhole v.gates v.phases v.pins c

  abbrev Whole2 : ℕ → Type 0
  Whole2 c = IsWhole u.gates u.phases u.pins c

  abbrev owner2 : ℕ → Owner
  owner2 z = freed m.y z (g.owner z)

  gate-x : g.owner m.x ≡ AGate
  gate-x = i.stocking.gate m.x m.is_gate

  -- a cell by whether it is the one that is free now
  by-cell : (P : Owner → Type 0) (z : ℕ) → (z ≡ m.y → P Unused) → (z ≢ m.y → P (g.owner z)) → P (owner2 z)
  by-cell P z here there = on_bool (eqb z m.y)
      (λ q. subst (λ (b : Bool). P (cond b Unused (g.owner z))) (sym q) (here (eqb-true z m.y q)))
      (λ q. subst (λ (b : Bool). P (cond b Unused (g.owner z))) (sym q) (there (eqb-false z m.y q)))

  owner-off : (z : ℕ) → z ≢ m.y → owner2 z ≡ g.owner z
  owner-off z ne = ap (λ (b : Bool). cond b Unused (g.owner z)) (ne_eqb z m.y ne)

  -- it was a block's of the tree, or the gate's
  owner-was : (P : Owner → Type 0) → P (InTree m.x) → P AGate → P (g.owner m.y)
  owner-was P tree gate = elim m.what [
    | inl t ↦ subst P (sym t.0) tree
    | inr own ↦ subst P (sym (ap g.owner own.0 ∙ gate-x)) gate
  ]

  owner-here : (f : Owner → ℕ) → f (InTree m.x) ≡ 0 → f AGate ≡ 0 → (z : ℕ) → z ≡ m.y → f (g.owner z) ≡ 0
  owner-here f tree gate z is = ap (λ (k : ℕ). f (g.owner k)) is ∙ owner-was (λ o. f o ≡ 0) tree gate

  -- Whole trees.

  not-x : (c : ℕ) → Whole c → c ≢ m.x
  not-x c whole e = elim whole.1 [
    | inl stands ↦ stands (ap v.phases e ∙ m.gone)
    | inr pinned ↦ (let none = ap v.pins e ∙ m.unpinned in absurd (omega (arith, none, pinned)))
  ]

  not-y : (c : ℕ) → Whole c → c ≢ m.y
  not-y c whole e = elim m.what [
    | inl t ↦ (let no : AGate ≡ InTree m.x = sym (i.stocking.gate c whole.0) ∙ ap g.owner e ∙ t.0 in cc)
    | inr own ↦ not-x c whole (e ∙ own.0)
  ]

  -- what is a gate, or was one that stands, isn't the cell

  gate-not-y : (c : ℕ) → IsSome (u.gates c) → c ≢ m.y
  gate-not-y c is e = (let some : false ≡ true = subst IsSome (ap u.gates e ∙ m.no_gate) is in false≢true some)

  whole-back : (c : ℕ) → Whole2 c → Whole c
  whole-back c whole =
      let ne = gate-not-y c whole.0 in (
        subst IsSome (m.gates_off c ne) whole.0,
        elim whole.1 [ inl stands ↦ inl (λ gone. stands (m.phases_off c ne ∙ gone)) | inr pinned ↦ inr (subst (λ (k : ℕ). 1 ≤ k) (m.pins_same c) pinned) ],
      )

  -- a cell of a whole tree isn't it
  tree-off : (c z : ℕ) → Whole c → g.owner z ≡ InTree c → z ≢ m.y
  tree-off c z whole own e = elim m.what [
    | inl t ↦ (let both : InTree c ≡ InTree m.x = sym own ∙ ap g.owner e ∙ t.0 in let is : c ≡ m.x = cc in not-x c whole is)
    | inr o ↦ (let no : InTree c ≡ AGate = sym own ∙ ap g.owner (e ∙ o.0) ∙ gate-x in cc)
  ]

  -- nor is the gate of a block that isn't free yet
  its-gate-off : (c z : ℕ) → g.owner z ≡ InTree c → c ≢ m.y
  its-gate-off c z own e = elim m.what [
    | inl t ↦ (let no : AGate ≡ InTree m.x = sym (i.stocking.gate c (i.stocking.tree_back c z own).0) ∙ ap g.owner e ∙ t.0 in cc)
    | inr o ↦
        let at = i.stocking.gone_cells m.x m.gone z in
        let none : times z (v.gone m.x) ≡ 0 = ap (times z) o.1 in
        let some : one (is_in_tree m.x (g.owner z)) ≡ 1 = ap (λ (k : Owner). one (is_in_tree m.x k)) own ∙ ap one (ap (λ (k : ℕ). eqb k m.x) (e ∙ o.0) ∙ eqb-self m.x) in
        omega (arith, at, none, some)
  ]

  blocks-off : (z c : ℕ) → Whole c → g.owner z ≡ InTree c → u.blocks z ≡ v.blocks z
  blocks-off z c whole own = m.blocks_off z (tree-off c z whole own)

  trees-off : (c : ℕ) → Whole c → u.trees c ≡ v.trees c
  trees-off c whole = m.trees_off c (not-y c whole)

  -- Cells.

  few : (b : Bool) → one b ≤ 1
  few true = omega arith
  few false = omega arith

  uses : (z : ℕ) → times z u.stock.free ≡ one (is_unused (owner2 z))
  uses z =
      let counts = m.counts z in
      let free = i.stocking.unused z in
      by-cell (λ o. times z u.stock.free ≡ one (is_unused o)) z
      (λ e.
      let none = owner-here (λ o. one (is_unused o)) refl refl z e in
      let it : one (eqb z m.y) ≡ 1 = ap one (eq-eqb z m.y e) in omega (arith, counts, free, none, it))
      (λ ne. let it : one (eqb z m.y) ≡ 0 = ap one (ne_eqb z m.y ne) in omega (arith, counts, free, it))

  of-stock : (z : ℕ) → owner2 z ≢ NotOfStock → g.owner z ≢ NotOfStock
  of-stock z = by-cell (λ o. o ≢ NotOfStock → g.owner z ≢ NotOfStock) z
      (λ e ne own. owner-was (λ o. o ≢ NotOfStock) (λ k. cc) (λ k. cc) (ap g.owner (sym e) ∙ own))
      (λ off ne. ne)

  stock-valid : IsStock u.stock
  stock-valid = record {
    known = all-times (λ z. z < u.stock.cells) u.stock.free (λ z some.
        let stocked : owner2 z ≢ NotOfStock = (λ e. let none : one (is_unused (owner2 z)) ≡ 0 = ap (λ (o : Owner). one (is_unused o)) e in let k = uses z in absurd (omega (arith, none, k, some))) in
        let lt = (i.stocking.within z (of-stock z stocked)).1 in
        let a = m.all in let b = i.stocking.count in omega (arith, lt, a, b));
    once = distinct-times u.stock.free (λ z. let k = uses z in let l = few (is_unused (owner2 z)) in omega (arith, k, l));
    stamps = subst (λ (k : ℕ). k < 2 ^ 63) (sym m.stamps) i.stocking.valid.stamps;
    ids = subst (λ (k : ℕ). k < 2 ^ 32) (sym m.ids) i.stocking.valid.ids;
  }

  -- the gate's list, where the cell is a block's
  list-less : m.x ≢ m.y → (z : ℕ) → times z (u.gone m.x) ≡ one (is_in_tree m.x (owner2 z))
  list-less ne z =
      let less = m.less ne z in
      let was = i.stocking.gone_cells m.x m.gone z in
      by-cell (λ o. times z (u.gone m.x) ≡ one (is_in_tree m.x o)) z
      (λ e. let it : one (eqb z m.y) ≡ 1 = ap one (eq-eqb z m.y e) in let at = few (is_in_tree m.x (g.owner z)) in omega (arith, less, was, it, at))
      (λ off. let it : one (eqb z m.y) ≡ 0 = ap one (ne_eqb z m.y off) in omega (arith, less, was, it))

  pub freed-stocking : Stocking s u.stock u.made u.gates u.phases u.pins u.gone v.purses v.jobs owner2 g.shape
  freed-stocking =
      let k = i.stocking in record {
        valid = stock-valid;
        count = m.all ∙ k.count;
        within = λ z ne. k.within z (of-stock z ne);
        every = λ z high low. by-cell (λ o. o ≢ NotOfStock) z (λ e no. cc) (λ ne no. k.every z high low no);
        unused = uses;
        purse = λ a z. by-cell (λ o. times z (cells_of (v.purses a)) ≡ one (is_in_purse a o)) z (λ e. k.purse a z ∙ owner-here (λ o. one (is_in_purse a o)) refl refl z e) (λ ne. k.purse a z);
        job = λ a z. by-cell (λ o. times z (cells_of (spent_of (v.jobs a))) ≡ one (is_in_job a o)) z (λ e. k.job a z ∙ owner-here (λ o. one (is_in_job a o)) refl refl z e) (λ ne. k.job a z);
        gate = λ c is. let ne = gate-not-y c is in owner-off c ne ∙ k.gate c (subst IsSome (m.gates_off c ne) is);
        gate_back = λ c. by-cell (λ o. o ≡ AGate → IsSome (u.gates c)) c (λ e own. let no : Unused ≡ AGate = own in cc) (λ ne own. subst IsSome (sym (m.gates_off c ne)) (k.gate_back c own));
        tree = λ c z whole inside ne.
            let o = k.tree c z (whole-back c whole) inside ne in
            let off = tree-off c z (whole-back c whole) o.0 in
            (owner-off z off ∙ o.0, m.made_off z off ∙ o.1);
        tree_back = λ c z. by-cell (λ o. o ≡ InTree c → IsSome (u.gates c) × (Whole2 c → ((g.shape c).inside z ≡ true) × (z ≢ c))) z
            (λ e own. let no : Unused ≡ InTree c = own in cc)
            (λ ne own. let o = k.tree_back c z own in (subst IsSome (sym (m.gates_off c (its-gate-off c z own))) o.0, λ whole. o.1 (whole-back c whole)));
        gone_cells = λ c is z.
            let ne : c ≢ m.y = (λ e. let no : None ≡ Some Gone = sym (ap u.phases e ∙ m.no_phase) ∙ is in cc) in
            on_bool (eqb c m.x)
            (λ q.
            let e = eqb-true c m.x q in
            subst (λ (x : ℕ). times z (u.gone x) ≡ one (is_in_tree x (owner2 z))) (sym e) (list-less (λ at. ne (e ∙ at)) z))
            (λ q.
            let off = eqb-false c m.x q in
            let was = k.gone_cells c (sym (m.phases_off c ne) ∙ is) z in
            ap (times z) (m.gone_off c ne off)
            ∙ by-cell (λ o. times z (v.gone c) ≡ one (is_in_tree c o)) z (λ e. was ∙ owner-here (λ o. one (is_in_tree c o)) (ap one (ne_eqb m.x c (λ at. off (sym at)))) refl z e) (λ no. was));
        none_gone = λ c stands. on_bool (eqb c m.y)
            (λ q. ap u.gone (eqb-true c m.y q) ∙ m.no_list)
            (λ q.
            let ne = eqb-false c m.y q in
            let was : v.phases c ≢ Some Gone = (λ e. stands (m.phases_off c ne ∙ e)) in
            m.gone_off c ne (λ e. was (ap v.phases e ∙ m.gone)) ∙ k.none_gone c was);
      }

  -- Trees.

  pub freed-growing : OtherLaw → Growing s v.row u.blocks u.trees u.gates u.phases u.pins g.shape
  freed-growing other = record { tree = λ c whole. (apart-off s v g other i u.blocks u.trees blocks-off trees-off c (whole-back c whole)).tree }

  -- a block that is there was there, and is as it was
  was-made : (z : ℕ) → u.made z ≡ true → (v.made z ≡ true) × (u.blocks z ≡ v.blocks z)
  was-made z made =
      let ne : z ≢ m.y = (λ e. let no : false ≡ true = sym m.no_block ∙ ap u.made (sym e) ∙ made in cc) in
      (sym (m.made_off z ne) ∙ made, m.blocks_off z ne)

  pub freed-querying : OtherLaw → ((a d : ℕ) (p : ReadPart) → v.reads a ≡ Some p → p.reading.pin ≡ Some d → Whole d) → Querying s v.history v.row u.blocks u.trees v.desks v.taken v.reads g.shape g.placed g.home g.counted
  freed-querying other pinned = querying-off s v g other i u.blocks u.trees blocks-off trees-off pinned

  pub freed-stamping : OtherLaw → Stamping u.stock u.blocks u.made u.trees u.gates u.phases u.pins v.purses v.reads v.jobs g.shape
  freed-stamping other =
      let k = i.stamping in record {
        blocks_given = λ z made.
            let was = was-made z made in
            subst (λ (b : Block). b.stamp < u.stock.stamps) (sym was.1) (subst (λ (t : ℕ). (v.blocks z).stamp < t) (sym m.stamps) (k.blocks_given z was.0));
        blocks_apart = λ y z ne my mz.
            let one = was-made y my in
            let two = was-made z mz in
            λ e. k.blocks_apart y z ne one.0 two.0 (sym (ap (λ (b : Block). b.stamp) one.1) ∙ e ∙ ap (λ (b : Block). b.stamp) two.1);
        unspared = λ a z made.
            let was = was-made z made in
            subst (λ (b : Block). Each (LeavesStamp z b.stamp) (all_spares v.purses v.jobs a)) (sym was.1) (k.unspared a z was.0);
        given = λ a. subst (λ (t : ℕ). Each (λ (z : Spare). z.stamp < t) (all_spares v.purses v.jobs a)) (sym m.stamps) (k.given a);
        apart = k.apart;
        spare = λ a c whole. spares-off s v g other i u.blocks u.trees blocks-off trees-off c (whole-back c whole) (all_spares v.purses v.jobs a) (k.spare a c (whole-back c whole));
        waits = k.waits;
        fresh = λ c stamp whole le. expects-off s v g other i u.blocks u.trees blocks-off trees-off c stamp (whole-back c whole) (k.fresh c stamp (whole-back c whole) (subst (λ (t : ℕ). t ≤ stamp) m.stamps le));
        fresh_waits = λ b stamp le. k.fresh_waits b stamp (subst (λ (t : ℕ). t ≤ stamp) m.stamps le);
      }

  pub freed-queueing : Queueing s v.row u.gates u.phases u.queues
  freed-queueing = record {
    queue = λ c is. let ne = gate-not-y c is in subst (IsQueueOf s.hierarchy) (sym (m.queues_off c ne)) (i.queueing.queue c (subst IsSome (m.gates_off c ne) is));
    named = λ c is. let ne = gate-not-y c is in subst (λ (q : Queue). Each (λ (r : Row). v.row r.no ≡ r) q.rows) (sym (m.queues_off c ne)) (i.queueing.named c (subst IsSome (m.gates_off c ne) is));
    upto = λ c k is.
        let ne : c ≢ m.y = (λ e. let no : None ≡ Some (Frozen k) = sym (ap u.phases e ∙ m.no_phase) ∙ is in cc) in
        subst (λ (q : Queue). k ≤ length q.rows) (sym (m.queues_off c ne)) (i.queueing.upto c k (sym (m.phases_off c ne) ∙ is));
  }

  pub freed-resting : Resting v.history u.gates u.phases g.shape g.placed g.home
  freed-resting = record {
    rests = λ c z r is gone placed.
        let ne = gate-not-y c (subst IsSome (sym is) refl) in
        i.resting.rests c z r (sym (m.gates_off c ne) ∙ is) (sym (m.phases_off c ne) ∙ gone) placed;
  }

  -- Shards.

  stands-off : (c z : ℕ) → v.gates c ≡ Some z → v.phases c ≢ Some Gone → c ≢ m.y
  stands-off c z is stands = not-y c (subst IsSome (sym is) refl, inl stands)

  pub freed-lineage : Lineage s v.history u.stock v.registry v.maps u.gates u.phases g.gate
  freed-lineage =
      let k = i.lineage in record {
        ids = m.ids ∙ k.ids;
        front = k.front;
        gate_of = λ z w on.
            let o = k.gate_of z w on in
            let ne = stands-off (g.gate z) z o.1 o.2 in
            (o.0, m.gates_off (g.gate z) ne ∙ o.1, λ gone. o.2 (sym (m.phases_off (g.gate z) ne) ∙ gone));
        known = k.known;
        live = λ c z is stands.
            let ne = gate-not-y c (subst IsSome (sym is) refl) in
            k.live c z (sym (m.gates_off c ne) ∙ is) (λ gone. stands (m.phases_off c ne ∙ gone));
        leads = k.leads;
        split = k.split;
        divided = k.divided;
        moved = k.moved;
        later = k.later;
        made = λ c z is. let ne = gate-not-y c (subst IsSome (sym is) refl) in k.made c z (sym (m.gates_off c ne) ∙ is);
      }

  pub freed-placing : Placing s v.history v.commands v.ways u.queues g.gate g.shape g.placed g.home g.path
  freed-placing =
      let k = i.placing in record {
        one = λ z r live.
            let on = live-on s v z live in
            let o = i.lineage.gate_of z on.0 on.1 in
            subst (λ (q : Queue). cond ((g.shape (g.gate z)).placed r) 1 0 + times r (numbers q.rows) ≡ cond (g.placed r) (same (g.home r) z) 0) (sym (m.queues_off (g.gate z) (stands-off (g.gate z) z o.1 o.2))) (k.one z r live);
        stands = k.stands;
        begun = k.begun;
        line = k.line;
        acked_rows = k.acked_rows;
        others = k.others;
      }

  -- Inserts and queries.

  is-in : (w : RowWay) (c : ℕ) → IsIn v.phases g.gate g.shape g.home w c → IsIn u.phases g.gate g.shape g.home w c
  is-in w c o = record {
    stands = λ gone. on_bool (eqb c m.y)
        (λ q. let no : None ≡ Some Gone = sym (ap u.phases (eqb-true c m.y q) ∙ m.no_phase) ∙ gone in cc)
        (λ q. o.stands (sym (m.phases_off c (eqb-false c m.y q)) ∙ gone));
    gate_is = o.gate_is;
    placed = o.placed;
  }

  pub freed-turning : Turning s v.ways v.purses v.boxes u.phases u.active g.gate g.shape g.home
  freed-turning =
      let k = i.turning in record {
        one = k.one;
        carrying = λ a c z way has at. let o = k.carrying a c z way has at in (is-in way c o.0, o.1, o.2);
        in_leaf = λ a c way has at. let o = k.in_leaf a c way has at in (is-in way c o.0, o.1);
        carried = λ c r there placed carried. k.carried c r (λ none. on_bool (eqb c m.y)
            (λ q. there (ap u.phases (eqb-true c m.y q) ∙ m.no_phase))
            (λ q. there (m.phases_off c (eqb-false c m.y q) ∙ none))) placed carried;
        enough = k.enough;
        boxed = k.boxed;
        counts = λ c. m.active_same c ∙ k.counts c;
      }

  pub freed-pinning : ((a d : ℕ) (p : ReadPart) → v.reads a ≡ Some p → p.reading.pin ≡ Some d → Whole d) → Pinning s u.gates u.pins v.reads
  freed-pinning pinned = record {
    counts = λ c. m.pins_same c ∙ i.pinning.counts c;
    shard = λ a c p is pin. m.gates_off c (not-y c (pinned a c p is pin)) ∙ i.pinning.shard a c p is pin;
  }

  -- nobody has a job
  pub freed-working : ((a : ℕ) (j : JobValue) → v.jobs a ≡ Some j → ⊥) → Working s v.history u.blocks u.made u.trees u.phases u.active u.queues v.purses v.commands v.jobs g.gate g.shape g.placed
  freed-working none = record {
    command = λ a j is. absurd (none a j is);
    front = λ a j is. absurd (none a j is);
    to = λ a worker j is. absurd (none a j is);
    unspent = λ a j is. absurd (none a j is);
    declined = λ a j c why is. absurd (none a j is);
    frozen = λ a j f is. absurd (none a j is);
    collected = λ a j k is. absurd (none a j is);
    building = λ a j b is. absurd (none a j is);
  }

  pub freed-holds : OtherLaw → ((a d : ℕ) (p : ReadPart) → v.reads a ≡ Some p → p.reading.pin ≡ Some d → Whole d) → ((a : ℕ) (j : JobValue) → v.jobs a ≡ Some j → ⊥) → InvWith s (renewed by_reuse u v) (record g { owner = owner2 })
  freed-holds other pinned none = record {
    numbering = i.numbering;
    telling = i.telling;
    owing = i.owing;
    turning = freed-turning;
    stocking = freed-stocking;
    stamping = freed-stamping other;
    lineage = freed-lineage;
    leading = i.leading;
    growing = freed-growing other;
    queueing = freed-queueing;
    resting = freed-resting;
    placing = freed-placing;
    inserting = i.inserting;
    imaging = i.imaging;
    covering = i.covering;
    desking = i.desking;
    pinning = freed-pinning pinned;
    querying = freed-querying other pinned;
    working = freed-working none;
    balancing = i.balancing;
    reusing = m.listed;
  }
