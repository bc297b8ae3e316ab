-- A shard's gate is retired, and open gates with trees that a job has built take its place: one after a move, and two after a split.
-- What becomes of cells: their uses, the trees, the queues, and the inserts that are in trees.
use Rattle.std.proofs.{Common.{◌≡◌, ◌≢◌, ℕ, ◌+◌, ◌^◌, ◌<◌, ◌≤◌, Bool, true, false, cond, eqb, [], Some, IsSome, refl, sym, ap, ◌∙◌, subst, ◌⊎◌, inl, inr, arith}, lemmas.Bool.{false≢true, eqb-true, eqb-false, ne_eqb}}
use Rattle.cell_stock.specs.{Stock.{IsStock, cells_of}, declared.purse.Spare.Spare}
use Rattle.core_tree.specs.shard_store.specs.{Gate.IsQueueOf, declared.gate.Phase.TheVariants.{Frozen, Gone, Open}}
use Rattle.list_words.specs.Counts.{Among, Each, times}
use Rattle.list_words.proofs.{Times.{all-times, distinct-times}, Truth.{on_bool, eqb-self}}
use Rattle.core_tree.specs.tree_shape.specs.{Shape.{Shape, nodes}, Trees.IsTree}
use Rattle.core_tree.specs.volap_cell.specs.{Ghost.{AGate, Ghost, InJob, InPurse, InTree, NotOfStock, Owner, Unused, is_in_job, is_in_purse, is_in_tree, is_unused}, Growing.table_of, Invariant.InvWith, Setting.Setting, Stocking.{IsWhole, Stocking, cells_at, items_of_job, spent_of}, View.View}
use Rattle.core_tree.proofs.Stocks.Spares.{in-own, other-purse}
use Rattle.core_admin.proofs.Postponing.Returned.{one}

-- What a cell of the actor's purse or job is for afterwards: free, or a block of the tree of the gate t.
abbrev pub given_to : ℕ → ℕ → Owner → Owner
given_to n t (InPurse a) = cond (eqb a n) Unused (InPurse a)
given_to n t (InJob a) = cond (eqb a n) (InTree t) (InJob a)
given_to n t NotOfStock = NotOfStock
given_to n t Unused = Unused
given_to n t AGate = AGate
given_to n t (InTree c) = InTree c

-- The step as it is seen: `new` are the cells of the new gates, `built` says of which one's tree a cell is that was meant for a block.
pub record Retiring (s : Setting) (v v2 : View) (g g2 : Ghost) (n : ℕ) : Type 0 where
  pub new : ℕ → Bool
  pub shard_of : ℕ → ℕ
  pub built : ℕ → ℕ
  -- the old gate
  pub x : ℕ
  pub shard : ℕ
  pub upto : ℕ
  pub is_gate : v.gates x ≡ Some shard
  pub frozen : v.phases x ≡ Some (Frozen upto)
  pub drained : v.active x ≡ 0
  pub phase_x : v2.phases x ≡ Some Gone
  pub queue_x : (v2.queues x).rows ≡ []
  pub valid_x : IsQueueOf s.hierarchy (v2.queues x)
  pub read_x : (y : ℕ) → times y (v2.gone x) ≡ cond ((g.shape x).inside y) (cond (eqb y x) 0 1) 0
  -- the new gates
  pub purse_cell : (c : ℕ) → new c ≡ true → g.owner c ≡ InPurse n
  pub gate_new : (c : ℕ) → new c ≡ true → v2.gates c ≡ Some (shard_of c)
  pub phase_new : (c : ℕ) → new c ≡ true → v2.phases c ≡ Some Open
  pub active_new : (c : ℕ) → new c ≡ true → v2.active c ≡ 0
  pub pins_new : (c : ℕ) → new c ≡ true → v2.pins c ≡ 0
  pub gone_new : (c : ℕ) → new c ≡ true → v2.gone c ≡ []
  pub unmade : (c : ℕ) → new c ≡ true → v2.made c ≡ false
  pub valid_new : (c : ℕ) → new c ≡ true → IsQueueOf s.hierarchy (v2.queues c)
  pub named_new : (c : ℕ) → new c ≡ true → Each (λ r. v.row r.no ≡ r) (v2.queues c).rows
  -- there was no gate before
  pub blank : (c : ℕ) → new c ≡ true → (v.active c ≡ 0) × (v.pins c ≡ 0)
  -- their trees
  pub tree_new : (c : ℕ) → new c ≡ true → IsTree (table_of s v.row) (cells_at v2.blocks v2.trees c) (g2.shape c)
  pub settled : (c r : ℕ) → new c ≡ true → (g2.shape c).carried r ≡ false
  pub inside_new : (c y : ℕ) → new c ≡ true → (g2.shape c).inside y ≡ true → y ≢ c → (g.owner y ≡ InJob n) × (built y ≡ c) × (v2.made y ≡ true)
  pub leads : (c b l : ℕ) → new c ≡ true → (g2.shape c).inside b ≡ true → (g2.shape c).level b ≡ l + 1 → Each (λ e. (z : Spare) × Among z (spent_of (v.jobs n)) × (e.stamp ≡ z.stamp)) (nodes (cells_at v2.blocks v2.trees c) b).entries
  pub built_new : (y : ℕ) → g.owner y ≡ InJob n → (new (built y) ≡ true) × ((g2.shape (built y)).inside y ≡ true)
  -- all others
  pub gates_off : (c : ℕ) → new c ≡ false → v2.gates c ≡ v.gates c
  pub phases_off : (c : ℕ) → new c ≡ false → c ≢ x → v2.phases c ≡ v.phases c
  pub queues_off : (c : ℕ) → new c ≡ false → c ≢ x → v2.queues c ≡ v.queues c
  pub gone_off : (c : ℕ) → new c ≡ false → c ≢ x → v2.gone c ≡ v.gone c
  pub trees_off : (c : ℕ) → new c ≡ false → v2.trees c ≡ v.trees c
  pub active_off : (c : ℕ) → new c ≡ false → v2.active c ≡ v.active c
  pub pins_off : (c : ℕ) → new c ≡ false → v2.pins c ≡ v.pins c
  pub blocks_off : (y : ℕ) → new y ≡ false → v2.blocks y ≡ v.blocks y
  pub made_off : (y : ℕ) → new y ≡ false → v2.made y ≡ v.made y
  pub shape_off : (c : ℕ) → new c ≡ false → g2.shape c ≡ g.shape c
  pub owner : (y : ℕ) → g2.owner y ≡ cond (new y) AGate (given_to n (built y) (g.owner y))
  -- the stock, and the actor
  pub counts : (y : ℕ) → times y v2.stock.free + one (new y) ≡ times y v.stock.free + times y (cells_of (v.purses n))
  pub stamps : v2.stock.stamps ≡ v.stock.stamps
  pub ids_few : v2.stock.ids < 2 ^ 32
  pub all : v2.stock.cells ≡ v.stock.cells
  pub purse : v2.purses n ≡ []
  pub spent : spent_of (v2.jobs n) ≡ []
  pub items : items_of_job (v2.jobs n) ≡ []
  pub purses_off : (a : ℕ) → a ≢ n → v2.purses a ≡ v.purses a
  pub jobs_off : (a : ℕ) → a ≢ n → v2.jobs a ≡ v.jobs a

-- Owners.

unused-then : (n t : ℕ) (o : Owner) → one (is_unused (given_to n t o)) ≡ one (is_unused o) + one (is_in_purse n o)
unused-then n t NotOfStock = refl
unused-then n t Unused = refl
unused-then n t AGate = refl
unused-then n t (InTree c) = refl
unused-then n t (InPurse a) = on_bool (eqb a n) (λ q. rw q refl) (λ q. rw q refl)
unused-then n t (InJob a) = on_bool (eqb a n) (λ q. rw q refl) (λ q. rw q refl)

-- what is false of all that it can become is as before
other-then : (n t : ℕ) (f : Owner → Bool) → f Unused ≡ false → f (InTree t) ≡ false → f (InPurse n) ≡ false → f (InJob n) ≡ false → (o : Owner) → f (given_to n t o) ≡ f o
other-then n t f u k p j NotOfStock = refl
other-then n t f u k p j Unused = refl
other-then n t f u k p j AGate = refl
other-then n t f u k p j (InTree c) = refl
other-then n t f u k p j (InPurse a) = on_bool (eqb a n)
    (λ q. ap (λ (b : Bool). f (cond b Unused (InPurse a))) q ∙ u ∙ sym (ap (λ (z : ℕ). f (InPurse z)) (eqb-true a n q) ∙ p))
    (λ q. ap (λ (b : Bool). f (cond b Unused (InPurse a))) q)
other-then n t f u k p j (InJob a) = on_bool (eqb a n)
    (λ q. ap (λ (b : Bool). f (cond b (InTree t) (InJob a))) q ∙ k ∙ sym (ap (λ (z : ℕ). f (InJob z)) (eqb-true a n q) ∙ j))
    (λ q. ap (λ (b : Bool). f (cond b (InTree t) (InJob a))) q)

no-purse : (n t : ℕ) (o : Owner) → is_in_purse n (given_to n t o) ≡ false
no-purse n t NotOfStock = refl
no-purse n t Unused = refl
no-purse n t AGate = refl
no-purse n t (InTree c) = refl
no-purse n t (InPurse a) = on_bool (eqb a n) (λ q. ap (λ (b : Bool). is_in_purse n (cond b Unused (InPurse a))) q) (λ q. ap (λ (b : Bool). is_in_purse n (cond b Unused (InPurse a))) q ∙ q)
no-purse n t (InJob a) = on_bool (eqb a n) (λ q. ap (λ (b : Bool). is_in_purse n (cond b (InTree t) (InJob a))) q) (λ q. ap (λ (b : Bool). is_in_purse n (cond b (InTree t) (InJob a))) q)

no-job : (n t : ℕ) (o : Owner) → is_in_job n (given_to n t o) ≡ false
no-job n t NotOfStock = refl
no-job n t Unused = refl
no-job n t AGate = refl
no-job n t (InTree c) = refl
no-job n t (InPurse a) = on_bool (eqb a n) (λ q. ap (λ (b : Bool). is_in_job n (cond b Unused (InPurse a))) q) (λ q. ap (λ (b : Bool). is_in_job n (cond b Unused (InPurse a))) q)
no-job n t (InJob a) = on_bool (eqb a n) (λ q. ap (λ (b : Bool). is_in_job n (cond b (InTree t) (InJob a))) q) (λ q. ap (λ (b : Bool). is_in_job n (cond b (InTree t) (InJob a))) q ∙ q)

gate-was : (n t : ℕ) (o : Owner) → given_to n t o ≡ AGate → o ≡ AGate
gate-was n t NotOfStock e = e
gate-was n t Unused e = e
gate-was n t AGate e = e
gate-was n t (InTree c) e = e
gate-was n t (InPurse a) e = on_bool (eqb a n)
    (λ q. let no : Unused ≡ AGate = sym (ap (λ (b : Bool). cond b Unused (InPurse a)) q) ∙ e in cc)
    (λ q. sym (ap (λ (b : Bool). cond b Unused (InPurse a)) q) ∙ e)
gate-was n t (InJob a) e = on_bool (eqb a n)
    (λ q. let no : InTree t ≡ AGate = sym (ap (λ (b : Bool). cond b (InTree t) (InJob a)) q) ∙ e in cc)
    (λ q. sym (ap (λ (b : Bool). cond b (InTree t) (InJob a)) q) ∙ e)

stock-was : (n t : ℕ) (o : Owner) → given_to n t o ≡ NotOfStock → o ≡ NotOfStock
stock-was n t NotOfStock e = e
stock-was n t Unused e = e
stock-was n t AGate e = e
stock-was n t (InTree c) e = e
stock-was n t (InPurse a) e = on_bool (eqb a n)
    (λ q. let no : Unused ≡ NotOfStock = sym (ap (λ (b : Bool). cond b Unused (InPurse a)) q) ∙ e in cc)
    (λ q. sym (ap (λ (b : Bool). cond b Unused (InPurse a)) q) ∙ e)
stock-was n t (InJob a) e = on_bool (eqb a n)
    (λ q. let no : InTree t ≡ NotOfStock = sym (ap (λ (b : Bool). cond b (InTree t) (InJob a)) q) ∙ e in cc)
    (λ q. sym (ap (λ (b : Bool). cond b (InTree t) (InJob a)) q) ∙ e)

tree-was : (n t c : ℕ) (o : Owner) → given_to n t o ≡ InTree c → (o ≡ InTree c) ⊎ ((o ≡ InJob n) × (t ≡ c))
tree-was n t c NotOfStock e = inl e
tree-was n t c Unused e = inl e
tree-was n t c AGate e = inl e
tree-was n t c (InTree d) e = inl e
tree-was n t c (InPurse a) e = on_bool (eqb a n)
    (λ q. let no : Unused ≡ InTree c = sym (ap (λ (b : Bool). cond b Unused (InPurse a)) q) ∙ e in cc)
    (λ q. inl (sym (ap (λ (b : Bool). cond b Unused (InPurse a)) q) ∙ e))
tree-was n t c (InJob a) e = on_bool (eqb a n)
    (λ q. let both : InTree t ≡ InTree c = sym (ap (λ (b : Bool). cond b (InTree t) (InJob a)) q) ∙ e in inr (ap InJob (eqb-true a n q), cc))
    (λ q. inl (sym (ap (λ (b : Bool). cond b (InTree t) (InJob a)) q) ∙ e))

given-job : (n t : ℕ) → given_to n t (InJob n) ≡ InTree t
given-job n t = rw (eqb-self n) refl

module _ (s : Setting) (v v2 : View) (g g2 : Ghost) (n : ℕ) (i : InvWith s v g) (m : Retiring s v v2 g g2 n) where
  -- a cell with another use isn't a new gate's

  pub not-new : (y : ℕ) → g.owner y ≢ InPurse n → m.new y ≡ false
  not-new y ne = on_bool (m.new y) (λ q. absurd (ne (m.purse_cell y q))) (λ q. q)

  pub gate-old : (c : ℕ) → IsSome (v.gates c) → m.new c ≡ false
  gate-old c is = not-new c (λ e. let no : InPurse n ≡ AGate = sym e ∙ i.stocking.gate c is in cc)

  pub x-old : m.new m.x ≡ false
  x-old = gate-old m.x (subst IsSome (sym m.is_gate) refl)

  owner-new : (y : ℕ) → m.new y ≡ true → g2.owner y ≡ AGate
  owner-new y q = m.owner y ∙ ap (λ (b : Bool). cond b AGate (given_to n (m.built y) (g.owner y))) q

  owner-old : (y : ℕ) → m.new y ≡ false → g2.owner y ≡ given_to n (m.built y) (g.owner y)
  owner-old y q = m.owner y ∙ ap (λ (b : Bool). cond b AGate (given_to n (m.built y) (g.owner y))) q

  -- a cell by whether it is a new gate's
  by-new : (P : Owner → Type 0) (y : ℕ) → (m.new y ≡ true → P AGate) → (m.new y ≡ false → P (given_to n (m.built y) (g.owner y))) → P (g2.owner y)
  by-new P y new old = on_bool (m.new y) (λ q. subst P (sym (owner-new y q)) (new q)) (λ q. subst P (sym (owner-old y q)) (old q))

  -- Which trees are whole.

  pub old-whole : IsWhole v.gates v.phases v.pins m.x
  old-whole = (subst IsSome (sym m.is_gate) refl, inl (λ e. let no : Some (Frozen m.upto) ≡ Some Gone = sym m.frozen ∙ e in cc))

  pub whole-back : (c : ℕ) → m.new c ≡ false → IsWhole v2.gates v2.phases v2.pins c → IsWhole v.gates v.phases v.pins c
  whole-back c q w = on_bool (eqb c m.x)
      (λ e. subst (IsWhole v.gates v.phases v.pins) (sym (eqb-true c m.x e)) old-whole)
      (λ e. let ne = eqb-false c m.x e in (
        subst IsSome (m.gates_off c q) w.0,
        elim w.1 [ inl stands ↦ inl (λ gone. stands (m.phases_off c q ne ∙ gone)) | inr pinned ↦ inr (subst (λ (k : ℕ). 1 ≤ k) (m.pins_off c q) pinned) ],
      ))

  -- Cells.

  uses : (y : ℕ) → times y v2.stock.free ≡ one (is_unused (g2.owner y))
  uses y =
      let counts = m.counts y in
      let free = i.stocking.unused y in
      let mine = i.stocking.purse n y in
      by-new (λ o. times y v2.stock.free ≡ one (is_unused o)) y
      (λ q.
      let is = m.purse_cell y q in
      let a : one (is_unused (g.owner y)) ≡ 0 = ap (λ (o : Owner). one (is_unused o)) is in
      let b : one (is_in_purse n (g.owner y)) ≡ 1 = ap (λ (o : Owner). one (is_in_purse n o)) is ∙ in-own n in
      let c : one (m.new y) ≡ 1 = ap one q in omega (arith, counts, free, mine, a, b, c))
      (λ q.
      let u = unused-then n (m.built y) (g.owner y) in
      let c : one (m.new y) ≡ 0 = ap one q in omega (arith, counts, free, mine, u, c))

  few : (b : Bool) → one b ≤ 1
  few true = omega arith
  few false = omega arith

  pub no-stock : (y : ℕ) → g2.owner y ≢ NotOfStock → g.owner y ≢ NotOfStock
  no-stock y = by-new (λ o. o ≢ NotOfStock → g.owner y ≢ NotOfStock) y
      (λ q ne e. let no : InPurse n ≡ NotOfStock = sym (m.purse_cell y q) ∙ e in cc)
      (λ q ne e. ne (ap (given_to n (m.built y)) e))

  stock-valid : IsStock v2.stock
  stock-valid = record {
    known = all-times (λ y. y < v2.stock.cells) v2.stock.free (λ y some.
        let of_stock : g2.owner y ≢ NotOfStock = (λ e. let none : one (is_unused (g2.owner y)) ≡ 0 = ap (λ (o : Owner). one (is_unused o)) e in let k = uses y in absurd (omega (arith, none, k, some))) in
        let lt = (i.stocking.within y (no-stock y of_stock)).1 in
        let a = m.all in let b = i.stocking.count in omega (arith, lt, a, b));
    once = distinct-times v2.stock.free (λ y. let k = uses y in let l = few (is_unused (g2.owner y)) in omega (arith, k, l));
    stamps = subst (λ (k : ℕ). k < 2 ^ 63) (sym m.stamps) i.stocking.valid.stamps;
    ids = m.ids_few;
  }

  tree-kept : (c : ℕ) (y : ℕ) → m.new c ≡ false → is_in_tree c (g2.owner y) ≡ is_in_tree c (g.owner y)
  tree-kept c y old = by-new (λ o. is_in_tree c o ≡ is_in_tree c (g.owner y)) y
      (λ q. sym (ap (is_in_tree c) (m.purse_cell y q)))
      (λ q. job-or-not (m.built y) (g.owner y) (λ is. (m.built_new y is).0))
    where
      job-or-not : (t : ℕ) (o : Owner) → (o ≡ InJob n → m.new t ≡ true) → is_in_tree c (given_to n t o) ≡ is_in_tree c o
      job-or-not t NotOfStock new = refl
      job-or-not t Unused new = refl
      job-or-not t AGate new = refl
      job-or-not t (InTree d) new = refl
      job-or-not t (InPurse a) new = on_bool (eqb a n) (λ q. ap (λ (b : Bool). is_in_tree c (cond b Unused (InPurse a))) q) (λ q. ap (λ (b : Bool). is_in_tree c (cond b Unused (InPurse a))) q)
      job-or-not t (InJob a) new = on_bool (eqb a n)
          (λ q. ap (λ (b : Bool). is_in_tree c (cond b (InTree t) (InJob a))) q ∙ ne_eqb t c (λ e. false≢true (sym old ∙ ap m.new (sym e) ∙ new (ap InJob (eqb-true a n q)))))
          (λ q. ap (λ (b : Bool). is_in_tree c (cond b (InTree t) (InJob a))) q)

  gone-then : (c : ℕ) → v2.phases c ≡ Some Gone → (y : ℕ) → times y (v2.gone c) ≡ one (is_in_tree c (g2.owner y))
  gone-then c gone y = on_bool (m.new c)
      (λ q. let no : Some Open ≡ Some Gone = sym (m.phase_new c q) ∙ gone in cc)
      (λ q. on_bool (eqb c m.x)
      (λ e.
      let is = eqb-true c m.x e in
      subst (λ (z : ℕ). times y (v2.gone z) ≡ one (is_in_tree z (g2.owner y))) (sym is) (m.read_x y ∙ read-owner y ∙ sym (ap one (tree-kept m.x y x-old))))
      (λ e.
      let ne = eqb-false c m.x e in
      ap (times y) (m.gone_off c q ne) ∙ i.stocking.gone_cells c (sym (m.phases_off c q ne) ∙ gone) y ∙ sym (ap one (tree-kept c y q))))
    where
      in-tree : (c : ℕ) (o : Owner) → is_in_tree c o ≡ true → o ≡ InTree c
      in-tree c (InTree d) e = ap InTree (eqb-true d c e)
      in-tree c NotOfStock e = cc
      in-tree c Unused e = cc
      in-tree c AGate e = cc
      in-tree c (InPurse a) e = cc
      in-tree c (InJob a) e = cc

      read-owner : (y : ℕ) → cond ((g.shape m.x).inside y) (cond (eqb y m.x) 0 1) 0 ≡ one (is_in_tree m.x (g.owner y))
      read-owner y = on_bool ((g.shape m.x).inside y)
          (λ q. on_bool (eqb y m.x)
          (λ e.
          let own : is_in_tree m.x (g.owner y) ≡ false = ap (is_in_tree m.x) (ap g.owner (eqb-true y m.x e) ∙ i.stocking.gate m.x old-whole.0) in
          rw (q, e, own) refl)
          (λ e.
          let own : is_in_tree m.x (g.owner y) ≡ true = ap (is_in_tree m.x) (i.stocking.tree m.x y old-whole q (eqb-false y m.x e)).0 ∙ eqb-self m.x in
          rw (q, e, own) refl))
          (λ q. on_bool (is_in_tree m.x (g.owner y))
          (λ own. absurd (false≢true (sym q ∙ ((i.stocking.tree_back m.x y (in-tree m.x (g.owner y) own)).1 old-whole).0)))
          (λ own. rw (q, own) refl))

  pub retired-stocking : Stocking s v2.stock v2.made v2.gates v2.phases v2.pins v2.gone v2.purses v2.jobs g2.owner g2.shape
  retired-stocking =
      let k = i.stocking in record {
        valid = stock-valid;
        count = m.all ∙ k.count;
        within = λ y ne. k.within y (no-stock y ne);
        every = λ y high low. by-new (λ o. o ≢ NotOfStock) y (λ q e. cc) (λ q e. k.every y high low (stock-was n (m.built y) (g.owner y) e));
        unused = uses;
        purse = λ a y. on_bool (eqb a n)
            (λ q. let e = eqb-true a n q in
            subst (λ (z : ℕ). times y (cells_of (v2.purses z)) ≡ one (is_in_purse z (g2.owner y))) (sym e)
            (ap (λ ss. times y (cells_of ss)) m.purse ∙ sym (ap one (by-new (λ o. is_in_purse n o ≡ false) y (λ q. refl) (λ q. no-purse n (m.built y) (g.owner y))))))
            (λ q. let ne = eqb-false a n q in
            ap (λ ss. times y (cells_of ss)) (m.purses_off a ne) ∙ k.purse a y
            ∙ sym (ap one (by-new (λ o. is_in_purse a o ≡ is_in_purse a (g.owner y)) y
            (λ q. sym (ap (is_in_purse a) (m.purse_cell y q) ∙ other-purse a n ne))
            (λ q. other-then n (m.built y) (is_in_purse a) refl refl (other-purse a n ne) refl (g.owner y)))));
        job = λ a y. on_bool (eqb a n)
            (λ q. let e = eqb-true a n q in
            subst (λ (z : ℕ). times y (cells_of (spent_of (v2.jobs z))) ≡ one (is_in_job z (g2.owner y))) (sym e)
            (ap (λ ss. times y (cells_of ss)) m.spent ∙ sym (ap one (by-new (λ o. is_in_job n o ≡ false) y (λ q. refl) (λ q. no-job n (m.built y) (g.owner y))))))
            (λ q. let ne = eqb-false a n q in
            ap (λ j. times y (cells_of (spent_of j))) (m.jobs_off a ne) ∙ k.job a y
            ∙ sym (ap one (by-new (λ o. is_in_job a o ≡ is_in_job a (g.owner y)) y
            (λ q. sym (ap (is_in_job a) (m.purse_cell y q)))
            (λ q. other-then n (m.built y) (is_in_job a) refl refl refl (ne_eqb n a (λ e. ne (sym e))) (g.owner y)))));
        gate = λ c is. on_bool (m.new c) (owner-new c) (λ q. owner-old c q ∙ ap (given_to n (m.built c)) (k.gate c (subst IsSome (m.gates_off c q) is)));
        gate_back = λ c. by-new (λ o. o ≡ AGate → IsSome (v2.gates c)) c
            (λ q own. subst IsSome (sym (m.gate_new c q)) refl)
            (λ q own. subst IsSome (sym (m.gates_off c q)) (k.gate_back c (gate-was n (m.built c) (g.owner c) own)));
        tree = λ c y whole inside ne. on_bool (m.new c)
            (λ q.
            let o = m.inside_new c y q inside ne in
            let old = not-new y (λ e. let no : InPurse n ≡ InJob n = sym e ∙ o.0 in cc) in
            (owner-old y old ∙ ap (given_to n (m.built y)) o.0 ∙ given-job n (m.built y) ∙ ap InTree o.1, o.2))
            (λ q.
            let o = k.tree c y (whole-back c q whole) (subst (λ (z : Shape). z.inside y ≡ true) (m.shape_off c q) inside) ne in
            let old = not-new y (λ e. let no : InPurse n ≡ InTree c = sym e ∙ o.0 in cc) in
            (owner-old y old ∙ ap (given_to n (m.built y)) o.0, m.made_off y old ∙ o.1));
        tree_back = λ c y. by-new (λ o. o ≡ InTree c → IsSome (v2.gates c) × (IsWhole v2.gates v2.phases v2.pins c → ((g2.shape c).inside y ≡ true) × (y ≢ c))) y
            (λ q own. let no : AGate ≡ InTree c = own in cc)
            (λ q own. elim (tree-was n (m.built y) c (g.owner y) own) [
              | inl was ↦ (let o = k.tree_back c y was in let old = gate-old c o.0 in (
                subst IsSome (sym (m.gates_off c old)) o.0,
                λ whole. let z = o.1 (whole-back c old whole) in (subst (λ (z : Shape). z.inside y ≡ true) (sym (m.shape_off c old)) z.0, z.1),
              ))
              | inr of ↦
                  let b = m.built_new y of.0 in
                  let new : m.new c ≡ true = ap m.new (sym of.1) ∙ b.0 in
                  (subst IsSome (sym (m.gate_new c new)) refl, λ whole. (subst (λ (z : ℕ). (g2.shape z).inside y ≡ true) of.1 b.1, λ e. let no : InJob n ≡ InPurse n = sym of.0 ∙ ap g.owner e ∙ m.purse_cell c new in cc))
            ]);
        gone_cells = gone-then;
        none_gone = λ c stands. on_bool (m.new c)
            (m.gone_new c)
            (λ q. on_bool (eqb c m.x)
            (λ e. absurd (stands (ap v2.phases (eqb-true c m.x e) ∙ m.phase_x)))
            (λ e. let ne = eqb-false c m.x e in m.gone_off c q ne ∙ k.none_gone c (λ gone. stands (m.phases_off c q ne ∙ gone))));
      }
