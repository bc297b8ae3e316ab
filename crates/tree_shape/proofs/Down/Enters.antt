-- A row comes in at the gate, and goes down onto the root's head
use Rattle.std.proofs.{Common.{◌≡◌, ◌≢◌, ℕ, ◌+◌, ◌-◌, ◌<◌, true, false, cond, eqb, List, [], ◌∷◌, ◌++◌, refl, sym, ap, ◌∙◌, subst, arith}, lemmas.Bool.{eqb-true, eqb-false, ne_eqb, eq-eqb}}
use Rattle.dim_hierarchy.specs.Rows.{IsRowOf}
use Rattle.dc_node.specs.{Block.is_full, Entry.IsWithRow, declared.block.Block.Block, declared.entry.Entry.Entry}
use Rattle.cell_stock.specs.declared.purse.Spare.{Spare}
use Rattle.link_descent.specs.shard_store.specs.{Gate.root_entry, declared.gate.Gate.Gate}
use Rattle.link_descent.specs.Divide.{IsHalved}
use Rattle.tree_shape.specs.{Shape.{Node, Shape, Table, TreeCells, gate_node, nodes}, Steps.{AfterStep, AreSpares, IsIdle, IsSpare}, Trees.{BlockOk, IsTree, TreeOk}}
use Rattle.tree_shape.proofs.{Cutting.Relations.{Came, SameLinks, come}, Down.Comes.tree-came, Down.Descends.half-parts, Down.Onto.child_in, Down.Rows.query-came, Down.Settles.{after-pass, after-half}, Whole.Assembled.{node-gate, NearTree, block-kept}}
use Rattle.list_words.proofs.Truth.{on_bool}

pub same-entry : (e f : Entry) → e.child ≡ f.child → e.stamp ≡ f.stamp → e.agg ≡ f.agg → e.set ≡ f.set → e ≡ f
same-entry e f c s a t = λ i. record { child = c i; stamp = s i; agg = a i; set = t i }

-- a gate of the same tree, and an entry in the place of its root's
pub root-entry-now : (table : Table) (r : ℕ) (gate : Gate) (e2 : Entry) → IsWithRow table.hierarchy (table.row r) (root_entry gate) e2 → root_entry (record gate { agg = e2.agg; set = e2.set }) ≡ e2
root-entry-now table r gate e2 w = same-entry (root_entry (record gate { agg = e2.agg; set = e2.set })) e2 (sym w.child) (sym w.stamp) refl refl

all-spares : (g g1 : Shape) (look : ℕ → Node) (ss : List Spare) → ((s : Spare) → IsSpare g look s → IsSpare g1 look s) → AreSpares g look ss → AreSpares g1 look ss
all-spares g g1 look [] f h = tt
all-spares g g1 look (s ∷ ss) f h = (f s h.0, h.1, all-spares g g1 look ss f h.2)

module _ (table : Table) (g : Shape) (r : ℕ) (before now : TreeCells) (purse purse_now : List Spare)
    (tree : IsTree table before g) (new : g.placed r ≡ false) (number : (table.row r).no ≡ r) (valid : IsRowOf table.hierarchy (table.row r)) where
  abbrev gate : ℕ
  gate = before.gate_cell

  abbrev pub come-shape : Shape
  come-shape = come g r before.gate_cell

  off : {A : Type 0} (q : ℕ) (x y : A) → q ≢ r → cond (eqb q r) x y ≡ y
  off q x y h = rw (ne_eqb q r h) refl

  on : {A : Type 0} (x y : A) → cond (eqb r r) x y ≡ x
  on x y = rw (eq-eqb r r refl) refl

  came : Came g come-shape r gate
  came = record {
    tree = record { height = refl; inside = λ y. refl; level = λ y. refl; above = λ y l. refl };
    c_inside = tree.top;
    before = new;
    now_at = on gate (g.at r);
    placed = λ q h. off q true (g.placed q) h;
    carried = λ q h. off q true (g.carried q) h;
    at = λ q h. off q gate (g.at q) h;
  }

  same-links : SameLinks (nodes before) (nodes before)
  same-links = record { stamp = λ y. refl; right = λ y. refl }

  pub come-tree : TreeOk come-shape (nodes before) table
  come-tree = tree-came g come-shape (nodes before) (nodes before) table r gate tree.tree (record {
    came = came;
    now_placed = on true (g.placed r);
    now_carried = on true (g.carried r);
    top = (let a = tree.level in let b = tree.height in omega arith);
    group = λ h. refl;
    head = λ y. refl;
    below = λ h. refl;
    links = same-links;
    rows = λ y. refl;
    entries = λ y. refl;
  })

  near : NearTree table gate before.gate.height come-shape r
  near = record {
    top = tree.top;
    some = tree.some;
    height = tree.height;
    level = tree.level;
    only = tree.only;
    stands = come-tree.shape.stands;
    entered = λ q h p e. tree.entered q (sym (came.placed q h) ∙ p) (sym (came.at q h) ∙ e);
    heads = λ q h p c. rw (came.at q h) (tree.heads q (sym (came.placed q h) ∙ p) (sym (came.carried q h) ∙ c));
    alone = λ q s h h2 p c p2 c2 e. tree.alone q s (sym (came.placed q h) ∙ p) (sym (came.carried q h) ∙ c) (sym (came.placed s h2) ∙ p2) (sym (came.carried s h2) ∙ c2) (sym (came.at q h) ∙ e ∙ came.at s h2);
    numbered = λ q p. on_bool (eqb q r)
        (λ z. let e = eqb-true _ _ z in subst (λ y. ((table.row y).no ≡ y) × IsRowOf table.hierarchy (table.row y)) (sym e) (number, valid))
        (λ z. tree.numbered q (sym (came.placed q (eqb-false _ _ z)) ∙ p));
  }

  pub come-spare : (s : Spare) → IsSpare g (nodes before) s → IsSpare come-shape (nodes before) s
  come-spare s h = record { cell = h.cell; unexpected = h.unexpected }

  -- what is so after the row came in and went down is so after both
  pub after-both : (x l : ℕ) → AfterStep table come-shape r x l before now purse purse_now → AfterStep table g r x l before now purse purse_now
  after-both x l a = record {
    shape = a.shape;
    tree = a.tree;
    row = record {
      placed = a.row.placed;
      carried = a.row.carried;
      at = a.row.at;
      others_placed = λ q h. a.row.others_placed q h ∙ came.placed q h;
      others_carried = λ q h. a.row.others_carried q h ∙ came.carried q h;
      others_at = λ q h p c. a.row.others_at q h (came.placed q h ∙ p) (came.carried q h ∙ c) ∙ came.at q h;
    };
    level = a.level;
    levels = a.levels;
    used = a.used;
    purse_is = a.purse_is;
    inside = a.inside;
    filled = a.filled;
    spares = λ s u h. a.spares s u (come-spare s h);
    own = a.own;
    queries = λ must fits items counted u fresh h.
        let f = fresh new in
        a.queries must fits items counted u (λ z. let bad : true ≡ false = sym (on true (g.placed r)) ∙ z in cc) (record {
          noted = h.noted;
          are = h.are;
          ok = query-came g come-shape (nodes before) (nodes before) r gate must fits h.noted counted came same-links f.0 f.1 h.ok;
        });
  }

  look_gate : nodes before gate ≡ gate_node before.gate
  look_gate = node-gate before

  is : (nodes before gate).entries ≡ [] ++ root_entry before.gate ∷ []
  is = ap (λ (x : Node). x.entries) look_gate

  gate_up : g.level gate ≡ (before.gate.height - 1) + 1
  gate_up = let a = tree.level in let b = tree.some in omega arith

  pub root_in : (g.inside before.gate.root ≡ true) × (g.level before.gate.root ≡ before.gate.height - 1)
  root_in = child_in g (nodes before) table tree.tree gate (before.gate.height - 1) tree.top gate_up (root_entry before.gate) [] [] is

  module _ (gate_cell : now.gate_cell ≡ before.gate_cell) (gate_height : now.gate.height ≡ before.gate.height) (e2 : Entry) (w : IsWithRow table.hierarchy (table.row r) (root_entry before.gate) e2) (leads : root_entry now.gate ≡ e2)
      (idle : IsIdle g before.gate.root) (spares : AreSpares g (nodes before) purse) where
    look3_gate : nodes now gate ≡ gate_node now.gate
    look3_gate = ap (nodes now) (sym gate_cell) ∙ node-gate now

    is3 : (nodes now gate).entries ≡ ([] ++ e2 ∷ []) ++ []
    is3 = ap (λ (x : Node). x.entries) look3_gate ∙ ap (λ (x : Entry). x ∷ []) leads

    top_rows : (nodes now gate).rows ≡ (nodes before gate).rows
    top_rows = ap (λ (x : Node). x.rows) look3_gate ∙ sym (ap (λ (x : Node). x.rows) look_gate)

    top_stamp : (nodes now gate).stamp ≡ (nodes before gate).stamp
    top_stamp = ap (λ (x : Node). x.stamp) look3_gate ∙ sym (ap (λ (x : Node). x.stamp) look_gate)

    top_right : (nodes now gate).right ≡ (nodes before gate).right
    top_right = ap (λ (x : Node). x.right) look3_gate ∙ sym (ap (λ (x : Node). x.right) look_gate)

    old_blocks : (b : ℕ) → g.inside b ≡ true → b ≢ gate → BlockOk table come-shape b (before.block b)
    old_blocks b bi bg =
        let ok = tree.blocks b bi bg in
        block-kept table g come-shape b (before.block b) (before.block b) ok refl refl (λ q p c e. on_bool (eqb q r)
        (λ z. absurd (bg (sym e ∙ ap come-shape.at (eqb-true _ _ z) ∙ came.now_at)))
        (λ z. let h = eqb-false _ _ z in ok.room q (sym (came.placed q h) ∙ p) (sym (came.carried q h) ∙ c) (sym (came.at q h) ∙ e)))

    come-idle : IsIdle come-shape before.gate.root
    come-idle q p c e = on_bool (eqb q r)
        (λ z. let at_root : gate ≡ before.gate.root = sym came.now_at ∙ ap come-shape.at (sym (eqb-true _ _ z)) ∙ e in
        let l1 = ap g.level at_root in let l2 = root_in.1 in let l3 = gate_up in absurd (omega arith))
        (λ z. let h = eqb-false _ _ z in idle q (sym (came.placed q h) ∙ p) (sym (came.carried q h) ∙ c) (sym (came.at q h) ∙ e))

    low : before.gate.height - 1 < before.gate.height
    low = let b = tree.some in omega arith

    pub enters-pass : purse_now ≡ purse → is_full (before.block before.gate.root).body ≡ false → ((y : ℕ) → y ≢ gate → now.block y ≡ before.block y) → AfterStep table g r before.gate.root ((before.gate.height - 1) + 1) before now purse purse_now
    enters-pass pn room other = after-both before.gate.root ((before.gate.height - 1) + 1)
        (after-pass table before now come-shape r gate (before.gate.height - 1) before.gate.height purse near come-tree (on true (g.placed r)) (on true (g.carried r)) came.now_at valid gate_up low
        (root_entry before.gate) [] [] is top_rows top_stamp top_right gate_cell gate_height (λ h. absurd (h refl)) old_blocks (λ h. absurd (h refl))
        (λ q h p c e. near.entered q h p e) come-idle (all-spares g come-shape (nodes before) purse come-spare spares)
        purse_now e2 pn w is3 room other)

    pub enters-half : (spare : Spare) (block : Block) → purse ≡ purse_now ++ spare ∷ [] → now.block spare.cell ≡ block → is_full (before.block before.gate.root).body ≡ true
        → IsHalved (before.block before.gate.root) spare.cell spare.stamp (now.block before.gate.root) block
        → ((y : ℕ) → y ≢ gate → y ≢ before.gate.root → y ≢ spare.cell → now.block y ≡ before.block y) → AfterStep table g r before.gate.root ((before.gate.height - 1) + 1) before now purse purse_now
    enters-half spare block pn fill full halved other = after-both before.gate.root ((before.gate.height - 1) + 1)
        (after-half table before now come-shape r gate (before.gate.height - 1) before.gate.height purse near come-tree (on true (g.placed r)) (on true (g.carried r)) came.now_at valid gate_up low
        (root_entry before.gate) [] [] is top_rows top_stamp top_right gate_cell gate_height (λ h. absurd (h refl)) old_blocks (λ h. absurd (h refl))
        (λ q h p c e. near.entered q h p e) come-idle (all-spares g come-shape (nodes before) purse come-spare spares)
        purse_now spare block pn fill other (half-parts (before.block before.gate.root) (now.block before.gate.root) block spare.cell spare.stamp full halved)
        (ap (λ (x : Block). x.stamp) halved.head_is) (ap (λ (x : Block). x.right) halved.head_is) (ap (λ (x : Block). x.stamp) halved.new_is) (ap (λ (x : Block). x.right) halved.new_is)
        e2 w is3)
