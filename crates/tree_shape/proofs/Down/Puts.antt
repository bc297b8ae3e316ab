-- A row is put in its leaf
use Rattle.std.proofs.{Common.{◌≡◌, ◌≢◌, ℕ, ◌+◌, ◌≤◌, true, false, eqb, [], ◌∷◌, ◌++◌, length, refl, sym, ap, ◌∙◌, subst, arith}, lemmas.Bool.{eqb-true, eqb-false, ne_eqb, eq-eqb}, lemmas.List.{map-append, length-append}}
use Rattle.std.specs.Prelude.{None}
use Rattle.dc_node.specs.{Block.{rows_in, entries_in, is_leaf, is_full, size}, declared.block.Block.Block, declared.block.Body.Body, declared.block.Body.TheVariants.{Rows, Entries}, declared.entry.Entry.Entry}
use Rattle.dim_hierarchy.specs.declared.row.Row.{Row}
use Rattle.list_words.specs.Counts.{Each, same, times}
use Rattle.list_words.proofs.{Each.each-append, Totals.total-append, Truth.on_bool}
use Rattle.tree_shape.specs.{Shape.{Node, Shape, Table, TreeCells, gate_node, node_of, nodes, numbers}, Steps.{AfterPut, IsPut}, Trees.{BlockOk, IsTree, limit}}
use Rattle.tree_shape.proofs.{Cutting.Relations.{SameLinks, Settled, SettledTree, put}, Down.Rows.query-settled, Whole.Assembled.{node-block, node-gate, block-kept}, Whole.Trees.tree-settled}

pub leaf-entries : (body : Body) → is_leaf body ≡ true → entries_in body ≡ []
leaf-entries (Rows rows) h = refl
leaf-entries (Entries entries) h = cc

leaf-room : (body : Body) → is_leaf body ≡ true → size body ≤ limit body → is_full body ≡ false → length (rows_in body) ≤ 31
leaf-room (Rows rows) h few room = let ne = eqb-false _ _ room in omega arith
leaf-room (Entries entries) h few room = cc

module _ (table : Table) (g : Shape) (r : ℕ) (before now : TreeCells) (tree : IsTree table before g) (d : IsPut table g r before now) where
  abbrev leaf : ℕ
  leaf = d.leaf

  abbrev look : ℕ → Node
  look = nodes before

  abbrev look2 : ℕ → Node
  look2 = nodes now

  abbrev g2 : Shape
  g2 = put g r

  leaf_gate : leaf ≢ before.gate_cell
  leaf_gate q = tree.entered r d.placed (d.at ∙ q)

  leaf_in : g.inside leaf ≡ true
  leaf_in = subst (λ y. g.inside y ≡ true) d.at (tree.tree.shape.stands r d.placed)

  leaf_ok : BlockOk table g leaf (before.block leaf)
  leaf_ok = tree.blocks leaf leaf_in leaf_gate

  leaf_level : g.level leaf ≡ 0
  leaf_level = eqb-true _ _ (sym leaf_ok.kind ∙ d.kind)

  look_leaf : look leaf ≡ node_of (before.block leaf)
  look_leaf = node-block before leaf leaf_gate

  look2_leaf : look2 leaf ≡ node_of (now.block leaf)
  look2_leaf = node-block now leaf (λ q. leaf_gate (q ∙ d.gate_cell))

  look-off : (y : ℕ) → y ≢ leaf → look2 y ≡ look y
  look-off y yl = on_bool (eqb y before.gate_cell)
      (λ q. let z = eqb-true _ _ q in
      let a : look2 y ≡ gate_node now.gate = ap look2 (z ∙ sym d.gate_cell) ∙ node-gate now in
      let b : look y ≡ gate_node before.gate = ap look z ∙ node-gate before in
      a ∙ ap (λ (x : Entry). record { stamp = 0; right = None; rows = []; entries = x ∷ [] }) d.gate.root ∙ sym b)
      (λ q. let ne = eqb-false _ _ q in
      node-block now y (λ w. ne (w ∙ d.gate_cell)) ∙ ap node_of (d.other y yl) ∙ sym (node-block before y ne))

  off : (q : ℕ) → q ≢ r → g2.carried q ≡ g.carried q
  off q h = rw (ne_eqb q r h) refl

  on : g2.carried r ≡ false
  on = rw (eq-eqb r r refl) refl

  settled : Settled g g2 r
  settled = record {
    tree = record { height = refl; inside = λ y. refl; level = λ y. refl; above = λ y l. refl };
    placed = λ q. refl;
    now = on;
    carried = off;
    at = λ q. refl;
  }

  leaf_stamp : (look2 leaf).stamp ≡ (look leaf).stamp
  leaf_stamp = ap (λ (x : Node). x.stamp) look2_leaf ∙ d.stamp ∙ sym (ap (λ (x : Node). x.stamp) look_leaf)

  leaf_right : (look2 leaf).right ≡ (look leaf).right
  leaf_right = ap (λ (x : Node). x.right) look2_leaf ∙ d.right ∙ sym (ap (λ (x : Node). x.right) look_leaf)

  links : SameLinks look look2
  links = record {
    stamp = λ y. on_bool (eqb y leaf) (λ q. let z = eqb-true _ _ q in rw z leaf_stamp) (λ q. ap (λ (x : Node). x.stamp) (look-off y (eqb-false _ _ q)));
    right = λ y. on_bool (eqb y leaf) (λ q. let z = eqb-true _ _ q in rw z leaf_right) (λ q. ap (λ (x : Node). x.right) (look-off y (eqb-false _ _ q)));
  }

  number : (table.row r).no ≡ r
  number = (tree.numbered r d.placed).0

  rows-now : (q : ℕ) → times q (look2 leaf).rows ≡ times q (look leaf).rows + same q r
  rows-now q =
      let a : (look2 leaf).rows ≡ numbers (rows_in (before.block leaf).body ++ table.row r ∷ []) = ap (λ (x : Node). x.rows) look2_leaf ∙ ap (λ (x : Body). numbers (rows_in x)) d.body in
      let b = map-append (λ (x : Row). x.no) (rows_in (before.block leaf).body) (table.row r ∷ []) in
      let e = total-append (λ y. same q y) (numbers (rows_in (before.block leaf).body)) ((table.row r).no ∷ []) in
      let f : (look leaf).rows ≡ numbers (rows_in (before.block leaf).body) = ap (λ (x : Node). x.rows) look_leaf in
      let n = ap (same q) number in
      ap (times q) (a ∙ b) ∙ e ∙ ap (λ z. z + (same q (table.row r).no + 0)) (ap (times q) (sym f)) ∙ (omega arith)

  entries-now : (y : ℕ) → (look2 y).entries ≡ (look y).entries
  entries-now y = on_bool (eqb y leaf)
      (λ q. let z = eqb-true _ _ q in
      let a : (look2 leaf).entries ≡ [] = ap (λ (x : Node). x.entries) look2_leaf ∙ ap entries_in d.body in
      let b : (look leaf).entries ≡ [] = ap (λ (x : Node). x.entries) look_leaf ∙ leaf-entries (before.block leaf).body d.kind in
      rw z (a ∙ sym b))
      (λ q. ap (λ (x : Node). x.entries) (look-off y (eqb-false _ _ q)))

  put-tree : SettledTree g g2 look look2 r
  put-tree = record {
    put = settled;
    r_placed = d.placed;
    r_carried = d.carried;
    low = ap g.level d.at ∙ leaf_level;
    group = λ h. refl;
    head = λ y. refl;
    below = λ h. refl;
    links = links;
    rows = λ q. rw d.at (rows-now q);
    other = λ y h. ap (λ (x : Node). x.rows) (look-off y (λ e. h (e ∙ sym d.at)));
    entries = entries-now;
  }

  -- what is still carried was carried
  was : (q : ℕ) → g2.carried q ≡ true → (q ≢ r) × (g.carried q ≡ true)
  was q ca = on_bool (eqb q r)
      (λ z. let bad : true ≡ false = sym ca ∙ ap g2.carried (eqb-true _ _ z) ∙ on in cc)
      (λ z. let ne = eqb-false _ _ z in (ne, sym (off q ne) ∙ ca))

  blocks : (b : ℕ) → g.inside b ≡ true → b ≢ before.gate_cell → BlockOk table g2 b (now.block b)
  blocks b bi bg = on_bool (eqb b leaf)
      (λ q. let e = eqb-true _ _ q in
      let lr = leaf-room (before.block leaf).body d.kind leaf_ok.few (leaf_ok.room r d.placed d.carried d.at) in
      let lp = length-append (rows_in (before.block leaf).body) (table.row r ∷ []) in
      let z : g.level b ≡ 0 = ap g.level e ∙ leaf_level in
      let all : Each (λ x. table.row x.no ≡ x) (rows_in (before.block leaf).body ++ table.row r ∷ []) = each-append (λ x. table.row x.no ≡ x) (rows_in (before.block leaf).body) (table.row r ∷ []) leaf_ok.rows (ap table.row number, tt) in
      let nobody : (s : ℕ) → g.placed s ≡ true → g2.carried s ≡ true → g.at s ≢ b = (λ s p ca a. let w = was s ca in w.0 (tree.alone s r p w.1 d.placed d.carried (a ∙ e ∙ sym d.at))) in
      leaf-block (now.block b) (ap (λ (y : ℕ). (now.block y).body) e ∙ d.body) z all (omega arith) nobody)
      (λ q. let ne = eqb-false _ _ q in
      let ok = tree.blocks b bi bg in
      block-kept table g g2 b (before.block b) (now.block b) ok (d.other b ne) refl (λ s p ca a. ok.room s p (was s ca).1 a))
    where
      leaf-block : (block : Block) → block.body ≡ Rows (record { items = rows_in (before.block leaf).body ++ table.row r ∷ [] }) → g.level b ≡ 0
          → Each (λ x. table.row x.no ≡ x) (rows_in (before.block leaf).body ++ table.row r ∷ []) → length (rows_in (before.block leaf).body ++ table.row r ∷ []) ≤ 32
          → ((s : ℕ) → g.placed s ≡ true → g2.carried s ≡ true → g.at s ≢ b) → BlockOk table g2 b block
      leaf-block block is z all few nobody = record {
        kind = ap is_leaf is ∙ sym (eq-eqb (g.level b) 0 z);
        some = λ up. absurd (omega arith);
        few = rw is few;
        rows = rw is all;
        room = λ s p ca a. absurd (nobody s p ca a);
      }

  pub after-put : AfterPut table g r before now
  after-put = record {
    shape = g2;
    tree = record {
      tree = tree-settled g g2 look look2 table r tree.tree put-tree;
      top = rw d.gate_cell tree.top;
      some = rw d.gate.height tree.some;
      height = rw d.gate.height tree.height;
      level = rw (d.gate_cell, d.gate.height) tree.level;
      only = λ y i l. tree.only y i (l ∙ d.gate.height) ∙ sym d.gate_cell;
      entered = λ q p e. tree.entered q p (e ∙ d.gate_cell);
      heads = λ q p ca. tree.heads q p (was q ca).1;
      alone = λ q s p ca p2 ca2 e. tree.alone q s p (was q ca).1 p2 (was s ca2).1 e;
      numbered = tree.numbered;
      blocks = λ b i h. blocks b i (λ e. h (e ∙ sym d.gate_cell));
    };
    settled = on;
    placed = λ q. refl;
    carried = off;
    at = λ q. refl;
    levels = λ y. refl;
    inside = λ y. refl;
    spares = λ s h. record { cell = h.cell; unexpected = λ b l i e. rw (entries-now b) (h.unexpected b l i e) };
    queries = λ must fits items counted u. record {
      noted = u.noted;
      are = u.are;
      ok = query-settled g g2 look look2 r must fits u.noted counted settled links u.ok;
    };
  }
