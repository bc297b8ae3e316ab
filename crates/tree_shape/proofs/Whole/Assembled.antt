-- What holds of a whole tree beside its nodes, and how it is put together after a step
use Rattle.std.proofs.{Common.{◌≡◌, ◌≢◌, ℕ, ◌+◌, ◌-◌, ◌<◌, ◌≤◌, Bool, true, false, eqb, List, [], ◌∷◌, ◌++◌, length, refl, sym, ap, ◌∙◌, subst, arith}, lemmas.Bool.{eqb-true, eqb-false, ne_eqb, eq-eqb}}
use Rattle.std.specs.Prelude.{Some, slice_get}
use Rattle.dim_hierarchy.specs.Rows.{IsRowOf}
use Rattle.dc_node.specs.{Block.{rows_in, entries_in, is_leaf, is_full, size, with_entries}, declared.block.Block.Block, declared.block.Body.Body, declared.block.Body.TheVariants.{Rows, Entries}, declared.entry.Entry.Entry, declared.todo.Item.Item}
use Rattle.cell_stock.specs.declared.purse.Spare.{Spare}
use Rattle.list_words.specs.Counts.{Among, Each}
use Rattle.list_words.proofs.{Each.{each-left, each-right, each-of}, Truth.on_bool}
use Rattle.tree_shape.specs.{Queries.{NoneWaits, items_of}, Shape.{Node, Shape, Table, TreeCells, gate_node, node_of, nodes}, Steps.{AreApart, AreSpares, IsSpare}, Trees.{BlockOk, IsTree, TreeOk, limit}, Walks.Noted}
use Rattle.tree_shape.proofs.{Cutting.Relations.{Grew, NoneExpects, all_grown}, Down.Onto.child_in}
use Rattle.link_descent.specs.shard_store.specs.Gate.{root_entry}

-- Nodes.

pub node-block : (cells : TreeCells) (y : ℕ) → y ≢ cells.gate_cell → nodes cells y ≡ node_of (cells.block y)
node-block cells y h = rw (ne_eqb y cells.gate_cell h) refl

pub node-gate : (cells : TreeCells) → nodes cells cells.gate_cell ≡ gate_node cells.gate
node-gate cells = rw (eq-eqb cells.gate_cell cells.gate_cell refl) refl

pub no-rows : (body : Body) → is_leaf body ≡ false → rows_in body ≡ []
no-rows (Rows rows) h = cc
no-rows (Entries entries) h = refl

pub has-entries : (body : Body) (place : ℕ) (e : Entry) → slice_get (entries_in body) place ≡ Some e → is_leaf body ≡ false
has-entries (Rows rows) place e h = cc
has-entries (Entries entries) place e h = refl

-- The tree beside its nodes, but for the row r.
pub record NearTree (table : Table) (gate_cell top_level : ℕ) (g : Shape) (r : ℕ) : Type 0 where
  pub top : g.inside gate_cell ≡ true
  pub some : 1 ≤ top_level
  pub height : g.height ≡ top_level + 1
  pub level : g.level gate_cell ≡ top_level
  pub only : (y : ℕ) → g.inside y ≡ true → g.level y ≡ top_level → y ≡ gate_cell
  pub stands : (q : ℕ) → g.placed q ≡ true → g.inside (g.at q) ≡ true
  pub entered : (q : ℕ) → q ≢ r → g.placed q ≡ true → g.at q ≢ gate_cell
  pub heads : (q : ℕ) → q ≢ r → g.placed q ≡ true → g.carried q ≡ true → g.head (g.at q) ≡ g.at q
  pub alone : (q s : ℕ) → q ≢ r → s ≢ r → g.placed q ≡ true → g.carried q ≡ true → g.placed s ≡ true → g.carried s ≡ true → g.at q ≡ g.at s → q ≡ s
  pub numbered : (q : ℕ) → g.placed q ≡ true → ((table.row q).no ≡ q) × IsRowOf table.hierarchy (table.row q)

pub near-tree : (table : Table) (cells : TreeCells) (g : Shape) (r : ℕ) → IsTree table cells g → NearTree table cells.gate_cell cells.gate.height g r
near-tree table cells g r t = record {
  top = t.top;
  some = t.some;
  height = t.height;
  level = t.level;
  only = t.only;
  stands = t.tree.shape.stands;
  entered = λ q ne p. t.entered q p;
  heads = λ q ne p c. t.heads q p c;
  alone = λ q s ne ne2 p c p2 c2 e. t.alone q s p c p2 c2 e;
  numbered = t.numbered;
}

-- the tree after the row r came down to the block x on level k
pub assemble : (table : Table) (now : TreeCells) (gate_cell top_level : ℕ) (g g3 : Shape) (fresh : ℕ → Bool) (j k r x : ℕ)
    → NearTree table gate_cell top_level g r → TreeOk g3 (nodes now) table → Grew g g3 fresh j k r x → j < top_level → k < top_level
    → now.gate_cell ≡ gate_cell → now.gate.height ≡ top_level
    → ((q : ℕ) → q ≢ r → g.placed q ≡ true → g.carried q ≡ true → g.at q ≢ x)
    → ((b : ℕ) → g3.inside b ≡ true → b ≢ gate_cell → BlockOk table g3 b (now.block b))
    → IsTree table now g3
assemble table now gate_cell top_level g g3 fresh j k r x n tree w lower_j low gc gh idle blocks =
    let some = n.some in
    let old : (y : ℕ) → g.inside y ≡ true → fresh y ≡ false = λ y i. on_bool (fresh y) (λ f. let z : true ≡ false = sym i ∙ (w.new y f).0 in cc) (λ f. f) in
    let gf = old gate_cell n.top in
    let lv : g3.level gate_cell ≡ top_level = w.level gate_cell gf ∙ n.level in
    record {
      tree = tree;
      top = rw gc (w.inside gate_cell gf ∙ n.top);
      some = rw gh n.some;
      height = rw gh (w.height ∙ n.height);
      level = rw (gc, gh) lv;
      only = λ y i l. rw gc (on_bool (fresh y)
          (λ f. let a = (w.new y f).2 in let b : g3.level y ≡ top_level = l ∙ gh in absurd (omega arith))
          (λ f. n.only y (sym (w.inside y f) ∙ i) (sym (w.level y f) ∙ l ∙ gh)));
      entered = λ q p e. let e1 : g3.at q ≡ gate_cell = e ∙ gc in
          let at_level : g3.level (g3.at q) ≡ top_level = ap g3.level e1 ∙ lv in
          on_bool (g3.carried q)
          (λ c. on_bool (eqb q r)
          (λ z. let xl = w.x_level in let a : g3.level (g3.at q) ≡ k = ap (λ y. g3.level (g3.at y)) (eqb-true _ _ z) ∙ ap g3.level w.at_r ∙ w.x_level in absurd (omega arith))
          (λ z. let ne = eqb-false _ _ z in
          let p1 = sym (w.placed q) ∙ p in
          n.entered q ne p1 (sym (w.at q ne p1 (sym (w.carried q) ∙ c)) ∙ e1)))
          (λ c. let s = tree.shape.settled q p c in absurd (omega arith));
      heads = λ q p c. on_bool (eqb q r)
          (λ z. rw (eqb-true _ _ z, w.at_r) w.x_head)
          (λ z. let ne = eqb-false _ _ z in
          let p1 = sym (w.placed q) ∙ p in
          let c1 = sym (w.carried q) ∙ c in
          rw (w.at q ne p1 c1) (w.head (g.at q) (old (g.at q) (n.stands q p1)) (n.heads q ne p1 c1)));
      alone = λ q s p c p2 c2 e.
          let p1 = sym (w.placed q) ∙ p in
          let c1 = sym (w.carried q) ∙ c in
          let p3 = sym (w.placed s) ∙ p2 in
          let c3 = sym (w.carried s) ∙ c2 in
          on_bool (eqb q r)
          (λ z. let qr = eqb-true _ _ z in on_bool (eqb s r)
          (λ z2. qr ∙ sym (eqb-true _ _ z2))
          (λ z2. let ne = eqb-false _ _ z2 in absurd (idle s ne p3 c3 (sym (w.at s ne p3 c3) ∙ sym e ∙ ap g3.at qr ∙ w.at_r))))
          (λ z. let ne = eqb-false _ _ z in on_bool (eqb s r)
          (λ z2. let sr = eqb-true _ _ z2 in absurd (idle q ne p1 c1 (sym (w.at q ne p1 c1) ∙ e ∙ ap g3.at sr ∙ w.at_r)))
          (λ z2. let ne2 = eqb-false _ _ z2 in n.alone q s ne ne2 p1 c1 p3 c3 (sym (w.at q ne p1 c1) ∙ e ∙ w.at s ne2 p3 c3)));
      numbered = λ q p. n.numbered q (sym (w.placed q) ∙ p);
      blocks = λ b i h. blocks b i (λ e. h (e ∙ sym gc));
    }

-- Queries with their own lists of noted blocks.

pub items-grown : (c n : ℕ) (ps : List Noted) → items_of (all_grown c n ps) ≡ items_of ps
items-grown c n [] = refl
items-grown c n (p ∷ ps) = ap (λ xs. record { cell = p.cell; stamp = p.stamp } ∷ xs) (items-grown c n ps)

pub none-expects : (t : ℕ) (ps : List Noted) (items : List Item) → items_of ps ≡ items → NoneWaits t items → NoneExpects t ps
none-expects t [] items e h = tt
none-expects t (p ∷ ps) [] e h = cc
none-expects t (p ∷ ps) (i ∷ items) e h =
    let head : record { cell = p.cell; stamp = p.stamp } ≡ i = cc in
    let tail : items_of ps ≡ items = cc in
    ((λ q. h.0 (sym (ap (λ (x : Item). x.stamp) head) ∙ q)), none-expects t ps items tail h.1)

-- Spares.

pub own-spares : (g g3 : Shape) (look look3 : ℕ → Node) (used xs : List Spare) → ((s : Spare) → Each (AreApart s) used → IsSpare g look s → IsSpare g3 look3 s) → AreSpares g look (xs ++ used) → AreSpares g3 look3 xs
own-spares g g3 look look3 used [] keep h = tt
own-spares g g3 look look3 used (s ∷ ss) keep h =
    (keep s (each-right (AreApart s) ss used h.1) h.0, each-left (AreApart s) ss used h.1, own-spares g g3 look look3 used ss keep h.2)

pub used-spares : (g : Shape) (look : ℕ → Node) (xs used : List Spare) → AreSpares g look (xs ++ used) → AreSpares g look used
used-spares g look [] used h = h
used-spares g look (x ∷ xs) used h = used-spares g look xs used h.2

-- Blocks.

-- a block that didn't change
pub block-kept : (table : Table) (g g3 : Shape) (b : ℕ) (old now : Block) → BlockOk table g b old → now ≡ old → g3.level b ≡ g.level b
    → ((q : ℕ) → g3.placed q ≡ true → g3.carried q ≡ true → g3.at q ≡ b → is_full old.body ≡ false) → BlockOk table g3 b now
block-kept table g g3 b old now ok is lv room = subst (BlockOk table g3 b) (sym is) (record {
  kind = ok.kind ∙ ap (λ l. eqb l 0) (sym lv);
  some = λ h. ok.some (omega (arith, lv));
  few = ok.few;
  rows = ok.rows;
  room = room;
})

-- a part of a divided block
pub block-part : (table : Table) (g g3 : Shape) (c y : ℕ) (old now : Block) → BlockOk table g c old → is_leaf now.body ≡ is_leaf old.body → 1 ≤ size now.body → size now.body ≤ limit now.body
    → Each (λ r. Among r (rows_in old.body)) (rows_in now.body) → is_full now.body ≡ false → g3.level y ≡ g.level c → BlockOk table g3 y now
block-part table g g3 c y old now ok kind some few among room lv = record {
  kind = kind ∙ ok.kind ∙ ap (λ l. eqb l 0) (sym lv);
  some = λ h. some;
  few = few;
  rows = each-of (λ r. table.row r.no ≡ r) (rows_in old.body) (rows_in now.body) ok.rows among;
  room = λ q p c e. room;
}

-- a directory with other entries
pub block-entries : (table : Table) (g g3 : Shape) (b : ℕ) (old now : Block) (es : List Entry) → 1 ≤ g.level b → now ≡ with_entries old es → 1 ≤ length es → length es ≤ 16 → g3.level b ≡ g.level b
    → ((q : ℕ) → g3.placed q ≡ true → g3.carried q ≡ true → g3.at q ≢ b) → BlockOk table g3 b now
block-entries table g g3 b old now es up is some few lv none = subst (BlockOk table g3 b) (sym is) (record {
  kind = sym (ne_eqb (g3.level b) 0 (omega (arith, lv)));
  some = λ h. some;
  few = few;
  rows = tt;
  room = λ q p c e. absurd (none q p c e);
})

-- the root's head is one level below the gate
pub root-at : (table : Table) (cells : TreeCells) (g : Shape) → IsTree table cells g → (g.inside cells.gate.root ≡ true) × (g.level cells.gate.root ≡ cells.gate.height - 1)
root-at table cells g t =
    let lv = t.level in
    let s = t.some in
    child_in g (nodes cells) table t.tree cells.gate_cell (cells.gate.height - 1) t.top (omega arith) (root_entry cells.gate) [] [] (ap (λ (x : Node). x.entries) (node-gate cells))
