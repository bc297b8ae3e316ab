-- A new root between the gate and the root
use Rattle.std.proofs.{Common.{◌≡◌, ◌≢◌, ℕ, ◌+◌, ◌-◌, ◌<◌, Bool, true, false, cond, eqb, List, [], ◌∷◌, refl, sym, ap, ◌∙◌, subst, arith}, lemmas.Bool.{eqb-true, eqb-false, ne_eqb, eq-eqb}}
use Rattle.std.specs.Prelude.{None}
use Rattle.dc_node.specs.{declared.block.Block.Block, declared.block.Body.TheVariants.Entries, declared.entry.Entry.Entry, declared.todo.Item.Item}
use Rattle.cell_stock.specs.declared.purse.Spare.{Spare}
use Rattle.link_descent.specs.shard_store.specs.Gate.{root_entry}
use Rattle.list_words.specs.Counts.{Each}
use Rattle.list_words.proofs.Truth.{on_bool}
use Rattle.tree_shape.specs.{Queries.{IsUnfinished, fits, items_of}, Shape.{Node, Shape, Table, TreeCells, gate_node, node_of, nodes}, Steps.IsSpare, Trees.{BlockOk, IsTree}, Walks.Noted}
use Rattle.tree_shape.proofs.{Cutting.Raises.{tree-raised, query-raised, all_lifted}, Cutting.Relations.{Raised, raise}, Reading.Queries.apart, Whole.Assembled.{node-block, node-gate, block-kept}}

module _ (table : Table) (g : Shape) (before : TreeCells) (tree : IsTree table before g) (m s : ℕ) (fresh : g.inside m ≡ false) where
  abbrev gate : ℕ
  gate = before.gate_cell

  abbrev h : ℕ
  h = before.gate.height

  abbrev root : Entry
  root = root_entry before.gate

  abbrev root_block : Block
  root_block = record { stamp = s; right = None; body = Entries (record { items = root_entry before.gate ∷ [] }) }

  abbrev pub raised_cells : TreeCells
  raised_cells = record {
    gate_cell = before.gate_cell;
    gate = record before.gate { root = m; stamp = s; height = before.gate.height + 1 };
    block = λ y. cond (eqb y m) (record { stamp = s; right = None; body = Entries (record { items = root_entry before.gate ∷ [] }) }) (before.block y);
  }

  abbrev pub raised_shape : Shape
  raised_shape = raise g before.gate.height before.gate_cell m before.gate.root

  abbrev look : ℕ → Node
  look = nodes before

  abbrev look2 : ℕ → Node
  look2 = nodes raised_cells

  gate_m : gate ≢ m
  gate_m = apart g gate m tree.top fresh

  m_gate : m ≢ gate
  m_gate e = gate_m (sym e)

  off : {A : Type 0} (a b : ℕ) (x y : A) → a ≢ b → cond (eqb a b) x y ≡ y
  off a b x y q = rw (ne_eqb a b q) refl

  on : {A : Type 0} (a : ℕ) (x y : A) → cond (eqb a a) x y ≡ x
  on a x y = rw (eq-eqb a a refl) refl

  block-m : raised_cells.block m ≡ root_block
  block-m = on m root_block (before.block m)

  block-off : (y : ℕ) → y ≢ m → raised_cells.block y ≡ before.block y
  block-off y q = off y m root_block (before.block y) q

  pub look2_m : look2 m ≡ node_of root_block
  look2_m = node-block raised_cells m m_gate ∙ ap node_of block-m

  -- of the other cells all but the gate's entry is as before
  look2-off : (y : ℕ) → y ≢ m → y ≢ gate → look2 y ≡ look y
  look2-off y ym yg = node-block raised_cells y yg ∙ ap node_of (block-off y ym) ∙ sym (node-block before y yg)

  kept : {A : Type 0} (f : Node → A) → f (gate_node raised_cells.gate) ≡ f (gate_node before.gate) → (y : ℕ) → y ≢ m → f (look2 y) ≡ f (look y)
  kept f e y ym = on_bool (eqb y gate)
      (λ q. let z = eqb-true _ _ q in
      let a : look2 y ≡ gate_node raised_cells.gate = ap look2 z ∙ node-gate raised_cells in
      let b : look y ≡ gate_node before.gate = ap look z ∙ node-gate before in
      ap f a ∙ e ∙ sym (ap f b))
      (λ q. ap f (look2-off y ym (eqb-false _ _ q)))

  level-gate : raised_shape.level gate ≡ h + 1
  level-gate = off gate m h (cond (eqb gate gate) (h + 1) (g.level gate)) gate_m ∙ on gate (h + 1) (g.level gate)

  level-off : (y : ℕ) → y ≢ m → y ≢ gate → raised_shape.level y ≡ g.level y
  level-off y ym yg = off y m h (cond (eqb y gate) (h + 1) (g.level y)) ym ∙ off y gate (h + 1) (g.level y) yg

  above-low : (y l : ℕ) → l < h → raised_shape.above y l ≡ g.above y l
  above-low y l lt = off l (h + 1) gate (cond (eqb l h) m (g.above y l)) (λ e. absurd (omega arith)) ∙ off l h m (g.above y l) (λ e. absurd (omega arith))

  pub raised : Raised g raised_shape look look2 h gate m root (root_entry raised_cells.gate)
  raised = record {
    height = tree.height;
    height2 = refl;
    some = tree.some;
    gate_in = tree.top;
    gate_level = tree.level;
    only = tree.only;
    fresh = fresh;
    free = tree.entered;
    m_in = on m true (g.inside m);
    inside = λ y ym. off y m true (g.inside y) ym;
    m_level = on m h (cond (eqb m gate) (h + 1) (g.level m));
    gate_level2 = level-gate;
    level = level-off;
    above = λ y l ym lt. above-low y l lt;
    above_h = λ y yg. off h (h + 1) gate (cond (eqb h h) m (g.above y h)) (λ e. absurd (omega arith)) ∙ on h m (g.above y h);
    above_top = λ y. on (h + 1) gate (cond (eqb (h + 1) h) m (g.above y (h + 1)));
    placed = λ r. refl;
    carried = λ r. refl;
    at = λ r. refl;
    group_m = on m (m ∷ []) (g.group m);
    group = λ y ym. off y m (m ∷ []) (g.group y) ym;
    below_m = on m (g.below before.gate.root) (g.below m);
    below = λ y ym. off y m (g.below before.gate.root) (g.below y) ym;
    head_m = on m m (g.head m);
    head = λ y ym. off y m m (g.head y) ym;
    stamp = kept (λ (x : Node). x.stamp) refl;
    right = kept (λ (x : Node). x.right) refl;
    rows = kept (λ (x : Node). x.rows) refl;
    entries = λ y ym yg. ap (λ (x : Node). x.entries) (look2-off y ym yg);
    gate_was = ap (λ (x : Node). x.entries) (node-gate before);
    gate_is = ap (λ (x : Node). x.entries) (node-gate raised_cells);
    m_is = ap (λ (x : Node). x.entries) look2_m;
    new_child = refl;
    new_stamp = sym (ap (λ (x : Node). x.stamp) look2_m);
    new_agg = refl;
    new_set = refl;
  }

  at_m : (q : ℕ) → g.placed q ≡ true → g.at q ≢ m
  at_m q p = apart g (g.at q) m (tree.tree.shape.stands q p) fresh

  pub raised_tree : IsTree table raised_cells raised_shape
  raised_tree = record {
    tree = tree-raised g raised_shape look look2 table h gate m root (root_entry raised_cells.gate) tree.tree raised;
    top = raised.inside gate gate_m ∙ tree.top;
    some = omega arith;
    height = omega arith;
    level = level-gate;
    only = λ y i l. on_bool (eqb y m)
        (λ q. let e = ap raised_shape.level (eqb-true _ _ q) in let z = raised.m_level in absurd (omega arith))
        (λ q. let ym = eqb-false _ _ q in on_bool (eqb y gate)
        (λ q2. eqb-true _ _ q2)
        (λ q2. let yg = eqb-false _ _ q2 in
        let e = level-off y ym yg in
        let b = tree.tree.shape.below y (sym (raised.inside y ym) ∙ i) in
        let hh = tree.height in
        absurd (omega arith)));
    entered = tree.entered;
    heads = λ q p c. raised.head (g.at q) (at_m q p) ∙ tree.heads q p c;
    alone = tree.alone;
    numbered = tree.numbered;
    blocks = λ b i bg. on_bool (eqb b m)
        (λ q. let e = eqb-true _ _ q in
        let lv : raised_shape.level b ≡ h = ap raised_shape.level e ∙ raised.m_level in
        let hs = tree.some in
        subst (BlockOk table raised_shape b) (sym (ap raised_cells.block e ∙ block-m)) (record {
          kind = sym (ne_eqb (raised_shape.level b) 0 (omega arith));
          some = λ u. omega arith;
          few = omega arith;
          rows = tt;
          room = λ q2 p c a. refl;
        }))
        (λ q. let bm = eqb-false _ _ q in
        let i1 = sym (raised.inside b bm) ∙ i in
        let ok = tree.blocks b i1 bg in
        block-kept table g raised_shape b (before.block b) (raised_cells.block b) ok (block-off b bm) (level-off b bm bg) ok.room);
  }

  items-lifted : (ps : List Noted) → items_of (all_lifted g raised_shape look look2 table h gate m root (root_entry raised_cells.gate) tree.tree raised ps) ≡ items_of ps
  items-lifted [] = refl
  items-lifted (p ∷ ps) = ap (λ xs. record { cell = p.cell; stamp = p.stamp } ∷ xs) (items-lifted ps)

  pub raised_query : (must fits : ℕ → Bool) (items : List Item) (counted : List ℕ) → IsUnfinished g look must fits items counted → IsUnfinished raised_shape look2 must fits items counted
  raised_query must fits items counted u = record {
    noted = all_lifted g raised_shape look look2 table h gate m root (root_entry raised_cells.gate) tree.tree raised u.noted;
    are = items-lifted u.noted ∙ u.are;
    ok = query-raised g raised_shape look look2 table h gate m root (root_entry raised_cells.gate) tree.tree raised must fits u.noted counted u.ok;
  }

  gate_up : g.level gate ≡ (h - 1) + 1
  gate_up = let a = tree.level in let b = tree.some in omega arith

  pub raised_spare : (x : Spare) → x.cell ≢ m → x.stamp ≢ s → IsSpare g look x → IsSpare raised_shape look2 x
  raised_spare x xm xs u = record {
    cell = raised.inside x.cell xm ∙ u.cell;
    unexpected = λ b l i e. on_bool (eqb b m)
        (λ q. let w : Each (λ (v : Entry). v.stamp ≢ x.stamp) (root ∷ []) = subst (Each (λ (v : Entry). v.stamp ≢ x.stamp)) raised.gate_was (u.unexpected gate (h - 1) tree.top gate_up) in
        subst (Each (λ (v : Entry). v.stamp ≢ x.stamp)) (sym (ap (λ (y : ℕ). (look2 y).entries) (eqb-true _ _ q) ∙ raised.m_is)) w)
        (λ q. let bm = eqb-false _ _ q in on_bool (eqb b gate)
        (λ q2. let w : Each (λ (v : Entry). v.stamp ≢ x.stamp) (root_entry raised_cells.gate ∷ []) = ((λ z. xs (sym z)), tt) in
        subst (Each (λ (v : Entry). v.stamp ≢ x.stamp)) (sym (ap (λ (y : ℕ). (look2 y).entries) (eqb-true _ _ q2) ∙ raised.gate_is)) w)
        (λ q2. let bg = eqb-false _ _ q2 in
        subst (Each (λ (v : Entry). v.stamp ≢ x.stamp)) (sym (raised.entries b bm bg)) (u.unexpected b l (sym (raised.inside b bm) ∙ i) (sym (level-off b bm bg) ∙ e))));
  }
