-- A step that isn't of the tree leaves it; and a new tree
use Rattle.std.proofs.{Common.{◌≡◌, ◌≢◌, ℕ, ◌≤◌, Bool, true, eqb, List, [], ◌∷◌, refl, sym, ap, ◌∙◌, subst, arith}, lemmas.Bool.{eqb-true, eqb-false}}
use Rattle.std.specs.Prelude.{None}
use Rattle.dc_node.specs.declared.entry.Entry.{Entry}
use Rattle.list_words.specs.Counts.{Each, times}
use Rattle.list_words.proofs.{Times.same_is, Truth.on_bool}
use Rattle.tree_shape.specs.{Queries.{QueryOk, fits}, Shape.{Node, Shape, Table, TreeCells, gate_node, node_of, nodes}, Steps.{AfterOther, LeavesTree}, Trees.{BlockOk, EntryOk, IsTree, TreeOk}, Walks.{AreNoted, IsNoted, IsTail, Noted, noted_of}}
use Rattle.tree_shape.proofs.Whole.Assembled.{node-block, node-gate}

-- where the nodes of the tree's cells are the same

module _ (g : Shape) (look look2 : ℕ → Node) (table : Table) (same_node : (y : ℕ) → g.inside y ≡ true → look2 y ≡ look y) where
  tail-kept : (s y : ℕ) (zs : List ℕ) → g.inside y ≡ true → ((z : ℕ) → 1 ≤ times z zs → g.inside z ≡ true) → IsTail look s y zs → IsTail look2 s y zs
  tail-kept s y [] i all h = ap (λ (x : Node). x.stamp) (same_node y i) ∙ h
  tail-kept s y (z ∷ zs) i all h =
      let e = same_node y i in
      let o = same_is z z refl in (
        (λ q. h.0 (sym (ap (λ (x : Node). x.stamp) e) ∙ q)),
        ap (λ (x : Node). x.right) e ∙ h.1,
        tail-kept s z zs (all z (omega arith)) (λ u k. all u (omega arith)) h.2,
      )

  pub noted-kept : (p : Noted) → IsNoted g look p → IsNoted g look2 p
  noted-kept p w =
      let zs = w.walks.0 in
      let o = same_is p.cell p.cell refl in
      let at : (z : ℕ) → 1 ≤ times z (p.cell ∷ w.walks.0) → g.inside z ≡ true = λ z k. (w.cells z (rw w.walks.1 k)).0 in
      record {
        walks = (w.walks.0, w.walks.1, tail-kept p.stamp p.cell w.walks.0 (at p.cell (omega arith)) (λ z k. at z (omega arith)) w.walks.2);
        low = w.low;
        cells = w.cells;
      }

  pub all_noted-kept : (ps : List Noted) → AreNoted g look ps → AreNoted g look2 ps
  all_noted-kept [] w = tt
  all_noted-kept (p ∷ ps) w = (noted-kept p w.0, all_noted-kept ps w.1)

  entries-kept : (l : ℕ) (es : List Entry) → Each (EntryOk g look table l) es → Each (EntryOk g look2 table l) es
  entries-kept l [] w = tt
  entries-kept l (e ∷ es) w = (record { group = noted-kept (noted_of g l e) w.0.group; members = w.0.members; rows = w.0.rows; summary = w.0.summary }, entries-kept l es w.1)

  pub tree-kept : TreeOk g look table → TreeOk g look2 table
  tree-kept t = record {
    shape = t.shape;
    heads = t.heads;
    leaves = λ b i lv r. rw (same_node b i) (t.leaves b i lv r);
    dirs = λ b l i lv. let d = t.dirs b l i lv in record {
      entries = rw (same_node b i) (entries-kept l (look b).entries d.entries);
      each = λ y yi yl. rw (same_node b i) (d.each y yi yl);
    };
  }

  pub query-kept : (must fits : ℕ → Bool) (ps : List Noted) (counted : List ℕ) → QueryOk g look must fits ps counted → QueryOk g look2 must fits ps counted
  query-kept must fits ps counted q = record {
    noted = all_noted-kept ps q.noted;
    blocks = q.blocks;
    distinct = q.distinct;
    fitting = q.fitting;
    once = q.once;
    whole = q.whole;
    passed = q.passed;
  }

module _ (table : Table) (g : Shape) (before now : TreeCells) (tree : IsTree table before g) (d : LeavesTree g before now) where
  pub same-node : (y : ℕ) → g.inside y ≡ true → nodes now y ≡ nodes before y
  same-node y i = on_bool (eqb y before.gate_cell)
      (λ q. let z = eqb-true _ _ q in
      let a : nodes now y ≡ gate_node now.gate = ap (nodes now) (z ∙ sym d.gate_cell) ∙ node-gate now in
      let b : nodes before y ≡ gate_node before.gate = ap (nodes before) z ∙ node-gate before in
      a ∙ ap (λ (x : Entry). record { stamp = 0; right = None; rows = []; entries = x ∷ [] }) d.gate.root ∙ sym b)
      (λ q. let ne = eqb-false _ _ q in
      node-block now y (λ w. ne (w ∙ d.gate_cell)) ∙ ap node_of (d.block y i ne) ∙ sym (node-block before y ne))

  pub after-other : AfterOther table g before now
  after-other = record {
    tree = record {
      tree = tree-kept g (nodes before) (nodes now) table same-node tree.tree;
      top = rw d.gate_cell tree.top;
      some = rw d.gate.height tree.some;
      height = rw d.gate.height tree.height;
      level = rw (d.gate_cell, d.gate.height) tree.level;
      only = λ y i l. tree.only y i (l ∙ d.gate.height) ∙ sym d.gate_cell;
      entered = λ q p e. tree.entered q p (e ∙ d.gate_cell);
      heads = tree.heads;
      alone = tree.alone;
      numbered = tree.numbered;
      blocks = λ b i h. let bg : b ≢ before.gate_cell = (λ e. h (e ∙ sym d.gate_cell)) in subst (BlockOk table g b) (sym (d.block b i bg)) (tree.blocks b i bg);
    };
    spares = λ s h. record { cell = h.cell; unexpected = λ b l i e. rw (same-node b i) (h.unexpected b l i e) };
    queries = λ must fits items counted u. record {
      noted = u.noted;
      are = u.are;
      ok = query-kept g (nodes before) (nodes now) table same-node must fits u.noted counted u.ok;
    };
  }
