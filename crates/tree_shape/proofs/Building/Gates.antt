-- A gate over a forest of one tree is a tree
use Rattle.std.proofs.{Common.{◌≡◌, ◌≢◌, ℕ, ◌+◌, ◌≤◌, true, false, eqb, List, [], ◌∷◌, refl, sym, ap, ◌∙◌, arith}, lemmas.Bool.{eqb-true, eqb-false}}
use Rattle.dc_node.specs.declared.entry.Entry.{Entry}
use Rattle.link_descent.specs.shard_store.specs.Gate.{root_entry}
use Rattle.list_words.specs.Counts.{same, times, total}
use Rattle.list_words.proofs.{Times.{same_is, same_not}, Truth.on_bool}
use Rattle.tree_shape.specs.{Forest.{AfterBuilding, IsForest, IsGateOver, TreeLaw}, Shape.{Node, Shape, Table, TreeCells, node_of, nodes}, Trees.EntryOk}
use Rattle.tree_shape.proofs.{Building.Storeys.{IsUnder, inside-new, leads, level-new, level-old, low, sorts, storey, tree-storey}, Whole.Assembled.{block-kept, node-block, node-gate}}

module _ (table : Table) (cells : TreeCells) (l : ℕ) (others rows : List ℕ) (f : IsForest table cells.block l (cells.gate.root ∷ []) others rows)
    (d : IsGateOver table cells l others) where
  abbrev g : Shape
  g = f.shape

  abbrev look : ℕ → Node
  look = λ c. node_of (cells.block c)

  abbrev up : List ℕ
  up = cells.gate_cell ∷ []

  is-gate : (y : ℕ) → 1 ≤ times y up → y ≡ cells.gate_cell
  is-gate y n = on_bool (eqb y cells.gate_cell) (λ q. eqb-true _ _ q) (λ q. let z = same_not y cells.gate_cell (eqb-false _ _ q) in absurd (omega arith))

  outside : g.inside cells.gate_cell ≡ false
  outside = let a = d.apart in on_bool (g.inside cells.gate_cell)
      (λ q. let z : times cells.gate_cell others ≡ 1 = f.inside cells.gate_cell ∙ (rw q refl) in absurd (omega arith)) (λ q. q)

  apart-gate : (y : ℕ) → g.inside y ≡ true → y ≢ cells.gate_cell
  apart-gate y i e = let z : true ≡ false = sym i ∙ ap g.inside e ∙ outside in cc

  root-ok : EntryOk g look table l (root_entry cells.gate)
  root-ok = f.entries (root_entry cells.gate) (let s = same_is cells.gate.root cells.gate.root refl in omega arith) d.entry

  gate-entries : (b : ℕ) → 1 ≤ times b up → (nodes cells b).entries ≡ root_entry cells.gate ∷ []
  gate-entries b n = ap (λ (y : ℕ). (nodes cells y).entries) (is-gate b n) ∙ ap (λ (x : Node). x.entries) (node-gate cells)

  gate-leads : (y : ℕ) → g.inside y ≡ true → g.level y ≡ l → total (leads (nodes cells) y) up ≡ 1
  gate-leads y i lv =
      let o = same_is (g.level y) l lv in
      let r : times y (cells.gate.root ∷ []) ≡ same (g.level y) l = f.at_top y ∙ (rw i refl) in
      let a : leads (nodes cells) y cells.gate_cell ≡ same y cells.gate.root + 0 = ap (total (λ (e : Entry). same y e.child)) (ap (λ (x : Node). x.entries) (node-gate cells)) in
      omega arith

  under : IsUnder g look (nodes cells) table l up
  under = record {
    tree = f.tree;
    height = f.height;
    groups = f.groups;
    kept = λ y i. node-block cells y (apart-gate y i);
    fresh = λ y n. ap g.inside (is-gate y n) ∙ outside;
    once = λ y. on_bool (eqb y cells.gate_cell) (λ q. rw q (omega arith)) (λ q. rw q (omega arith));
    entries = λ b n. rw (gate-entries b n) (root-ok, tt);
    each = gate-leads;
  }

  abbrev g2 : Shape
  g2 = storey g (nodes cells) l up

  in-up : 1 ≤ times cells.gate_cell up
  in-up = let s = same_is cells.gate_cell cells.gate_cell refl in omega arith

  gate-level : g2.level cells.gate_cell ≡ l + 1
  gate-level = level-new g look (nodes cells) table l up under cells.gate_cell in-up

  pub after-building : AfterBuilding table cells others rows
  after-building = record {
    shape = g2;
    tree = record {
      tree = tree-storey g look (nodes cells) table l up under;
      top = inside-new g look (nodes cells) table l up under cells.gate_cell in-up;
      some = (let h = d.height in omega arith);
      height = (let h = d.height in omega arith);
      level = gate-level ∙ sym d.height;
      only = λ y i lv. sorts g look (nodes cells) table l up under y i
          (λ n. is-gate y n)
          (λ o. let a = low g look (nodes cells) table l up under y o in let b = level-old g look (nodes cells) table l up under y o in let h = d.height in absurd (omega arith));
      entered = λ r p e. apart-gate (g.at r) (f.tree.shape.stands r p) e;
      heads = λ r p c. refl;
      alone = λ q r p c p2 c2 e. let z : true ≡ false = sym c ∙ f.settled q in cc;
      numbered = f.numbered;
      blocks = λ b i ne. sorts g look (nodes cells) table l up under b i
          (λ n. absurd (ne (is-gate b n)))
          (λ o. block-kept table g g2 b (cells.block b) (cells.block b) (f.blocks b o) refl (level-old g look (nodes cells) table l up under b o)
          (λ q p c a. let z : true ≡ false = sym c ∙ f.settled q in cc));
    };
    placed = f.placed;
    settled = f.settled;
    inside = λ y.
        let c = f.inside y in
        on_bool (eqb y cells.gate_cell)
        (λ q. let k : times y others ≡ 0 = ap (λ z. times z others) (eqb-true _ _ q) ∙ d.apart in rw q (omega arith))
        (λ q. rw q (omega arith));
  }

pub tree-law : TreeLaw
tree-law table cells l others rows f d = after-building table cells l others rows f d
