-- A gate over an empty leaf
use Rattle.std.proofs.{Common.{◌≡◌, ℕ, ◌<◌, true, false, cond, eqb, List, [], ◌∷◌, refl, sym, ap, ◌∙◌, subst, arith}, lemmas.Bool.{eqb-true, eqb-false, ne_eqb, eq-eqb}, lemmas.List.Elements.All-nil}
use Rattle.std.specs.Prelude.{None}
use Rattle.dim_hierarchy.specs.{Rows.IsRowOf, declared.row.Row.Row}
use Rattle.dc_node.specs.declared.block.Body.TheVariants.{Rows}
use Rattle.link_descent.specs.shard_store.specs.Gate.{root_entry}
use Rattle.list_words.specs.Counts.{times}
use Rattle.list_words.proofs.{Times.{same_is, same_not}, Truth.on_bool}
use Rattle.tree_shape.specs.{Laws.OpeningLaw, Shape.{Node, Shape, ShapeOk, Table, TreeCells, gate_node, node_of, nodes}, Steps.{AfterOpening, OpensOver}, Trees.{BlockOk, EntryOk}}
use Rattle.tree_shape.proofs.Whole.Assembled.{node-block, node-gate}

abbrev pub opening_shape : ℕ → ℕ → Shape
opening_shape gate root = record {
  height = 2;
  inside = λ y. cond (eqb y gate) true (eqb y root);
  level = λ y. cond (eqb y gate) 1 0;
  above = λ y l. cond (eqb l 1) gate y;
  head = λ y. y;
  group = λ h. h ∷ [];
  below = λ h. [];
  placed = λ r. false;
  carried = λ r. false;
  at = λ r. root;
}

module _ (table : Table) (cells : TreeCells) (s : ℕ) (d : OpensOver table cells (record { stamp = s; right = None; body = Rows (record { items = [] }) })) where
  abbrev gate : ℕ
  gate = cells.gate_cell

  abbrev root : ℕ
  root = cells.gate.root

  abbrev g : Shape
  g = opening_shape cells.gate_cell cells.gate.root

  abbrev look : ℕ → Node
  look = nodes cells

  level-gate : g.level gate ≡ 1
  level-gate = rw (eq-eqb gate gate refl) refl

  level-root : g.level root ≡ 0
  level-root = rw (ne_eqb root gate d.apart) refl

  in-gate : g.inside gate ≡ true
  in-gate = rw (eq-eqb gate gate refl) refl

  in-root : g.inside root ≡ true
  in-root = rw (ne_eqb root gate d.apart, eq-eqb root root refl) refl

  sorts : {P : Type 0} → (y : ℕ) → g.inside y ≡ true → (y ≡ gate → P) → (y ≡ root → P) → P
  sorts y i a b = on_bool (eqb y gate) (λ q. a (eqb-true _ _ q)) (λ q. b (eqb-true _ _ (rw q at i)))

  levels : {P : Type 0} → (l : ℕ) → l < 2 → (l ≡ 0 → P) → (l ≡ 1 → P) → P
  levels l lt a b = on_bool (eqb l 0) (λ q. a (eqb-true _ _ q)) (λ q. let ne = eqb-false _ _ q in b (omega arith))

  shape_ok : ShapeOk g
  shape_ok = record {
    itself = λ y i. sorts y i (λ e. rw (e, level-gate) refl) (λ e. rw (e, level-root) refl);
    below = λ y i. sorts y i (λ e. rw (e, level-gate) (omega arith)) (λ e. rw (e, level-root) (omega arith));
    higher = λ y l i le lt. levels l lt
        (λ z. sorts y i
        (λ e. let a = ap g.level e in let b = level-gate in absurd (omega arith))
        (λ e. rw (z, e) (in-root, level-root)))
        (λ z. rw z (in-gate, level-gate));
    coherent = λ y l m i le lm lt. levels m lt
        (λ z. let lz : l ≡ 0 = omega arith in rw (z, lz) refl)
        (λ z. rw z refl);
    stands = λ r p. cc;
    settled = λ r p f. cc;
  }

  look_root : look root ≡ node_of (record { stamp = s; right = None; body = Rows (record { items = [] }) })
  look_root = node-block cells root d.apart ∙ ap node_of d.root

  look_gate : look gate ≡ gate_node cells.gate
  look_gate = node-gate cells

  entry_ok : EntryOk g look table 0 (root_entry cells.gate)
  entry_ok = record {
    group = record {
      walks = ([], refl, ap (λ (x : Node). x.stamp) look_root ∙ sym d.stamp);
      low = omega arith;
      cells = λ y on. on_bool (eqb y root)
          (λ q. let e = eqb-true _ _ q in rw e (in-root, level-root))
          (λ q. let o = same_not y root (eqb-false _ _ q) in absurd (omega arith));
    };
    members = λ y i lv. omega arith;
    rows = λ r. refl;
    summary = record { valid = All-nil (IsRowOf table.hierarchy); agg = d.agg; set_of = d.set };
  }

  pub after-opening : AfterOpening table cells
  after-opening = record {
    shape = g;
    tree = record {
      tree = record {
        shape = shape_ok;
        heads = λ y i. i;
        leaves = λ b i lv r. sorts b i
            (λ e. let a = ap g.level e in let c = level-gate in absurd (omega arith))
            (λ e. ap (λ (y : ℕ). times r (look y).rows) e ∙ ap (λ (x : Node). times r x.rows) look_root);
        dirs = λ b l i lv. sorts b i
            (λ e.
            let lz : l ≡ 0 = (let a = ap g.level e in let c = level-gate in omega arith) in
            let es : (look b).entries ≡ root_entry cells.gate ∷ [] = ap (λ (y : ℕ). (look y).entries) e ∙ ap (λ (x : Node). x.entries) look_gate in
            rw lz (record {
              entries = rw es (entry_ok, tt);
              each = λ y yi yl. rw es (sorts y yi
                  (λ q. let a = ap g.level q in let c = level-gate in absurd (omega arith))
                  (λ q. let a = same_is y root q in let c = same_is gate b (sym e) in omega arith));
            }))
            (λ e. let a = ap g.level e in let c = level-root in absurd (omega arith));
      };
      top = in-gate;
      some = (let hh = d.height in omega arith);
      height = (let hh = d.height in omega arith);
      level = level-gate ∙ sym d.height;
      only = λ y i l. sorts y i (λ e. e) (λ e. let a = ap g.level e in let c = level-root in let hh = d.height in absurd (omega arith));
      entered = λ r p e. cc;
      heads = λ r p c. refl;
      alone = λ q r p c p2 c2 e. cc;
      numbered = λ r p. cc;
      blocks = λ b i bg. sorts b i
          (λ e. absurd (bg e))
          (λ e. let lv : g.level b ≡ 0 = ap g.level e ∙ level-root in
          subst (BlockOk table g b) (sym (ap cells.block e ∙ d.root)) (record {
            kind = sym (eq-eqb (g.level b) 0 lv);
            some = λ up. absurd (omega arith);
            few = omega arith;
            rows = tt;
            room = λ r p c a. cc;
          }));
    };
    empty = λ r. refl;
    others = λ y yg yr. rw (ne_eqb y gate yg) (ne_eqb y root yr);
  }

pub opening-law : (s : ℕ) (items : List Row) → items ≡ [] → OpeningLaw (record { stamp = s; right = None; body = Rows (record { items = items }) })
opening-law s items e = λ table cells o. after-opening table cells s (subst (λ (xs : List Row). OpensOver table cells (record { stamp = s; right = None; body = Rows (record { items = xs }) })) e o)
