-- Down onto a head that isn't divided
use Rattle.std.proofs.{Common.{◌≢◌, ℕ, Bool, false, eqb, List, [], ◌∷◌, refl, sym, ap, ◌∙◌, subst, arith}, lemmas.Bool.{eqb-true, eqb-false, ne_eqb}}
use Rattle.dc_node.specs.declared.entry.Entry.{Entry}
use Rattle.list_words.specs.Counts.{Each}
use Rattle.list_words.proofs.Truth.{on_bool, eqb-self}
use Rattle.tree_shape.specs.{Queries.{QueryOk, fits}, Shape.{Node, Shape, Table}, Trees.TreeOk, Walks.Noted}
use Rattle.tree_shape.proofs.{Cutting.Relations.{DownPassed, Grew, Lowered, LoweredTree, NoneHas, SameLinks, Touched, lower}, Reading.Queries.query-lowered, Whole.Trees.tree-lowered}

-- the entries that a row came beneath expect the stamps that they did
pub stamps-touched : (table : Table) (r c u : ℕ) (es es2 : List Entry) → Touched table r c es es2 → Each (λ e. e.stamp ≢ u) es → Each (λ e. e.stamp ≢ u) es2
stamps-touched table r c u [] [] t h = tt
stamps-touched table r c u [] (x ∷ xs) t h = absurd t
stamps-touched table r c u (e ∷ es) [] t h = absurd t
stamps-touched table r c u (e ∷ es) (e2 ∷ es2) t h = ((λ q. h.0 (sym t.0.stamp ∙ q)), stamps-touched table r c u es es2 t.1 h.1)

module _ (g : Shape) (look look3 : ℕ → Node) (table : Table) (k c r : ℕ) (tree : TreeOk g look table) (d : DownPassed g look look3 table k c r) where
  abbrev pub pass-shape : Shape
  pass-shape = lower g r c

  low : Lowered g pass-shape r c
  low = record {
    tree = record { height = refl; inside = λ y. refl; level = λ y. refl; above = λ y l. refl };
    c_inside = d.c_inside;
    c_level = (let a = d.c_level in let b = d.next in omega arith);
    c_above = ap (g.above c) d.next ∙ d.c_above;
    r_placed = d.r_placed;
    r_carried = d.r_carried;
    placed = λ q. refl;
    carried = λ q. refl;
    now = rw (eqb-self r) refl;
    at = λ q h. rw (ne_eqb q r h) refl;
  }

  links : SameLinks look look3
  links = record {
    stamp = λ y. on_bool (eqb y (g.at r)) (λ q. let e = eqb-true _ _ q in rw e d.top_stamp) (λ q. ap (λ (b : Node). b.stamp) (d.other y (eqb-false _ _ q)));
    right = λ y. on_bool (eqb y (g.at r)) (λ q. let e = eqb-true _ _ q in rw e d.top_right) (λ q. ap (λ (b : Node). b.right) (d.other y (eqb-false _ _ q)));
  }

  lowered : LoweredTree g pass-shape look look3 table r c
  lowered = record {
    low = low;
    next = (let a = d.c_level in let b = d.next in omega arith);
    c_head = d.c_head;
    group = λ h. refl;
    head = λ y. refl;
    below_c = rw (eqb-self c) refl;
    below = λ h ne. rw (ne_eqb h c ne) refl;
    links = links;
    rows = λ y. on_bool (eqb y (g.at r)) (λ q. let e = eqb-true _ _ q in rw e d.top_rows) (λ q. ap (λ (b : Node). b.rows) (d.other y (eqb-false _ _ q)));
    entries = d.top;
    numbered = d.numbered;
    other = λ y ne. ap (λ (b : Node). b.entries) (d.other y ne);
  }

  pub tree-passed : TreeOk pass-shape look3 table
  tree-passed = tree-lowered g pass-shape look look3 table r c tree.shape lowered tree

  pub query-passed : (must fits : ℕ → Bool) (ps : List Noted) (counted : List ℕ) → QueryOk g look must fits ps counted → QueryOk pass-shape look3 must fits ps counted
  query-passed must fits ps counted q = query-lowered g pass-shape look look3 r c must fits ps counted tree.shape low links q

  pub grew-passed : Grew g pass-shape (λ y. false) k k r c
  grew-passed = record {
    height = refl;
    inside = λ y f. refl;
    level = λ y f. refl;
    head = λ y f e. e;
    new = λ y f. cc;
    placed = λ q. refl;
    carried = λ q. refl;
    at_r = rw (eqb-self r) refl;
    at = λ q ne p f. rw (ne_eqb q r ne) refl;
    x_in = d.c_inside;
    x_level = d.c_level;
    x_head = d.c_head;
  }

  pub stamps-passed : (u : ℕ) → NoneHas g look u → NoneHas pass-shape look3 u
  stamps-passed u h b l i e = on_bool (eqb b (g.at r))
      (λ q. let z = eqb-true _ _ q in
      let o : Each (λ x. x.stamp ≢ u) (look (g.at r)).entries = subst (λ y. Each (λ x. x.stamp ≢ u) (look y).entries) z (h b l i e) in
      rw z (stamps-touched table r c u (look (g.at r)).entries (look3 (g.at r)).entries d.top o))
      (λ q. rw (d.other b (eqb-false _ _ q)) (h b l i e))
