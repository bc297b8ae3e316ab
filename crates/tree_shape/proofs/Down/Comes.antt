-- The tree stays one where a row comes in at the gate
use Rattle.std.proofs.{Common.{◌≡◌, ℕ, ◌+◌, ◌<◌, true, false, cond, eqb, List, [], ◌∷◌, refl, sym, ap, ◌∙◌, subst, arith}, lemmas.Bool.{eqb-true, eqb-false}}
use Rattle.dc_node.specs.declared.entry.Entry.{Entry}
use Rattle.list_words.specs.Counts.{Each, same}
use Rattle.list_words.proofs.Truth.{on_bool}
use Rattle.tree_shape.specs.{Shape.{Node, Shape, ShapeOk, Table}, Trees.{EntryOk, TreeOk}, Walks.{IsNoted, beneath, noted_of, reach}}
use Rattle.tree_shape.proofs.{Cutting.Relations.{CameTree, IsSumOf}, Reading.Queries.{reach-high, noted-same, reach-same}, Whole.Trees.spans-same}

module _ (g g2 : Shape) (look look2 : ℕ → Node) (table : Table) (r gate : ℕ) (t : TreeOk g look table) (d : CameTree g g2 look look2 r gate) where
  shape-came : ShapeOk g2
  shape-came =
      let ok = t.shape in
      let u = d.came in
      let s = u.tree in
      let hh = s.height in
      record {
        itself = λ y i. ap (g2.above y) (s.level y) ∙ s.above y (g.level y) ∙ ok.itself y (sym (s.inside y) ∙ i);
        below = λ y i. let b = ok.below y (sym (s.inside y) ∙ i) in let e = s.level y in omega arith;
        higher = λ y l i le lt. let e = s.level y in let h = ok.higher y l (sym (s.inside y) ∙ i) (omega arith) (omega arith) in
            (rw (s.above y l) (s.inside _ ∙ h.0), rw (s.above y l) (s.level _ ∙ h.1));
        coherent = λ y l m i le lm lt. let e = s.level y in
            s.above (g2.above y l) m ∙ ap (λ (w : ℕ). g.above w m) (s.above y l) ∙ ok.coherent y l m (sym (s.inside y) ∙ i) (omega arith) lm (omega arith) ∙ sym (s.above y m);
        stands = λ q p. on_bool (eqb q r)
            (λ b. rw (eqb-true _ _ b, u.now_at) (s.inside gate ∙ u.c_inside))
            (λ b. let ne = eqb-false _ _ b in rw (u.at q ne) (s.inside _ ∙ ok.stands q (sym (u.placed q ne) ∙ p)));
        settled = λ q p n. on_bool (eqb q r)
            (λ b. let bad : true ≡ false = sym d.now_carried ∙ ap g2.carried (sym (eqb-true _ _ b)) ∙ n in cc)
            (λ b. let ne = eqb-false _ _ b in rw (u.at q ne) (s.level _ ∙ ok.settled q (sym (u.placed q ne) ∙ p) (sym (u.carried q ne) ∙ n)));
      }

  entry-came : (b l : ℕ) (e : Entry) → l + 1 < g.height → EntryOk g look table l e → EntryOk g2 look2 table l e
  entry-came b l e lt k =
      let u = d.came in
      let th : IsNoted g2 look2 (noted_of g l e) = noted-same g g2 look look2 (noted_of g l e) u.tree d.links k.group in
      let tp = d.top in
      record {
        group = rw (d.group e.child) th;
        members = λ y i lv. rw (d.group e.child, d.head y) (k.members y (sym (u.tree.inside y) ∙ i) (sym (u.tree.level y) ∙ lv));
        rows = λ q. rw (d.below e.child, d.group e.child) (k.rows q ∙ on_bool (eqb q r)
            (λ w. let e1 = eqb-true _ _ w in
            let z : beneath g (noted_of g l e) r ≡ 0 = rw u.before refl in
            let y : reach g2 (noted_of g l e) (g2.at r) ≡ 0 = rw u.now_at (reach-same g g2 (noted_of g l e) gate u.tree ∙ reach-high g (noted_of g l e) gate (omega arith)) in
            rw e1 (z ∙ sym (rw d.now_placed y)))
            (λ w. let ne = eqb-false _ _ w in
            rw (u.placed q ne, u.at q ne) (ap (λ (v : ℕ). cond (g.placed q) v 0) (sym (reach-same g g2 (noted_of g l e) (g.at q) u.tree)))));
        summary = subst (λ (ns : List ℕ). IsSumOf table ns e) (sym (d.below e.child)) k.summary;
      }

  entries-came : (b l : ℕ) (es : List Entry) → l + 1 < g.height → Each (EntryOk g look table l) es → Each (EntryOk g2 look2 table l) es
  entries-came b l [] lt k = tt
  entries-came b l (e ∷ es) lt k = (entry-came b l e lt k.0, entries-came b l es lt k.1)

  pub tree-came : TreeOk g2 look2 table
  tree-came =
      let u = d.came in
      record {
        shape = shape-came;
        heads = λ y i. rw (d.head y) (u.tree.inside _ ∙ t.heads y (sym (u.tree.inside y) ∙ i));
        leaves = λ b i lv q.
            let old = t.leaves b (sym (u.tree.inside b) ∙ i) (sym (u.tree.level b) ∙ lv) q in
            rw (d.rows b) (old ∙ on_bool (eqb q r)
            (λ w. let e = eqb-true _ _ w in rw (e, u.before, d.now_placed, d.now_carried) refl)
            (λ w. let ne = eqb-false _ _ w in rw (u.placed q ne, u.carried q ne, u.at q ne) refl));
        dirs = λ b l i lv.
            let i1 = sym (u.tree.inside b) ∙ i in
            let l1 = sym (u.tree.level b) ∙ lv in
            let k = t.dirs b l i1 l1 in
            let lt = t.shape.below b i1 in
            record {
              entries = rw (d.entries b) (entries-came b l (look b).entries (omega arith) k.entries);
              each = λ y yi yl. rw (d.entries b) (spans-same g g2 y (look b).entries d.group ∙ k.each y (sym (u.tree.inside y) ∙ yi) (sym (u.tree.level y) ∙ yl) ∙ ap (λ (w : ℕ). same w b) (sym (u.tree.above y (l + 1))));
            };
      }
